-- Convergence, cleanup and getting clean are not empty: lists of words that meet all that they suppose, computed.
use mathlib.Core.Path.{◌≡◌, refl, sym, ap, ◌∙◌, subst}
use Prim.Native.Nat.{ℕ, zero, suc, ◌+◌, ◌-◌, ◌*◌, ◌≤◌, ◌<◌}
use native.Mathlib.Nat.{le_refl, not-suc-le-zero, le_of_suc-le-suc}
use native.Mathlib.Omega.{arith}
use native.Mathlib.Decide.{ℕ_discrete}
use mathlib.Core.Bool.{Bool, true, false, not, ◌&&◌}
use mathlib.Core.List.{List, [], ◌∷◌, ◌++◌, Memᴰ}
use lib.ListN.{length, get_or, take}
use lib.Dec.{eqb, leb}
use borrow.Author.Tests.{eqb-true, leb-true}
use Rattle.model.specs.Choice.{◌⇒◌, every}
use Rattle.model.specs.Sets.{all}
use Rattle.model.specs.Leafset.{Table, size, leafset}
use Rattle.model.specs.Ring.{Ring, Message, initial, holds, is_running}
use Rattle.model.specs.Answers.{is_accepted}
use Rattle.model.specs.WellFormed.{WellFormed, Each}
use Rattle.model.specs.Events.{event_of}
use Rattle.model.specs.Play.{play_answer, play_word, play_all}
use Rattle.model.specs.Buffer.{open_buffer}
use Rattle.model.specs.Connection.{Connected, connected}
use Rattle.model.specs.ConnectivityPreserved.{Harmless, is_harmless, Reached, opened, read_at, answer_at}
use Rattle.model.specs.declared.event.Event.{Event}
use Rattle.model.specs.declared.event.Event.TheVariants.{On, Off, Notice, Contact, Timer, Deliver, Lose}
use Rattle.model.proofs.Laws.{clash, and_left, and_right, not_out, implies_out, every_out, all_out}
use Rattle.model.proofs.Lists.{first, rest}
use Rattle.model.proofs.Handlers.{absent}
use Rattle.model.proofs.Answers.{accepted_is}
use Rattle.model.proofs.Connection.{decides}
use Rattle.model.proofs.ConnectivityPreserved.{harmless_decides, connectivity_preserved}
use Rattle.model.proofs.Base.{computed}
use Rattle.settle_leafsets.specs.Covered.{lacking, Even}
use Rattle.settle_leafsets.proofs.Lacking.{lacking_decides}
use Rattle.settle_kept.specs.Settled.{Settled, AcceptedIs}
use Rattle.settle_kept.specs.Improving.{Clean}
use Rattle.settle_kept.proofs.Closure.{well_at}
use Rattle.settle_rounds.specs.Rounds.{Rounds}
use Rattle.settle_rounds.specs.Progress.{total_lacking, sum_to, enough, Set-out}
use Rattle.settle_rounds.specs.Windows.{Windows}
use Rattle.settle_rounds.specs.GettingClean.{Noticed}
use Rattle.settle_rounds.proofs.RoundTest.{fate_by, is_round, round_tested}
use Rattle.settle_rounds.proofs.Turns.{node_of}
use Rattle.settle_rounds.proofs.Harmlessly.{since, total_falls, set_out_stays}
use Rattle.settle_rounds.proofs.Windows.{first_rounds, other_rounds, as_windows, after_gap}
use Rattle.settle_rounds.proofs.GettingClean.{getting_clean}
use Rattle.settle_cleanup.specs.Convergence.{to_settle}
use Rattle.settle_cleanup.specs.Cleanup.{Tidy, Outside, Nearer, NoStranger, NoStrangers}
use Rattle.settle_cleanup.proofs.Cleanup.{cleanup}
use Rattle.settle_cleanup.proofs.Converging.{convergence, through_losses}

-- ---- every word of a list is accepted

unfoldable pub accepted : Ring → List ℕ → Bool
accepted r [] = true
accepted r (w ∷ ws) = is_accepted (play_answer r w) && accepted (play_word r w).ring ws

accepted_out : (r : Ring) (ws : List ℕ) → accepted r ws ≡ true → (k : ℕ) → k < length ws → (play_word (play_all r (take k ws)) (get_or ws k 0)).answer ≡ 0
unfolding accepted play_all play_word
accepted_out r [] e k h = absurd (not-suc-le-zero h)
accepted_out r (w ∷ ws) e zero h = accepted_is (play_answer r w) (and_left (is_accepted (play_answer r w)) _ e)
accepted_out r (w ∷ ws) e (suc k) h = accepted_out (play_word r w).ring ws (and_right (is_accepted (play_answer r w)) _ e) k (le_of_suc-le-suc h)

-- the rings of all points, computed once
unfoldable pub scan : Ring → List ℕ → List Ring
scan r [] = r ∷ []
scan r (w ∷ ws) = r ∷ scan (play_word r w).ring ws

unfoldable pub memo : Ring → List Ring → ℕ → Ring
memo r l k = get_or l k r

scanned : (d r : Ring) (ws : List ℕ) (k : ℕ) → k ≤ length ws → play_all r (take k ws) ≡ memo d (scan r ws) k
unfolding play_all scan memo
scanned d r [] zero h = refl
scanned d r [] (suc k) h = absurd (not-suc-le-zero h)
scanned d r (w ∷ ws) zero h = refl
scanned d r (w ∷ ws) (suc k) h = scanned d (play_word r w).ring ws k (le_of_suc-le-suc h)

abbrev is_contact : Event → Bool
is_contact (On x) = false
is_contact (Off x polite) = false
is_contact (Notice x z) = false
is_contact (Contact x y) = true
is_contact (Timer x k) = false
is_contact (Deliver i echo) = false
is_contact (Lose i) = false

no_contact : (r : Ring) (e : Event) → is_contact e ≡ false → NoStranger r e
no_contact r (On x) h = tt
no_contact r (Off x polite) h = tt
no_contact r (Notice x z) h = tt
no_contact r (Contact x y) h = clash refl h
no_contact r (Timer x k) h = tt
no_contact r (Deliver i echo) h = tt
no_contact r (Lose i) h = tt

-- what Set-out says of a ring in which nothing is in flight
abbrev pairs : Ring → (ℕ → ℕ → Bool) → Bool
pairs r test = all (size r.table) (λ a. all (size r.table) (test a))

abbrev sets_out_tests : Ring → List Bool
sets_out_tests r =
    pairs r (λ x z. holds r x z ⇒ is_running r z)
    ∷ pairs r (λ a b. is_running r a ⇒ (is_running r b ⇒ connected r a b))
    ∷ []

-- K rounds, of accepted words
unfoldable pub are_rounds : ℕ → (ℕ → ℕ) → List ℕ → (ℕ → Ring) → Bool
are_rounds K bound words rings = all K (λ i. leb (bound i) (length words) && is_round rings (λ k. 0) words (bound i) (bound (suc i)))

-- ---- a list of accepted words from an opening

module _ (old : List ℕ) (t : Table) (opens : (open_buffer old t).answer ≡ 0) (words : List ℕ) (ok : accepted (initial t) words ≡ true) where
  abbrev start : List ℕ
  start = (open_buffer old t).words

  abbrev rings : ℕ → Ring
  rings k = memo (initial t) (scan (initial t) words) k

  abbrev answers : ℕ → ℕ
  answers k = 0

  reached : Reached start (initial t)
  reached = opened old t opens

  are : (k : ℕ) → k ≤ length words → read_at start words k ≡ rings k
  are k h = (connectivity_preserved start (initial t) reached words).ring_follows k h ∙ scanned (initial t) (initial t) words k h

  answered : (k : ℕ) → k < length words → answer_at start words k ≡ answers k
  answered k h = (connectivity_preserved start (initial t) reached words).answers_follow k h ∙ accepted_out (initial t) words ok k h

  well : (p : ℕ) → p ≤ length words → WellFormed (rings p)
  well p h = subst WellFormed (are p h) (well_at start (initial t) reached words p)

  -- L rounds, which are K
  unfoldable rounds_tested :
      (K : ℕ) (bound : ℕ → ℕ) → are_rounds K bound words rings ≡ true
      → (L : ℕ) → L ≡ K → Rounds start words L (bound 0) (bound K)
  unfolding are_rounds
  rounds_tested K bound e L is =
      record {
        bound = bound;
        first = refl;
        last = ap bound is;
        rounds = λ i h.
            let both =
            all_out K (λ j. leb (bound j) (length words) && is_round rings answers words (bound j) (bound (suc j))) e i (subst (λ (k : ℕ). i < k) is h) in
            round_tested start words rings answers are answered (bound i) (bound (suc i))
            (λ x on. ((well (bound i) (leb-true (bound i) (length words) (and_left (leb (bound i) (length words)) _ both))).node_well x).running_low on)
            (and_right (leb (bound i) (length words)) (is_round rings answers words (bound i) (bound (suc i))) both);
      }

  module _ (p : ℕ) (h : p ≤ length words) (silent : (rings p).messages ≡ []) (even : Even (rings p).table) (e : every (sets_out_tests (rings p)) ≡ true) where
    tests : Each (λ b. b ≡ true) (sets_out_tests (rings p))
    tests = every_out (sets_out_tests (rings p)) e

    of : (test : ℕ → ℕ → Bool) → pairs (rings p) test ≡ true → (a b : ℕ) → a < size (rings p).table → b < size (rings p).table → test a b ≡ true
    of test q a b la lb = all_out (size (rings p).table) (test a) (all_out (size (rings p).table) (λ c. all (size (rings p).table) (test c)) q a la) b lb

    low : (x : ℕ) → is_running (rings p) x ≡ true → x < size (rings p).table
    low x on = ((well p h).node_well x).running_low on

    gone : (m : Message) → Memᴰ m (rings p).messages → Memᴰ m []
    gone m i = subst (Memᴰ m) silent i

    clean : Clean (rings p)
    clean =
        record {
          holds_running = λ x on z q. implies_out (holds (rings p) x z) _
              (of (λ a b. holds (rings p) a b ⇒ is_running (rings p) b) (first tests) x z (low x on) (((well p h).node_well x).own_well.held_other z q).low) q;
          senders_run = λ m i. absent (gone m i);
          leavers_off = λ m i. absent (gone m i);
        }

    joined : (a b : ℕ) → is_running (rings p) a ≡ true → is_running (rings p) b ≡ true → Connected (rings p) a b
    joined a b ra rb =
        (decides (rings p) a low b).0
        (implies_out (is_running (rings p) b) _ (implies_out (is_running (rings p) a) _
        (of (λ c d. is_running (rings p) c ⇒ (is_running (rings p) d ⇒ connected (rings p) c d)) (first (rest tests)) a b (low a ra) (low b rb)) ra) rb)

    abbrev there : read_at start words p ≡ rings p
    there = are p h

    set_out : Set-out start words p p
    set_out =
        record {
          before = le_refl p;
          none = λ m i. absent (subst (Memᴰ m) (ap (λ (s : Ring). s.messages) there ∙ silent) i);
          off = λ m i. absent (subst (Memᴰ m) (ap (λ (s : Ring). s.messages) there ∙ silent) i);
          harmless = λ k f l. absurd (omega arith);
          even = subst (λ (s : Ring). Even s.table) (sym there) even;
          clean = subst Clean (sym there) clean;
          connected = subst (λ (s : Ring). (a b : ℕ) → is_running s a ≡ true → is_running s b ≡ true → Connected s a b) (sym there) joined;
        }

    tidy : all (size (rings p).table) (λ x. eqb (lacking (rings p) x) 0) ≡ true → Tidy (read_at start words p)
    tidy f =
        subst Tidy (sym there)
        (record {
          clean = clean;
          covered = (lacking_decides (rings p) (well p h) clean.holds_running).0
              (λ x on. eqb-true (lacking (rings p) x) 0 (all_out (size (rings p).table) (λ y. eqb (lacking (rings p) y) 0) f x (low x on)));
          familiar = λ m i. absent (gone m i);
        })

  strangers : (p q : ℕ) → p ≤ q → all (q - p) (λ d. not (is_contact (event_of (get_or words (p + d) 0)))) ≡ true → NoStrangers start words p q
  strangers p q o e k f l a =
      let at : p + (k - p) ≡ k = omega arith in
      no_contact (read_at start words k) (event_of (get_or words k 0))
      (not_out (is_contact (event_of (get_or words k 0)))
      (subst (λ (i : ℕ). not (is_contact (event_of (get_or words i 0))) ≡ true) at
      (all_out (q - p) (λ d. not (is_contact (event_of (get_or words (p + d) 0)))) e (k - p) (omega arith))))

-- ---- two nodes: both go on, one contacts the other, and holds it; a second contact is lost; then 57 fair rounds

unfoldable pub two : Table
two = record { sides = record { ahead = 1; behind = 1 }; keys = 10 ∷ 20 ∷ [] }

unfoldable pub times : ℕ → ℕ → List ℕ
times zero w = []
times (suc k) w = w ∷ times k w

-- the k messages in flight are delivered, oldest first, and then every timer fires
unfoldable pub round : ℕ → List ℕ
round k = times k 0xE0000000 ++ (0xD0000000 ∷ 0xD0002000 ∷ 0xD0003000 ∷ 0xD0004000 ∷ 0xD0000001 ∷ 0xD0002001 ∷ 0xD0003001 ∷ 0xD0004001 ∷ [])

unfoldable pub rounds : List ℕ → List ℕ
rounds [] = []
rounds (k ∷ ks) = round k ++ rounds ks

unfoldable pub two_script : List ℕ
two_script = 0x90000000 ∷ 0x90000001 ∷ 0xC0000040 ∷ 0xE0000000 ∷ 0xE0000000 ∷ 0xC0000040 ∷ 0xF0000000 ∷ rounds (0 ∷ 1 ∷ 3 ∷ 4 ∷ 5 ∷ times 52 6)

-- where round i starts
unfoldable pub bounds : ℕ → ℕ
bounds i = get_or (7 ∷ 15 ∷ 24 ∷ 35 ∷ 47 ∷ []) i (60 + 14 * (i - 5))

unfoldable pub point : ℕ → Ring
point = memo (initial two) (scan (initial two) two_script)

length_row : length two_script ≡ 788
unfolding computed two times round rounds two_script
length_row = refl

accepted_row : accepted (initial two) two_script ≡ true
unfolding computed accepted two times round rounds two_script
accepted_row = refl

rounds_row : are_rounds 57 bounds two_script point ≡ true
unfolding computed is_round fate_by are_rounds scan memo two times round rounds two_script bounds point
rounds_row = refl

-- before the lost contact nothing is in flight, and one is lacked
table_row : (point 5).table ≡ two
unfolding computed scan memo two times round rounds two_script point
table_row = refl

silent_row : (point 5).messages ≡ []
unfolding computed scan memo two times round rounds two_script point
silent_row = refl

lacked_row : total_lacking (point 5) ≡ 1
unfolding computed total_lacking sum_to scan memo two times round rounds two_script point
lacked_row = refl

contacts_row : all (788 - 522) (λ d. not (is_contact (event_of (get_or two_script (522 + d) 0)))) ≡ true
unfolding computed two times round rounds two_script
contacts_row = refl

set_out_row : every (sets_out_tests (point 5)) ≡ true
unfolding computed scan memo two times round rounds two_script point
set_out_row = refl

lost_row : all 2 (λ d. is_harmless (point (5 + d)) (event_of (get_or two_script (5 + d) 0))) ≡ true
unfolding computed scan memo two times round rounds two_script point
lost_row = refl

module _ (old : List ℕ) (opens : (open_buffer old two).answer ≡ 0) where
  abbrev lent : List ℕ
  lent = (open_buffer old two).words

  abbrev at : ℕ → Ring
  at k = read_at lent two_script k

  abbrev from : Reached lent (initial two)
  from = reached old two opens two_script accepted_row

  ring_at_lem : (k : ℕ) → k ≤ 788 → at k ≡ point k
  unfolding point
  ring_at_lem k h = are old two opens two_script accepted_row k (let e = length_row in omega arith)

  table : (at 5).table ≡ two
  table = ap (λ (s : Ring). s.table) (ring_at_lem 5 (omega arith)) ∙ table_row

  out : Set-out lent two_script 5 5
  unfolding point two
  out =
      set_out old two opens two_script accepted_row 5 (let e = length_row in omega arith) silent_row
      (ap (λ (u : Table). u.sides.ahead) table_row ∙ sym (ap (λ (u : Table). u.sides.behind) table_row)) set_out_row

  few : total_lacking (at 5) ≤ 1
  few = let e = ap total_lacking (ring_at_lem 5 (omega arith)) ∙ lacked_row in omega arith

  lost : (k : ℕ) → 5 ≤ k → k < 7 → AcceptedIs lent two_script Harmless k
  lost k f l ok =
      let e : 5 + (k - 5) ≡ k = omega arith in
      (harmless_decides (at k) (event_of (get_or two_script k 0))).0
      (ap (λ (s : Ring). is_harmless s (event_of (get_or two_script k 0))) (ring_at_lem k (omega arith))
      ∙ subst (λ (i : ℕ). is_harmless (point i) (event_of (get_or two_script i 0)) ≡ true) e
      (all_out 2 (λ d. is_harmless (point (5 + d)) (event_of (get_or two_script (5 + d) 0))) lost_row (k - 5) (omega arith)))

  rounds_of : (L : ℕ) → L ≡ 57 → Rounds lent two_script L 7 788
  unfolding rounds_tested point bounds
  rounds_of L e = rounds_tested old two opens two_script accepted_row 57 bounds rounds_row L e

  calm : NoStrangers lent two_script 522 788
  calm = strangers old two opens two_script accepted_row 522 788 (omega arith) contacts_row

  -- all that `convergence` supposes, from the loss on: so it says that the ring is settled at the end
  pub two_settles : Settled (at 788)
  unfolding rounds_of rounds_tested bounds two
  two_settles =
      let inside : 7 ≤ length two_script = (let e = length_row in omega arith) in
      let s = since lent (initial two) from two_script 5 7 (omega arith) inside lost out.clean in
      let is : (at 7).table ≡ two = s.table ∙ table in
      ((convergence lent (initial two) from two_script).converges 1 5 7 788
      (set_out_stays lent (initial two) from two_script 5 7 (omega arith) inside lost out.clean 5 out)
      (omega (arith, few, total_falls lent (initial two) from two_script 5 7 (omega arith) inside lost out.clean))
      (rounds_of (enough (at 7).table * 2 + to_settle (at 7).table) (ap (λ (u : Table). enough u * 2 + to_settle u) is))
      (subst (λ (k : ℕ). NoStrangers lent two_script (bounds k) 788) (sym (ap (λ (u : Table). enough u * 2) is)) calm)).0

  -- and all that it supposes through losses, from before: two windows of 19 rounds, one of 2, two of 8
  pub two_settles_through_losses : Settled (at 774)
  unfolding rounds_of rounds_tested bounds two first_rounds other_rounds
  two_settles_through_losses =
      let all-rounds : Rounds lent two_script (38 + 19) 7 788 = rounds_of 57 refl in
      let others : Rounds lent two_script (2 + 17) 522 788 = other_rounds lent two_script 38 19 7 788 all-rounds in
      let last : Rounds lent two_script (16 + 1) 550 788 = other_rounds lent two_script 2 17 522 788 others in
      let including : Windows lent two_script 19 2 7 522 = as_windows lent two_script 19 2 7 522 (first_rounds lent two_script 38 19 7 788 all-rounds) in
      (through_losses lent (initial two) from two_script 1 5 5 522 550 774 out few
      (subst (λ (n : ℕ). Windows lent two_script n 2 5 522) (sym (ap enough table)) (after_gap lent two_script 5 7 (omega arith) lost including))
      (as_windows lent two_script 2 1 522 550 (first_rounds lent two_script 2 17 522 788 others))
      (subst (λ (n : ℕ). Windows lent two_script 8 n 550 774) (sym (ap size table))
      (as_windows lent two_script 8 2 550 774 (first_rounds lent two_script 16 1 550 788 last)))
      (λ k f l. calm k f (omega arith))).0

-- it opens in any buffer of the right length
pub two_opens : (old : List ℕ) → length old ≡ 13441 → (open_buffer old two).answer ≡ 0
unfolding computed two
two_opens old e = rw e refl

-- ---- two nodes: one contacts the other, which answers and goes off; a round delivers the answer, and then comes a notice

unfoldable pub left_script : List ℕ
left_script =
    0x90000000 ∷ 0x90000001 ∷ 0xC0000040 ∷ 0xE0000000 ∷ 0xA0000001 ∷ 0xE0000000 ∷ 0xD0000000 ∷ 0xD0002000 ∷ 0xD0003000 ∷ 0xD0004000 ∷ 0xB0000040 ∷ []

unfoldable pub left_bounds : ℕ → ℕ
left_bounds i = get_or (5 ∷ []) i 10

unfoldable pub left_point : ℕ → Ring
left_point = memo (initial two) (scan (initial two) left_script)

left_accepted : accepted (initial two) left_script ≡ true
unfolding computed accepted two left_script
left_accepted = refl

left_rounds : are_rounds 1 left_bounds left_script left_point ≡ true
unfolding computed is_round fate_by are_rounds scan memo two left_script left_bounds left_point
left_rounds = refl

left_length : length left_script ≡ 11
unfolding computed left_script
left_length = refl

left_size : size (left_point 10).table ≡ 2
unfolding computed scan memo two left_script left_point
left_size = refl

left_run : (is_running (left_point 10) 0 ≡ true) × (is_running (left_point 10) 1 ≡ false)
unfolding computed scan memo two left_script left_point
left_run = (refl, refl)

left_held : holds (left_point 10) 0 1 ≡ true
unfolding computed scan memo two left_script left_point
left_held = refl

left_word : event_of (get_or left_script 10 0) ≡ Notice (node_of 0) (node_of 1)
unfolding computed left_script
left_word = refl

module _ (old : List ℕ) (opens : (open_buffer old two).answer ≡ 0) where
  abbrev lent_left : List ℕ
  lent_left = (open_buffer old two).words

  abbrev ten : Ring
  ten = read_at lent_left left_script 10

  ten_is : ten ≡ left_point 10
  unfolding left_point
  ten_is = are old two opens left_script left_accepted 10 (let e = left_length in omega arith)

  ten_size : size ten.table ≡ 2
  ten_size = ap (λ (s : Ring). size s.table) ten_is ∙ left_size

  ten_well : WellFormed ten
  ten_well = well_at lent_left (initial two) (reached old two opens left_script left_accepted) left_script 10

  -- nobody but node 0 runs, and holds one that is off
  only_one : (x z : ℕ) → is_running ten x ≡ true → is_running ten z ≡ false → holds ten x z ≡ true
      → Notice (node_of 0) (node_of 1) ≡ Notice (node_of x) (node_of z)
  only_one x z on off held =
      let low_x = (ten_well.node_well x).running_low on in
      let low-z = ((ten_well.node_well x).own_well.held_other z held).low in
      let z-is : z ≡ 1 = elim (ℕ_discrete z 0) [
        | yes e ↦ clash (ap (λ (s : Ring). is_running s z) ten_is ∙ ap (is_running (left_point 10)) e ∙ left_run.0) off
        | no d ↦ omega (arith, ten_size)
      ] in
      let x-is : x ≡ 0 = elim (ℕ_discrete x 1) [
        | yes e ↦ clash on (ap (λ (s : Ring). is_running s x) ten_is ∙ ap (is_running (left_point 10)) e ∙ left_run.1)
        | no d ↦ omega (arith, ten_size)
      ] in
      ap (λ (a : ℕ). Notice (node_of a) (node_of 1)) (sym x-is) ∙ ap (λ (a : ℕ). Notice (node_of x) (node_of a)) (sym z-is)

  told_left : Noticed lent_left left_script 10 11
  told_left =
      record {
        ordered = omega arith;
        within = omega (arith, left_length);
        harmless = λ k f l ok.
            let e : k ≡ 10 = omega arith in
            subst (λ (i : ℕ). Harmless (read_at lent_left left_script i) (event_of (get_or left_script i 0))) (sym e)
            (subst (Harmless ten) (sym left_word) (ap (λ (s : Ring). is_running s 1) ten_is ∙ left_run.1));
        told = λ x z on off held. (
          10,
          omega arith,
          omega arith,
          (answered old two opens left_script left_accepted 10 (omega (arith, left_length)), left_word ∙ only_one x.0 z.0 on off held),
        );
      }

  -- all that `getting-clean` supposes, with a node that is off and held: so it says that the ring is clean after the notice
  pub left_cleans : (holds ten 0 1 ≡ true) × (is_running ten 1 ≡ false) × Clean (read_at lent_left left_script 11)
  unfolding rounds_tested left_point left_bounds
  left_cleans = (
    ap (λ (s : Ring). holds s 0 1) ten_is ∙ left_held,
    ap (λ (s : Ring). is_running s 1) ten_is ∙ left_run.1,
    (getting_clean lent_left (initial two) (reached old two opens left_script left_accepted) left_script).gets_clean 5 10 11
        ((rounds_tested old two opens left_script left_accepted 1 left_bounds left_rounds 1 refl).rounds 0 (omega arith)) told_left,
  )

-- ---- four nodes: each holds its two neighbours, and node 0 holds node 2 too, outside its leafset; then 8 fair rounds

unfoldable pub four : Table
four = record { sides = record { ahead = 1; behind = 1 }; keys = 10 ∷ 20 ∷ 30 ∷ 40 ∷ [] }

unfoldable pub round4 : ℕ → List ℕ
round4 k =
    times k 0xE0000000
    ++ (0xD0000000 ∷ 0xD0002000 ∷ 0xD0003000 ∷ 0xD0004000 ∷ 0xD0000001 ∷ 0xD0002001 ∷ 0xD0003001 ∷ 0xD0004001
    ∷ 0xD0000002 ∷ 0xD0002002 ∷ 0xD0003002 ∷ 0xD0004002 ∷ 0xD0000003 ∷ 0xD0002003 ∷ 0xD0003003 ∷ 0xD0004003 ∷ [])

unfoldable pub four_script : List ℕ
four_script =
    0x90000000 ∷ 0x90000001 ∷ 0x90000002 ∷ 0x90000003 ∷ 0xC0000040 ∷ 0xE0000000
    ∷ 0xE0000000 ∷ 0xC00000C0 ∷ 0xE0000000 ∷ 0xE0000000 ∷ 0xC0000081 ∷ 0xE0000000 ∷ 0xE0000000
    ∷ 0xC0000001 ∷ 0xE0000000 ∷ 0xE0000000 ∷ 0xC00000C2 ∷ 0xE0000000 ∷ 0xE0000000 ∷ 0xC0000042 ∷ 0xE0000000 ∷ 0xE0000000 ∷ 0xC0000003 ∷ 0xE0000000 ∷ 0xE0000000
    ∷ 0xC0000083 ∷ 0xE0000000 ∷ 0xE0000000 ∷ 0xC0000080 ∷ 0xE0000000 ∷ 0xE0000000
    ∷ (round4 0 ++ round4 11 ++ round4 22 ++ round4 24 ++ round4 26 ++ round4 23 ++ round4 20 ++ round4 20)

unfoldable pub four_bounds : ℕ → ℕ
four_bounds i = get_or (31 ∷ 47 ∷ 74 ∷ 112 ∷ 152 ∷ 194 ∷ 233 ∷ 269 ∷ []) i 305

unfoldable pub four_point : ℕ → Ring
four_point = memo (initial four) (scan (initial four) four_script)

four_length : length four_script ≡ 305
unfolding computed four times round4 four_script
four_length = refl

four_accepted : accepted (initial four) four_script ≡ true
unfolding computed accepted four times round4 four_script
four_accepted = refl

four_rounds : are_rounds 8 four_bounds four_script four_point ≡ true
unfolding computed is_round fate_by are_rounds scan memo four times round4 four_script four_bounds four_point
four_rounds = refl

four_table : (four_point 31).table ≡ four
unfolding computed scan memo four times round4 four_script four_point
four_table = refl

four_silent : (four_point 31).messages ≡ []
unfolding computed scan memo four times round4 four_script four_point
four_silent = refl

four_set_out : every (sets_out_tests (four_point 31)) ≡ true
unfolding computed scan memo four times round4 four_script four_point
four_set_out = refl

four_covered : all (size (four_point 31).table) (λ x. eqb (lacking (four_point 31) x) 0) ≡ true
unfolding computed scan memo four times round4 four_script four_point
four_covered = refl

four_contacts : all (305 - 31) (λ d. not (is_contact (event_of (get_or four_script (31 + d) 0)))) ≡ true
unfolding computed four times round4 four_script
four_contacts = refl

four_runs : is_running (four_point 31) 0 ≡ true
unfolding computed scan memo four times round4 four_script four_point
four_runs = refl

four_held : holds (four_point 31) 0 2 ≡ true
unfolding computed scan memo four times round4 four_script four_point
four_held = refl

four_far : leafset (four_point 31).table 0 (is_running (four_point 31)) 2 ≡ false
unfolding computed scan memo four times round4 four_script four_point
four_far = refl

-- all that `cleanup` supposes of 8 rounds, with somebody outside: so it says that the farthest has become nearer
pub four_cleans :
    (old : List ℕ) → (open_buffer old four).answer ≡ 0
    → Outside (read_at (open_buffer old four).words four_script 31) 0 2
    × Nearer 0 (read_at (open_buffer old four).words four_script 31) (read_at (open_buffer old four).words four_script 305)
unfolding rounds_tested four_point four four_bounds
four_cleans old opens = (
  subst (λ (s : Ring). Outside s 0 2) (sym there) (record { held = four_held; far = four_far }),
  (cleanup lent (initial four) (reached old four opens four_script four_accepted) four_script).cleans 31 305
      (tidy old four opens four_script four_accepted 31 inside four_silent even four_set_out four_covered)
      (subst (λ (s : Ring). Even s.table) (sym there) even)
      (rounds_tested old four opens four_script four_accepted 8 four_bounds four_rounds 8 refl)
      (strangers old four opens four_script four_accepted 31 305 (omega arith) four_contacts)
      0 (subst (λ (s : Ring). is_running s 0 ≡ true) (sym there) four_runs),
)
  where
    lent : List ℕ
    lent = (open_buffer old four).words

    inside : 31 ≤ length four_script
    inside = let e = four_length in omega arith

    there : read_at lent four_script 31 ≡ four_point 31
    there = are old four opens four_script four_accepted 31 inside

    even : Even (four_point 31).table
    even = ap (λ (u : Table). u.sides.ahead) four_table ∙ sym (ap (λ (u : Table). u.sides.behind) four_table)

pub four_opens : (old : List ℕ) → length old ≡ 13441 → (open_buffer old four).answer ≡ 0
unfolding computed four
four_opens old e = rw e refl
