-- Demand 3: from a point with no acknowledgement and no type 13 from a running node in flight, and while only harmless words are
-- accepted, connected nodes stay so. Each word is a step of Cut; the lent words follow the ring.
use mathlib.Core.Path.{◌≡◌, refl, sym, ap, ap₂, ◌∙◌, subst}
use mathlib.Core.Logic.{◌↔◌, inl, inr}
use Prim.Native.Nat.{ℕ, zero, suc, ◌+◌, ◌-◌, ◌≤◌, ◌<◌}
use native.Mathlib.Nat.{le_refl, le_of_suc-le-suc, not-suc-le-zero}
use native.Mathlib.Omega.{arith}
use native.Mathlib.Decide.{ℕ_discrete}
use mathlib.Core.Bool.{Bool, true, not, ◌&&◌}
use mathlib.Core.List.Memᴰ
use mathlib.Core.List.{List, [], ◌∷◌, Memᴰ}
use lib.ListN.{length, get_or, take}
use lib.Dec.{leb}
use borrow.Author.Tests.{leb-true, le-leb}
use Rattle.model.specs.Sets.{Set, some}
use Rattle.model.specs.Leafset.{size}
use Rattle.model.specs.Ring.{Node, Message, Ring, is_running}
use Rattle.model.specs.WellFormed.{WellFormed, Each}
use Rattle.model.specs.Answers.{is_accepted}
use Rattle.model.specs.Events.{event_of}
use Rattle.model.specs.Words.{encode, decode, reads_as_ring}
use Rattle.model.specs.Play.{after, play_answer, play_word, play_all}
use Rattle.model.specs.Buffer.{Written, play_buffer, play_buffer_all}
use Rattle.model.specs.ConnectivityPreserved.{NoAcknowledgement, LeaversOff, Harmless, is_harmless, Reached, opened, played, joined}
use Rattle.model.specs.ConnectivityPreserved.{words_at, read_at, answer_at, ring_at, AcceptedIsHarmless}
use Rattle.model.specs.ConnectivityPreserved.{Uncovered, is_uncovered, uncovered, Unbroken, ConnectivityPreserved}
use Rattle.model.specs.Connection.{Connected}
use Rattle.model.specs.Join.{raised, raised_message, join, join_buffer, Joinable}
use Rattle.model.specs.declared.event.Event.{Event}
use Rattle.model.specs.declared.event.Event.TheVariants.{On, Off, Notice, Contact, Timer, Deliver, Lose}
use Rattle.model.proofs.Laws.{clash, and_left, and_right, and_in, not_in, not_out, decide, if_law, some_in, some_out}
use Rattle.model.proofs.Lists.{each_imp}
use Rattle.model.proofs.Choices.{Member, members_are, some_members}
use Rattle.model.proofs.Answers.{accepted_is}
use Rattle.model.proofs.RoundTrip.{round_trip}
use Rattle.model.proofs.Fits.{encoded_reads}
use Rattle.model.proofs.WellFormedPlay.{word_well}
use Rattle.model.proofs.Follows.{follows, opened_well, opened_words}
use Rattle.model.proofs.Joins.{raised_is, first_node, second_node, joined_well, joinable, accepted_words}
use Rattle.model.proofs.Cut.{clock, Step, Steps, stay, more, at_point_lem, leavers_steps, intact_steps, never_parted}
use Rattle.model.proofs.Handlers.{each_in, map_out, Requests, event_step, event_requests, initial_requests, unchanged}

-- ---- a word

-- the test decides the definition
pub harmless_decides : (r : Ring) (e : Event) → (is_harmless r e ≡ true) ↔ Harmless r e
harmless_decides r (On x) = ((λ t. clash t refl), (λ h. absurd h))
harmless_decides r (Off x polite) = ((λ t. clash t refl), (λ h. absurd h))
harmless_decides r (Notice x z) = (not_out (is_running r z.0), (λ h. not_in h))
harmless_decides r (Contact x y) = ((λ t. tt), (λ h. refl))
harmless_decides r (Timer x k) = ((λ t. tt), (λ h. refl))
harmless_decides r (Deliver i echo) = ((λ t. tt), (λ h. refl))
harmless_decides r (Lose i) = ((λ t. tt), (λ h. refl))

-- what is accepted is harmless, on a ring
abbrev HarmlessWord : Ring → ℕ → Type 0
HarmlessWord r w = (play_word r w).answer ≡ 0 → Harmless r (event_of w)

module _ (r : Ring) (well : WellFormed r) (q : Requests r) (w : ℕ) where
  requests_word : Requests (play_word r w).ring
  unfolding play_word
  requests_word = if_law Requests (is_accepted (play_answer r w)) (after r (event_of w)) r (λ a. event_requests r well q (event_of w)) (λ a. q)

  step_word : LeaversOff r → HarmlessWord r w → Step r (play_word r w).ring
  unfolding play_word
  step_word off harmless =
      if_law (Step r) (is_accepted (play_answer r w)) (after r (event_of w)) r
      (λ a. event_step r well q off (event_of w) (harmless (accepted_is (play_answer r w) a)))
      (λ a. unchanged r)

-- ---- a ring that was reached

-- the lent words are those of the ring, it is well-formed, and its requests are not ahead
record Invariant (ws : List ℕ) (r : Ring) : Type 0 where
  encoded : ws ≡ encode r
  well : WellFormed r
  requests : Requests r

-- a word keeps it
word_invariant : {ws : List ℕ} {r : Ring} → Invariant ws r → (w : ℕ) → Invariant (play_buffer ws w).words (play_word r w).ring
word_invariant {r = r} i w =
    record {
      encoded = ap (λ (l : List ℕ). (play_buffer l w).words) i.encoded ∙ ap (λ (q : Written). q.words) (follows r i.well w);
      well = word_well r w i.well;
      requests = requests_word r i.well i.requests w;
    }

-- a join keeps it: a request keeps its stamp, and its sender its clock

module _ (r s : Ring) (g : WellFormed r) (h : WellFormed s) (may : Joinable r s) where
  abbrev n : ℕ
  n = size r.table

  first_clock : (x : ℕ) → x < n → clock (join r s) x ≡ clock r x
  first_clock x l = ap (λ (q : Node). q.clock) (first_node r s x l)

  second_clock : (x : ℕ) → x < size s.table → clock (join r s) (raised n x) ≡ clock s x
  second_clock x l =
      let back : x + n - n ≡ x = omega arith in
      ap (clock (join r s)) (raised_is n (size s.table) may.size_fits x l)
      ∙ ap (λ (q : Node). q.clock) (second_node r s (x + n) (omega arith))
      ∙ ap (clock s) back

  joined_requests : Requests r → Requests s → Requests (join r s)
  unfolding join
  joined_requests p q m into nine =
      elim (Memᴰ.append_cases r.messages into) [
        | inl o ↦ rw (first_clock m.sender (each_in g.messages_well o).sender_low) (p m o nine)
        | inr t ↦ of_second (map_out (raised_message n) s.messages m t)
      ]
    where
      of_second : (a : Message) × Memᴰ a s.messages × (m ≡ raised_message n a) → m.stamp ≤ clock (join r s) m.sender
      of_second (a, o, e) =
          subst (λ (b : Message). b.stamp ≤ clock (join r s) b.sender) (sym e)
          (rw (second_clock a.sender (each_in h.messages_well o).sender_low) (q a o (ap (λ (b : Message). b.type) (sym e) ∙ nine)))

reads_back : {ws : List ℕ} {r : Ring} → Invariant ws r → decode ws ≡ r
reads_back {r = r} i = ap decode i.encoded ∙ round_trip r i.well

may_join :
    {first second : List ℕ} {r s : Ring} → Invariant first r → Invariant second s
    → (third : List ℕ) → (join_buffer first second third).answer ≡ 0 → Joinable r s
unfolding join_buffer
may_join {first} {second} {r} {s} i j third ok =
    subst (λ (q : Ring). Joinable q s) (reads_back i) (subst (Joinable (decode first)) (reads_back j) (joinable first second third ok))

joined_invariant :
    {first second : List ℕ} {r s : Ring} → Invariant first r → Invariant second s
    → (third : List ℕ) → (join_buffer first second third).answer ≡ 0
    → Invariant (join_buffer first second third).words (join r s)
unfolding join_buffer
joined_invariant {first} {second} {r} {s} i j third ok =
    let may : Joinable r s = may_join i j third ok in
    record {
      encoded = accepted_words first second third ok ∙ ap₂ (λ (p q : Ring). encode (join p q)) (reads_back i) (reads_back j);
      well = joined_well r s i.well j.well may;
      requests = joined_requests r s i.well j.well may i.requests j.requests;
    }

-- it holds of every ring that was reached
invariant : {ws : List ℕ} {r : Ring} → Reached ws r → Invariant ws r
invariant (opened old t ok) = record { encoded = opened_words old t ok; well = opened_well old t ok; requests = initial_requests t }
invariant (played p w) = word_invariant (invariant p) w
invariant (joined p q third ok) = joined_invariant (invariant p) (invariant q) third ok

pub reached_well : {ws : List ℕ} {r : Ring} → Reached ws r → WellFormed r
reached_well reached = (invariant reached).well

pub reached_may_join :
    {first second : List ℕ} {r s : Ring} → Reached first r → Reached second s
    → (third : List ℕ) → (join_buffer first second third).answer ≡ 0 → Joinable r s
reached_may_join p q third ok = may_join (invariant p) (invariant q) third ok

pub reached_reads : {ws : List ℕ} {r : Ring} → Reached ws r → reads_as_ring ws ≡ true
reached_reads {r = r} reached = ap reads_as_ring (invariant reached).encoded ∙ encoded_reads r (invariant reached).well

-- a list leaves a ring that was reached
pub list_reaches : {ws : List ℕ} {r : Ring} → Reached ws r → (words : List ℕ) → Reached (play_buffer_all ws words) (play_all r words)
unfolding play_all play_buffer_all
list_reaches {ws = ws} {r = r} reached [] = reached
list_reaches {ws = ws} {r = r} reached (w ∷ words) = list_reaches {ws = (play_buffer ws w).words} {r = (play_word r w).ring} (played reached w) words

-- ---- the points of a list

-- the ring of the next point
pub next : (r : Ring) (words : List ℕ) (k : ℕ) → k < length words → play_all r (take (suc k) words) ≡ (play_word (play_all r (take k words)) (get_or words k 0)).ring
unfolding play_all
next r [] k h = absurd (not-suc-le-zero h)
next r (w ∷ words) zero h = refl
next r (w ∷ words) (suc k) h = next (play_word r w).ring words k (le_of_suc-le-suc h)

module _ (start : List ℕ) (r : Ring) (reached : Reached start r) (words : List ℕ) where
  abbrev ring : ℕ → Ring
  ring = ring_at start words r

  invariant_at : (i : ℕ) → Invariant (words_at start words i) (ring i)
  invariant_at i = invariant (list_reaches reached (take i words))

  -- every word between two points is a step, where what is accepted is harmless
  steps_at :
      (point later : ℕ) → point ≤ later → later ≤ length words → LeaversOff (ring point)
      → ((k : ℕ) → point ≤ k → k < later → HarmlessWord (ring k) (get_or words k 0))
      → Steps (ring point) (ring later)
  steps_at point zero h l off harmless = let e : point ≡ 0 = omega arith in rw e stay
  steps_at point (suc k) h l off harmless =
      elim (ℕ_discrete point (suc k)) [
        | yes e ↦ rw e stay
        | no n ↦
            (let from : point ≤ k = omega arith in
            let before : Steps (ring point) (ring k) = steps_at point k from (omega arith) off (λ j f h. harmless j f (omega arith)) in
            rw (next r words k l)
            (more before
            (step_word (ring k) (invariant_at k).well (invariant_at k).requests (get_or words k 0) (leavers_steps before off) (harmless k from (omega arith)))))
      ]

  -- ---- the lent words at the points

  ring_follows : (i : ℕ) → read_at start words i ≡ ring i
  ring_follows i = ap decode (invariant_at i).encoded ∙ round_trip (ring i) (invariant_at i).well

  answers_follow : (i : ℕ) → answer_at start words i ≡ (play_word (ring i) (get_or words i 0)).answer
  answers_follow i =
      ap (λ (ws : List ℕ). (play_buffer ws (get_or words i 0)).answer) (invariant_at i).encoded
      ∙ ap (λ (q : Written). q.answer) (follows (ring i) (invariant_at i).well (get_or words i 0))

  harmless_at : (k : ℕ) → AcceptedIsHarmless start words k → HarmlessWord (ring k) (get_or words k 0)
  harmless_at k h accepted = rw (ring_follows k) at (h (answers_follow k ∙ accepted))

  -- ---- two points from one on at which no acknowledgement and no type 13 from a running node is in flight

  abbrev accepted : ℕ → Bool
  accepted i = is_accepted (answer_at start words i)

  abbrev harmless : ℕ → Bool
  harmless i = is_harmless (read_at start words i) (event_of (get_or words i 0))

  decides : (i : ℕ) → (harmless i ≡ true) ↔ Harmless (read_at start words i) (event_of (get_or words i 0))
  decides i = harmless_decides (read_at start words i) (event_of (get_or words i 0))

  abbrev listed : ℕ → Set
  listed point i = leb point i && is_uncovered start words i

  module _
      (point : ℕ)
      (none : NoAcknowledgement (read_at start words point))
      (off : LeaversOff (read_at start words point))
      (earlier later : ℕ)
      (from : point ≤ earlier)
      (on : earlier ≤ later)
      (within : later ≤ length words)
    where
      kept_later :
          ((k : ℕ) → point ≤ k → k < later → AcceptedIsHarmless start words k)
          → (a b : ℕ) → Connected (read_at start words earlier) a b → Connected (read_at start words later) a b
      kept_later covered a b path =
          let gone : LeaversOff (ring point) = rw (ring_follows point) at off in
          let before : Steps (ring point) (ring earlier) =
          steps_at point earlier from (omega arith) gone (λ k f l. harmless_at k (covered k f (omega arith))) in
          rw (ring_follows later)
          (never_parted (λ y h. ((invariant_at later).well.node_well y).running_low h)
          (intact_steps before (at_point_lem (rw (ring_follows point) at none)))
          (steps_at earlier later on within (leavers_steps before gone) (λ k f l. harmless_at k (covered k (omega arith) l)))
          (rw (ring_follows earlier) at path))

      -- if nothing were listed, all would be harmless
      parting :
          (a b : ℕ) → Connected (read_at start words earlier) a b → ¬ Connected (read_at start words later) a b
          → 0 < length (uncovered start words point later)
      parting a b path parted =
          decide (some later (listed point))
          (λ s. let p = some_out later (listed point) s in some_members later (listed point) p.0 (record { below = p.1; within = p.2 }))
          (λ s. absurd (parted (kept_later (λ k f l ok.
          decide (harmless k) (decides k).0
          (λ h. clash (some_in later (listed point) k l (and_in (le-leb point k f) (and_in (ap is_accepted ok) (not_in h)))) s))
          a b path)))

  uncovered_are : (point later : ℕ) → Each (λ i. (point ≤ i) × (i < later) × Uncovered start words i) (uncovered start words point later)
  uncovered_are point later = each_imp are (members_are later (listed point))
    where
      are : (i : ℕ) → Member later (listed point) i → (point ≤ i) × (i < later) × Uncovered start words i
      are i m =
          let u = and_right (leb point i) (is_uncovered start words i) m.within in (
            leb-true point i (and_left (leb point i) (is_uncovered start words i) m.within),
            m.below,
            (
              accepted_is _ (and_left (accepted i) (not (harmless i)) u),
              λ h. clash ((decides i).1 h) (not_out (harmless i) (and_right (accepted i) (not (harmless i)) u)),
            ),
          )

  unbroken : Unbroken start words r
  unbroken =
      record {
        words_follow = λ i h. (invariant_at i).encoded;
        ring_follows = λ i h. ring_follows i;
        answers_follow = λ i h. answers_follow i;
        connection_kept = λ point in_List none off harmless a b path later after-point within.
            kept_later point none off point later (le_refl point) after-point within (λ k from l. harmless k from (omega arith)) a b path;
        connection_kept_later = kept_later;
        parting_is_uncovered = parting;
        uncovered_are = uncovered_are;
      }

pub connectivity_preserved : ConnectivityPreserved
connectivity_preserved start r reached words = unbroken start r reached words
