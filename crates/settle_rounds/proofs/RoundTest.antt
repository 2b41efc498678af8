-- A test for a fair round, computed from the rings and the answers of a list's points: where it holds there is a round, part by part.
use mathlib.Core.Path.{◌≡◌, refl, sym, ap, ap₂, ◌∙◌, subst}
use Prim.Native.Nat.{ℕ, zero, suc, ◌+◌, ◌-◌, ◌≤◌, ◌<◌}
use native.Mathlib.Omega.{arith}
use mathlib.Core.Bool.{Bool, true, false, not, ◌&&◌}
use mathlib.Core.List.{List, [], ◌∷◌}
use lib.ListN.{length, get_or}
use lib.Dec.{eqb, leb}
use borrow.Author.Tests.{eqb-true, leb-true}
use Rattle.std.specs.Prelude.{if◌then◌else◌}
use Rattle.model.specs.Choice.{◌⇒◌, every}
use Rattle.model.specs.Sets.{Set, all, some}
use Rattle.model.specs.Leafset.{size}
use Rattle.model.specs.Ring.{Ring, is_running}
use Rattle.model.specs.Answers.{is_accepted}
use Rattle.model.specs.WellFormed.{Each}
use Rattle.model.specs.Events.{event_of, is_timer}
use Rattle.model.specs.ConnectivityPreserved.{Harmless, is_harmless, read_at, answer_at}
use Rattle.model.specs.declared.event.Event.{Event}
use Rattle.model.specs.declared.event.Event.TheVariants.{On, Off, Notice, Contact, Timer, Deliver, Lose}
use Rattle.model.proofs.Laws.{clash, and_left, and_right, not_out, implies_out, every_out, all_out, some_out}
use Rattle.model.proofs.Lists.{first, rest}
use Rattle.model.proofs.Answers.{accepted_is}
use Rattle.model.proofs.ConnectivityPreserved.{harmless_decides}
use Rattle.settle_rounds.specs.Rounds.{Fate, flying, gone, onward, is_loss, event_at, fate_after, Round}
use Rattle.settle_rounds.proofs.Turns.{node_of}

abbrev pub is_timer_of : ℕ → ℕ → Event → Bool
is_timer_of x j (On y) = false
is_timer_of x j (Off y polite) = false
is_timer_of x j (Notice y z) = false
is_timer_of x j (Contact y z) = false
is_timer_of x j (Timer y k) = eqb y.0 x && eqb k j
is_timer_of x j (Deliver i echo) = false
is_timer_of x j (Lose i) = false

abbrev pub is_gone : Fate → Bool
is_gone (flying i) = false
is_gone gone = true

-- ---- the test

module _ (rings : ℕ → Ring) (answers : ℕ → ℕ) (events : ℕ → Event) where
  unfoldable pub fate_by : ℕ → ℕ → ℕ → Fate
  fate_by p i zero = flying i
  fate_by p i (suc d) = if is_accepted (answers (p + d)) then onward (events (p + d)) (fate_by p i d) else fate_by p i d

  abbrev pub does_no_harm : ℕ → Bool
  does_no_harm k = is_accepted (answers k) ⇒ is_harmless (rings k) (events k)

  abbrev pub loses_none : ℕ → Bool
  loses_none k = is_accepted (answers k) ⇒ not (is_loss (events k))

  abbrev pub is_fired : ℕ → ℕ → ℕ → ℕ → Bool
  is_fired p q x j = some (q - p) (λ d. is_accepted (answers (p + d)) && is_timer_of x j (events (p + d)))

  -- between two points: nothing accepted does harm; nothing is lost; of every running node each timer of a set fires; what is in flight is delivered
  abbrev pub harmless : ℕ → ℕ → Bool
  harmless p q = all (q - p) (λ d. does_no_harm (p + d))

  abbrev pub lossless : ℕ → ℕ → Bool
  lossless p q = all (q - p) (λ d. loses_none (p + d))

  abbrev pub fires : Set → ℕ → ℕ → Bool
  fires J p q = all (size (rings p).table) (λ x. is_running (rings p) x ⇒ all 5 (λ j. J j ⇒ is_fired p q x j))

  abbrev pub delivers : ℕ → ℕ → Bool
  delivers p q = all (length (rings p).messages) (λ i. is_gone (fate_by p i (q - p)))

abbrev event : List ℕ → ℕ → Event
event words k = event_of (get_or words k 0)

module _ (rings : ℕ → Ring) (answers : ℕ → ℕ) (words : List ℕ) where
  -- the parts of Round
  abbrev pub parts : ℕ → ℕ → List Bool
  parts p q =
      leb p q
      ∷ leb q (length words)
      ∷ harmless rings answers (event words) p q
      ∷ lossless rings answers (event words) p q
      ∷ fires rings answers (event words) is_timer p q
      ∷ delivers rings answers (event words) p q
      ∷ []

  unfoldable pub is_round : ℕ → ℕ → Bool
  is_round p q = every (parts p q)

-- ---- it gives a round

timer_is : (x j : ℕ) (e : Event) → is_timer_of x j e ≡ true → e ≡ Timer (node_of x) j
timer_is x j (On y) h = clash h refl
timer_is x j (Off y polite) h = clash h refl
timer_is x j (Notice y z) h = clash h refl
timer_is x j (Contact y z) h = clash h refl
timer_is x j (Timer y k) h =
    ap₂ (λ (a b : ℕ). Timer (node_of a) b) (eqb-true y.0 x (and_left (eqb y.0 x) (eqb k j) h)) (eqb-true k j (and_right (eqb y.0 x) (eqb k j) h))
timer_is x j (Deliver i echo) h = clash h refl
timer_is x j (Lose i) h = clash h refl

gone_is : (f : Fate) → is_gone f ≡ true → f ≡ gone
gone_is (flying i) h = clash h refl
gone_is gone h = refl

timer_low : (j : ℕ) → is_timer j ≡ true → j < 5
timer_low j h = let l = leb-true j 4 (and_left (leb j 4) _ h) in omega arith

module _
    (start words : List ℕ) (rings : ℕ → Ring) (answers : ℕ → ℕ)
    (are : (k : ℕ) → k ≤ length words → read_at start words k ≡ rings k)
    (answered : (k : ℕ) → k < length words → answer_at start words k ≡ answers k) where
  fate_same : (p q i : ℕ) → q ≤ length words → (d : ℕ) → p + d ≤ q → fate_after start words p i d ≡ fate_by rings answers (event words) p i d
  unfolding fate_after fate_by
  fate_same p q i w zero h = refl
  fate_same p q i w (suc d) h = rw (answered (p + d) (omega arith), fate_same p q i w d (omega arith))

  pub round_tested :
      (p q : ℕ) → ((x : ℕ) → is_running (rings p) x ≡ true → x < size (rings p).table) → is_round rings answers words p q ≡ true → Round start words p q
  unfolding is_round
  round_tested p q low e =
      let o : p ≤ q = ordered in
      let w : q ≤ length words = within in
      record {
        ordered = ordered;
        within = within;
        lossless = λ k f l ok.
            let at : p + (k - p) ≡ k = omega arith in
            let taken : is_accepted (answers k) ≡ true = ap is_accepted (sym (answered k (omega arith)) ∙ ok) in
            let t : does_no_harm rings answers (event words) k ≡ true = subst (λ (i : ℕ). does_no_harm rings answers (event words) i ≡ true) at
            (all_out (q - p) (λ d. does_no_harm rings answers (event words) (p + d)) (first (rest (rest each))) (k - p) (omega arith)) in
            let u : loses_none rings answers (event words) k ≡ true = subst (λ (i : ℕ). loses_none rings answers (event words) i ≡ true) at
            (all_out (q - p) (λ d. loses_none rings answers (event words) (p + d)) (first (rest (rest (rest each)))) (k - p) (omega arith)) in
            let h : Harmless (rings k) (event words k) = (harmless_decides (rings k) (event words k)).0
            (implies_out (is_accepted (answers k)) _ t taken) in (
              subst (λ (s : Ring). Harmless s (event_at start words k)) (sym (are k (omega arith))) h,
              not_out (is_loss (event words k)) (implies_out (is_accepted (answers k)) _ u taken),
            );
        fires = λ x on j is.
            let run : is_running (rings p) x.0 ≡ true = ap (λ (s : Ring). is_running s x.0) (sym (are p (omega arith))) ∙ on in
            let of-x =
            implies_out (is_running (rings p) x.0) _ (all_out (size (rings p).table)
            (λ y. is_running (rings p) y ⇒ all 5 (λ k. is_timer k ⇒ is_fired rings answers (event words) p q y k)) (first (rest (rest (rest (rest each))))) x.0
            (low x.0 run)) run in
            let s = some_out (q - p) (λ d. is_accepted (answers (p + d)) && is_timer_of x.0 j (event words (p + d)))
            (implies_out (is_timer j) _ (all_out 5 (λ k. is_timer k ⇒ is_fired rings answers (event words) p q x.0 k) of-x j (timer_low j is)) is) in
            let d : ℕ = s.0 in
            let l : d < q - p = s.1 in (
              p + d,
              omega arith,
              omega arith,
              (
                answered (p + d) (omega arith) ∙ accepted_is (answers (p + d)) (and_left (is_accepted (answers (p + d))) _ s.2),
                timer_is x.0 j
                    (event words (p + d)) (and_right (is_accepted (answers (p + d))) _ s.2),
              ),
            );
        delivers = λ i h.
            fate_same p q i within (q - p) (omega arith)
            ∙ gone_is (fate_by rings answers (event words) p i (q - p))
            (all_out (length (rings p).messages) (λ k. is_gone (fate_by rings answers (event words) p k (q - p)))
            (first (rest (rest (rest (rest (rest each)))))) i
            (subst (λ (s : Ring). i < length s.messages) (are p (omega arith)) h));
      }
    where
      each : Each (λ b. b ≡ true) (parts rings answers words p q)
      each = every_out (parts rings answers words p q) e

      ordered : p ≤ q
      ordered = leb-true p q (first each)

      within : q ≤ length words
      within = leb-true q (length words) (first (rest each))
