-- The step of a timer, by its number.
use mathlib.Core.Path.{◌≡◌, sym, ap, subst, ◌∙◌}
use mathlib.Core.Bool.{false}
use mathlib.Core.List.{List, [], ◌∷◌}
use Prim.Native.Nat.{ℕ, ◌<◌}
use native.Mathlib.Omega.{arith}
use native.Mathlib.Decide.{dec_lt, ℕ_discrete}
use borrow.Author.Tests.{ne_eqb, le-leb}
use Rattle.model.specs.Events.{is_timer, timer_number}
use Rattle.model.specs.declared.timer.TimerKind.{TimerKind}
use Rattle.model.proofs.Laws.{clash, and_in, not_in}
use lib.ListN.{get_or, get_or-eq_default}
use Rattle.model.specs.Leafset.{Table}
use Rattle.model.specs.Ring.{Own}
use Rattle.model.specs.Steps.{Effect, nothing, timer0, timer2, timer3, timer4, timer}

-- what holds of the step of timer k
module _ (t : Table) (me now : ℕ) (o : Own) (k : ℕ) (P : Effect → Type 0) where
  abbrev steps : List Effect
  steps = timer0 t me now o ∷ nothing t me now o ∷ timer2 t me now o ∷ timer3 t me now o ∷ timer4 t me now o ∷ []

  by_number : (j : ℕ) → k ≡ j → P (get_or steps j (nothing t me now o)) → P (timer t me now o k)
  unfolding timer
  by_number j e p = rw e p

  pub by_timer : {kind kind' : TimerKind} → timer_number kind ≡ k → kind ≡ kind' → P (get_or steps (timer_number kind') (nothing t me now o))
      → P (timer t me now o k)
  by_timer {kind' = kind'} e f p = by_number (timer_number kind') (sym e ∙ ap timer_number f) p

  pub by_no_timer : is_timer k ≡ false → P (nothing t me now o) → P (timer t me now o k)
  unfolding timer
  by_no_timer f p =
      elim (dec_lt k 5) [
        | yes h ↦ by_number 1 (only_one h) p
        | no h ↦ subst P (sym (get_or-eq_default steps (nothing t me now o) {n = k} (omega arith))) p
      ]
    where
      only_one : k < 5 → k ≡ 1
      only_one h = elim (ℕ_discrete k 1) [
        | yes e ↦ e
        | no d ↦ clash (and_in (le-leb k 4 (omega arith)) (not_in (ne_eqb k 1 d))) f
      ]
