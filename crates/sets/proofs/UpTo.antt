-- A pass over the numbers from 0 that keeps those that pass a test.
use mathlib.Core.Path.{◌≡◌, sym, ap, ◌∙◌, fun_ext}
use mathlib.Core.Bool.{Bool, true, false, ◌&&◌, ◌||◌, and-true, and-false, or-false, and-or_distrib_right}
use Prim.Native.Nat.{ℕ, ◌+◌, ◌<◌, zero-le}
use native.Mathlib.Omega.{arith}
use native.Mathlib.Decide.{ℕ_discrete}
use lib.Dec.{ltb, eqb}
use borrow.Author.Tests.{ltb-true, lt-ltb, le-ltb, eqb-true, eq-eqb}
use Rattle.model.specs.Sets.{Set, with}
use Rattle.model.proofs.Laws.{or_case, or_left, or_right, decide, same_test}

-- the numbers below x that pass
abbrev pub up_to : ℕ → Set → Set
up_to x p y = ltb y x && p y

below_more : (y x : ℕ) → ltb y (x + 1) ≡ (ltb y x || eqb y x)
below_more y x =
    same_test (ltb y (x + 1)) (ltb y x || eqb y x)
    (λ t.
    let h : y < x + 1 = ltb-true y (x + 1) t in
    elim (ℕ_discrete y x) [ yes e ↦ or_right (ltb y x) (eq-eqb y x e) | no d ↦ or_left (eqb y x) (lt-ltb y x (omega arith)) ])
    (λ t. or_case (ltb y x) (eqb y x) t
    (λ h. let l : y < x = ltb-true y x h in lt-ltb y (x + 1) (omega arith))
    (λ h. let e : y ≡ x = eqb-true y x h in lt-ltb y (x + 1) (omega arith)))

module _ (p : Set) where
  pub up_to_none : {S : Set} → ((y : ℕ) → S y ≡ false) → S ≡ up_to 0 p
  up_to_none f = fun_ext (λ y. f y ∙ rw (le-ltb y 0 zero-le))

  module _ (x : ℕ) where
    same : (y : ℕ) → (eqb y x && p x) ≡ (eqb y x && p y)
    same y = decide (eqb y x) (λ t. ap (λ (k : ℕ). eqb y x && p k) (sym (eqb-true y x t))) (λ f. rw f)

    more : (y : ℕ) → (up_to x p y || (eqb y x && p x)) ≡ up_to (x + 1) p y
    more y =
        ap (λ (b : Bool). up_to x p y || b) (same y) ∙ sym (and-or_distrib_right (ltb y x) (eqb y x) (p y))
        ∙ ap (λ (b : Bool). b && p y) (sym (below_more y x))

    pub up_to_kept : p x ≡ true → with (up_to x p) x ≡ up_to (x + 1) p
    up_to_kept t = fun_ext (λ y. sym (ap (λ (b : Bool). up_to x p y || b) (rw t (and-true (eqb y x)))) ∙ more y)

    pub up_to_passed : p x ≡ false → up_to x p ≡ up_to (x + 1) p
    up_to_passed f = fun_ext (λ y. sym (ap (λ (b : Bool). up_to x p y || b) (rw f (and-false (eqb y x))) ∙ or-false (up_to x p y)) ∙ more y)
