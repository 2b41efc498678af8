-- Sets as numbers: the difference of two numbers, of which one is a part of the other, is the difference of the sets.
use mathlib.Core.Path.{◌≡◌, refl, sym, ap, ◌∙◌}
use mathlib.Core.Bool.{Bool, true, false, not, ◌&&◌}
use Prim.Native.Nat.{ℕ, zero, suc, ◌+◌, ◌-◌, ◌^◌, ◌≤◌, ◌<◌}
use native.Mathlib.Omega.{arith}
use Rattle.std.specs.Prelude.{if◌then◌else◌}
use Rattle.model.specs.Sets.{Set, to_bits, of_bits}
use Rattle.model.proofs.Laws.{clash, and_left}
use Rattle.model.proofs.Bits.{bits_back, bit_below}
use Rattle.sets.proofs.Bits.{to_bits_of_bits}

abbrev minus : Set → Set → Set
minus S R y = S y && not (R y)

split : (k : ℕ) (S R : Set) → ((y : ℕ) → R y ≡ true → S y ≡ true) → to_bits k S ≡ to_bits k (minus S R) + to_bits k R
unfolding to_bits
split zero S R part = refl
split (suc k) S R part = go (S k) (R k) (part k) (split k S R part)
  where
    go : (s r : Bool) → (r ≡ true → s ≡ true) → to_bits k S ≡ to_bits k (minus S R) + to_bits k R
        → to_bits k S + (if s then 2 ^ k else 0) ≡ (to_bits k (minus S R) + (if s && not r then 2 ^ k else 0)) + (to_bits k R + (if r then 2 ^ k else 0))
    go true true p e = omega arith
    go true false p e = omega arith
    go false true p e = clash (p refl) refl
    go false false p e = omega arith

module _ (A B : ℕ) (a : A < 2 ^ 64) (b : B < 2 ^ 64) (part : (y : ℕ) → of_bits B y ≡ true → of_bits A y ≡ true) where
  whole : A ≡ to_bits 64 (minus (of_bits A) (of_bits B)) + B
  whole =
      sym (to_bits_of_bits 64 A a) ∙ split 64 (of_bits A) (of_bits B) part
      ∙ ap (λ (w : ℕ). to_bits 64 (minus (of_bits A) (of_bits B)) + w) (to_bits_of_bits 64 B b)

  pub part_le : B ≤ A
  part_le = omega (arith, whole)

  pub of_bits_minus : of_bits (A - B) ≡ minus (of_bits A) (of_bits B)
  of_bits_minus =
      let e : A - B ≡ to_bits 64 (minus (of_bits A) (of_bits B)) = omega (arith, whole) in
      ap of_bits e ∙ bits_back 64 (minus (of_bits A) (of_bits B)) (λ y t. bit_below 64 A y a (and_left (of_bits A y) (not (of_bits B y)) t))
