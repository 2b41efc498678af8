-- A set as a number of bits, and back.
use mathlib.Core.Path.{◌≡◌, refl, sym, ap, ◌∙◌, fun_ext}
use Prim.Native.Nat.{ℕ, zero, suc, ◌+◌, ◌*◌, ◌/◌, ◌%◌, ◌^◌, ◌≤◌, ◌<◌}
use native.Mathlib.Nat.{le_trans, not-suc-le-zero, one-le-pow, pow-le-pow_right, add-mul-div_right, add-mul-mod_self_right, div-eq_of_lt, mod-eq_of_lt}
use native.Mathlib.Omega.{arith}
use native.Mathlib.Decide.{ℕ_discrete, dec_lt}
use mathlib.Core.Bool.{Bool, true, false}
use lib.Arith.{digits_div}
use lib.Dec.{eqb, lit<}
use Rattle.std.specs.Prelude.{if◌then◌else◌}
use Rattle.model.specs.Sets.{Set, to_bits, of_bits}
use Rattle.model.specs.Fields.{bit}
use Rattle.model.proofs.Laws.{clash, is_false}

-- a mark as a bit, read back
pub bit< : (b : Bool) → bit b < 2
bit< true = lit< tt
bit< false = lit< tt

pub is_bit : (b : Bool) → eqb (bit b) 1 ≡ b
is_bit true = refl
is_bit false = refl

-- one more bit, as a digit
more : (k : ℕ) (S : Set) → to_bits (suc k) S ≡ to_bits k S + bit (S k) * 2 ^ k
unfolding to_bits
more k S = go (S k)
  where
    go : (b : Bool) → to_bits k S + (if b then 2 ^ k else 0) ≡ to_bits k S + bit b * 2 ^ k
    go true = omega arith
    go false = omega arith

pub to_bits< : (k : ℕ) (S : Set) → to_bits k S < 2 ^ k
unfolding to_bits
to_bits< zero S = lit< tt
to_bits< (suc k) S = go (S k) (to_bits< k S)
  where
    go : (b : Bool) → to_bits k S < 2 ^ k → to_bits k S + (if b then 2 ^ k else 0) < 2 ^ suc k
    go true h = omega arith
    go false h = omega arith

-- a higher power of two is an even number of times a lower one
even : (y k : ℕ) → y < k → (q : ℕ) × (2 ^ k ≡ q * 2 * 2 ^ y)
even y zero h = absurd (not-suc-le-zero h)
even y (suc k) h =
    elim (ℕ_discrete y k) [
      | yes e ↦ (1, rw e (omega arith))
      | no d ↦ let p = even y k (omega arith) in
          let e : 2 ^ k ≡ p.0 * 2 * 2 ^ y = p.1 in
          (p.0 * 2, omega arith)
    ]

-- the bits of a set, read back: those below k
pub bits_below : (k : ℕ) (S : Set) (y : ℕ) → y < k → of_bits (to_bits k S) y ≡ S y
bits_below zero S y h = absurd (not-suc-le-zero h)
bits_below (suc k) S y h =
    elim (ℕ_discrete y k) [
      | yes e ↦ rw e
          (ap (λ (w : ℕ). eqb (w / 2 ^ k % 2) 1) (more k S)
          ∙ ap (λ (w : ℕ). eqb (w % 2) 1) (top k S)
          ∙ ap (λ (w : ℕ). eqb w 1) (mod-eq_of_lt (bit< (S k)))
          ∙ is_bit (S k))
      | no d ↦ ap (λ (w : ℕ). eqb w 1) (lower (omega arith)) ∙ bits_below k S y (omega arith)
    ]
  where
    top : (k : ℕ) (S : Set) → (to_bits k S + bit (S k) * 2 ^ k) / 2 ^ k ≡ bit (S k)
    top k S =
        let e : to_bits k S + bit (S k) * 2 ^ k ≡ bit (S k) * 2 ^ k + to_bits k S = omega arith in
        ap (λ (w : ℕ). w / 2 ^ k) e ∙ digits_div (bit (S k)) (to_bits< k S)

    lower : y < k → to_bits (suc k) S / 2 ^ y % 2 ≡ to_bits k S / 2 ^ y % 2
    lower l =
        let p = even y k l in
        let e : 2 ^ k ≡ p.0 * 2 * 2 ^ y = p.1 in
        let f : bit (S k) * 2 ^ k ≡ bit (S k) * p.0 * 2 * 2 ^ y = ap (λ (w : ℕ). bit (S k) * w) e ∙ omega arith in
        ap (λ (w : ℕ). w / 2 ^ y % 2) (more k S ∙ ap (λ (w : ℕ). to_bits k S + w) f)
        ∙ ap (λ (w : ℕ). w % 2) (add-mul-div_right (to_bits k S) (bit (S k) * p.0 * 2) (one-le-pow y 2 (lit< tt)))
        ∙ add-mul-mod_self_right (to_bits k S / 2 ^ y) (bit (S k) * p.0) 2

-- a number below 2 ^ k has no bit from k on
pub no_bit_above : (k B y : ℕ) → B < 2 ^ k → k ≤ y → of_bits B y ≡ false
no_bit_above k B y b h = ap (λ (w : ℕ). eqb (w % 2) 1) (div-eq_of_lt (le_trans b (pow-le-pow_right (lit< tt) h)))

pub bit_below : (k B y : ℕ) → B < 2 ^ k → of_bits B y ≡ true → y < k
bit_below k B y b e =
    elim (dec_lt y k) [
      | yes h ↦ h
      | no d ↦ clash e (no_bit_above k B y b (omega arith))
    ]

-- a set of numbers below k is read back
pub bits_back : (k : ℕ) (S : Set) → ((y : ℕ) → S y ≡ true → y < k) → of_bits (to_bits k S) ≡ S
bits_back k S low = fun_ext at
  where
    at : (y : ℕ) → of_bits (to_bits k S) y ≡ S y
    at y =
        elim (dec_lt y k) [
          | yes h ↦ bits_below k S y h
          | no d ↦ no_bit_above k (to_bits k S) y (to_bits< k S) (omega arith) ∙ sym (is_false (S y) (λ e. d (low y e)))
        ]
