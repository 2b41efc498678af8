-- Numbers that rise by n. A set's members rise by n where its number is moved up n bits: one law over any distance.
use mathlib.Core.Path.{◌≡◌, sym, ap, ◌∙◌, fun_ext}
use mathlib.Core.Logic.{◌≢◌}
use mathlib.Core.Bool.{true}
use Prim.Native.Nat.{ℕ, ◌+◌, ◌-◌, ◌*◌, ◌/◌, ◌%◌, ◌^◌, ◌<◌, ◌≤◌}
use native.Mathlib.Nat.{mul_assoc}
use native.Mathlib.Omega.{arith}
use native.Mathlib.Decide.{dec_lt}
use lib.Dec.{eqb, lit<}
use lib.Pow.{pow-add, shl_exact, shl-shr, shr-shr}
use borrow.Author.Tests.{le-leb, lt-leb, eq-eqb, ne_eqb, eqb-false}
use Rattle.model.specs.Fields.{bits}
use Rattle.model.specs.Sets.{of_bits}
use Rattle.model.specs.Words.{spare_word}
use Rattle.model.specs.Join.{raised, raised_set}
use Rattle.model.proofs.Laws.{if_law}
use Rattle.sets.proofs.Bits.{within_less}

-- ---- a number

module _ (n y : ℕ) where
  pub none_stays : y ≡ 64 → 64 ≡ raised n y
  none_stays e = sym (rw (eq-eqb y 64 e))

  pub node_rises : (y ≡ 64 → ⊥) → y + n ≡ raised n y
  node_rises d = sym (rw (ne_eqb y 64 d))

  pub raised_node_room : y + n < 64 → raised n y < 2 ^ 6
  raised_node_room h = rw (ne_eqb y 64 (λ e. absurd (omega arith))) h

  pub raised_room : n ≤ 64 → y ≤ 64 → raised n y < 2 ^ 7
  raised_room h g = if_law (λ (k : ℕ). k < 2 ^ 7) (eqb y 64) 64 (y + n) (λ e. lit< tt) (λ e. let d : y ≢ 64 = eqb-false y 64 e in omega arith)

-- ---- a spare's word

module _ (n w : ℕ) (e : w ≡ spare_word (bits 0 7 w)) where
  spare_sum : w ≡ 4 * 2 ^ 28 + bits 0 7 w
  unfolding spare_word
  spare_sum = e

  pub spare_stays : w ≡ 4 * 2 ^ 28 + 64 → w ≡ spare_word (raised n (bits 0 7 w))
  spare_stays h = e ∙ ap spare_word (let s : bits 0 7 w ≡ 64 = omega (arith, spare_sum) in s ∙ none_stays n (bits 0 7 w) s)

  pub spare_rises : w ≢ 4 * 2 ^ 28 + 64 → w + n ≡ spare_word (raised n (bits 0 7 w))
  unfolding spare_word
  spare_rises d =
      let s : bits 0 7 w ≢ 64 = λ q. d (omega (arith, spare_sum)) in
      let f : w + n ≡ 4 * 2 ^ 28 + (bits 0 7 w + n) = omega (arith, spare_sum) in
      f ∙ ap (λ (k : ℕ). 4 * 2 ^ 28 + k) (node_rises n (bits 0 7 w) s)

  pub spare_low : bits 0 7 w ≤ 64 → w ≤ 4 * 2 ^ 28 + 64
  spare_low h = omega (arith, spare_sum)

-- ---- a set

-- the bits from n on are the number's
from_n : (v n y : ℕ) → n ≤ y → v * 2 ^ n / 2 ^ y ≡ v / 2 ^ (y - n)
from_n v n y h =
    let e : y ≡ n + (y - n) = omega arith in
    ap (λ (j : ℕ). v * 2 ^ n / 2 ^ j) e ∙ sym (shr-shr (v * 2 ^ n) n (y - n)) ∙ ap (λ (w : ℕ). w / 2 ^ (y - n)) (shl-shr v n)

-- those below n are clear
below_n : (v n y : ℕ) → y < n → v * 2 ^ n / 2 ^ y % 2 ≡ 0
below_n v n y h =
    let e : n ≡ n - y - 1 + 1 + y = omega arith in
    let w : ℕ = v * 2 ^ (n - y - 1) in
    let f : v * 2 ^ n ≡ w * 2 ^ 1 * 2 ^ y =
    ap (λ (j : ℕ). v * 2 ^ j) e ∙ ap (λ (p : ℕ). v * p) (pow-add 2 (n - y - 1 + 1) y) ∙ sym (mul_assoc v (2 ^ (n - y - 1 + 1)) (2 ^ y))
    ∙ ap (λ (p : ℕ). v * p * 2 ^ y) (pow-add 2 (n - y - 1) 1) ∙ ap (λ (p : ℕ). p * 2 ^ y) (sym (mul_assoc v (2 ^ (n - y - 1)) (2 ^ 1))) in
    ap (λ (p : ℕ). p / 2 ^ y % 2) f ∙ ap (λ (p : ℕ). p % 2) (shl-shr (w * 2 ^ 1) y) ∙ omega arith

raised_bits : (v n y : ℕ) → of_bits (v * 2 ^ n) y ≡ raised_set n (of_bits v) y
raised_bits v n y =
    elim (dec_lt y n) [
      | yes l ↦ ap (λ (d : ℕ). eqb d 1) (below_n v n y l) ∙ sym (rw (lt-leb n y l))
      | no l ↦ let h : n ≤ y = omega arith in ap (λ (w : ℕ). eqb (w % 2) 1) (from_n v n y h) ∙ sym (rw (le-leb n y h))
    ]

-- in a word of 64 bits, where no member rises above 63
pub raised_view : (v n : ℕ) → n < 64 → v < 2 ^ 64 → ((y : ℕ) → of_bits v y ≡ true → y + n < 64) → of_bits ((v * 2 ^ n) % 2 ^ 64) ≡ raised_set n (of_bits v)
raised_view v n hn hv low =
    ap of_bits (shl_exact (64 - n) n 64 (within_less (64 - n) v (omega arith) hv (λ y e. let l : y + n < 64 = low y e in omega arith)) (omega arith))
    ∙ fun_ext (raised_bits v n)
