-- The words of a pair: their formats, without the candidate mark, and a difference that wraps.
use Rattle.std.proofs.Common.{◌≡◌, ℕ, ◌+◌, ◌-◌, ◌*◌, ◌/◌, ◌%◌, ◌^◌, ◌<◌, eqb, sym, refl, ap, ◌∙◌, ap₂, mod-lt, mod-eq_of_lt, div-add-mod', arith, lit<}
use native.Mathlib.Decide.{dec_lt}
use lib.Arith.{mod-mul, digits_mod}
use lib.Bits.{bit_and, and_block, and_mask}
use Rattle.model.specs.Fields.{bits, bit, flag}
use Rattle.model.specs.Words.{pair_word, spare_word}
use Rattle.valid_nodes.proofs.Formats.{of_kind_lem, bit_flag, lowest, mark_above}

pub pair_format : (w : ℕ) → eqb w (pair_word (bits 0 24 w) (flag 24 w) (flag 25 w)) ≡ eqb (w / 2 ^ 26) 12
unfolding pair_word
pair_format w = of_kind_lem 26 3 12 w (bit (flag 25 w) * 2 ^ 25 + bit (flag 24 w) * 2 ^ 24 + bits 0 24 w) parts refl
  where
    parts : bit (flag 25 w) * 2 ^ 25 + bit (flag 24 w) * 2 ^ 24 + bits 0 24 w ≡ w % 2 ^ 26
    parts =
        let a : w % 2 ^ 26 ≡ w / 2 ^ 25 % 2 * 2 ^ 25 + w % 2 ^ 25 = mod-mul w {m = 2} {c = 2 ^ 25} (lit< tt) (lit< tt) in
        let b = mark_above w in
        let c = bit_flag 25 w in
        omega arith

pub spare_format : (w : ℕ) → eqb w (spare_word (bits 0 7 w)) ≡ eqb (w / 2 ^ 7) 8388608
unfolding spare_word
spare_format w = of_kind_lem 7 4 8388608 w (bits 0 7 w) (lowest 7 w) refl

-- most - a, wrapped
abbrev pub wrapped : ℕ → ℕ → ℕ
wrapped most a = (most + (2 ^ 32 - a)) % 2 ^ 32

pub wrapped_back : (most a : ℕ) → most < 2 ^ 32 → a < 2 ^ 32 → (wrapped most a + a) % 2 ^ 32 ≡ most
wrapped_back most a hm ha =
    elim (dec_lt most a) [
      | yes l ↦ let m : wrapped most a ≡ most + (2 ^ 32 - a) = mod-eq_of_lt (omega arith) in omega arith
      | no d ↦ let m : wrapped most a ≡ most - a = omega arith in omega arith
    ]

-- the mask takes bit 25 out
pub without_candidate : (u : ℕ) → u < 2 ^ 32 → bit_and u 4261412863 ≡ u / 2 ^ 26 * 2 ^ 26 + u % 2 ^ 25
without_candidate u h =
    ap (λ (v : ℕ). bit_and v 4261412863) (sym (div-add-mod' u (2 ^ 26)))
    ∙ and_block 26 (u / 2 ^ 26) 63 (u % 2 ^ 26) 33554431 (mod-lt u (lit< tt)) (lit< tt)
    ∙ ap₂ (λ (a b : ℕ). a * 2 ^ 26 + b)
    (and_mask (u / 2 ^ 26) 6 ∙ mod-eq_of_lt (omega arith))
    (and_mask (u % 2 ^ 26) 25
    ∙ ap (λ (v : ℕ). v % 2 ^ 25) (mod-mul u {m = 2} {c = 2 ^ 25} (lit< tt) (lit< tt))
    ∙ digits_mod (u / 2 ^ 25 % 2) (mod-lt u (lit< tt)))
