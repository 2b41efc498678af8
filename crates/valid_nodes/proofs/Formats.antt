-- A word is the one that its named bits give exactly where its other bits are those of its kind.
use mathlib.Core.Path.{◌≡◌, refl, sym, ap, ap₂, ◌∙◌}
use Prim.Native.Nat.{ℕ, zero, suc, ◌+◌, ◌*◌, ◌/◌, ◌%◌, ◌^◌, ◌<◌}
use native.Mathlib.Nat.{div-add-mod', mod-lt, one-le-pow}
use native.Mathlib.Omega.{arith}
use mathlib.Core.Bool.{Bool, true, false, ◌&&◌}
use mathlib.Core.List.{[], ◌∷◌}
use lib.Arith.{digits_div, mod-mul}
use lib.Bits.{bit_xor, xor_add_and, xor_self, xor_shr, and_le_l, and_le_r}
use lib.Dec.{leb, eqb, lit<}
use borrow.Author.Tests.{eqb-true, eq-eqb}
use Rattle.model.specs.Choice.{every}
use Rattle.model.specs.Fields.{bits, bit, flag}
use Rattle.model.specs.Words.{sides_of, sides_fit, head_word, key_word, clock_word}
use Rattle.model.proofs.Laws.{same_test}
use Rattle.valid_nodes.specs.Nodes.{head_reads}

-- of kind k with v for the low bits: the high bits are q
pub of_kind_lem : (low k q w v : ℕ) → v ≡ w % 2 ^ low → k * 2 ^ 28 ≡ q * 2 ^ low → eqb w (k * 2 ^ 28 + v) ≡ eqb (w / 2 ^ low) q
of_kind_lem low k q w v e h =
    let l : w % 2 ^ low < 2 ^ low = mod-lt w (one-le-pow low 2 (lit< tt)) in
    let d : w / 2 ^ low * 2 ^ low + w % 2 ^ low ≡ w = div-add-mod' w (2 ^ low) in
    same_test (eqb w (k * 2 ^ 28 + v)) (eqb (w / 2 ^ low) q)
    (λ t. eq-eqb (w / 2 ^ low) q (ap (λ (u : ℕ). u / 2 ^ low) (eqb-true w (k * 2 ^ 28 + v) t ∙ ap₂ ◌+◌ h e) ∙ digits_div q l))
    (λ t. eq-eqb w (k * 2 ^ 28 + v) (sym d ∙ ap₂ ◌+◌ (ap (λ (u : ℕ). u * 2 ^ low) (eqb-true (w / 2 ^ low) q t) ∙ sym h) (sym e)))

-- a mark is its bit
pub bit_flag : (low w : ℕ) → bit (flag low w) ≡ bits low 1 w
bit_flag low w = go (bits low 1 w) (mod-lt (w / 2 ^ low) (lit< tt))
  where
    go : (b : ℕ) → b < 2 → bit (eqb b 1) ≡ b
    go zero h = refl
    go (suc zero) h = refl
    go (suc (suc b)) h = absurd (omega arith)

-- the lowest bits
pub lowest : (k w : ℕ) → bits 0 k w ≡ w % 2 ^ k
lowest k w = ap (λ (u : ℕ). u % 2 ^ k) (omega arith)

pub head_format : (w : ℕ) → eqb w (head_word (sides_of w) (bits 4 7 w) (bits 11 11 w)) ≡ eqb (w / 2 ^ 26) 4
unfolding head_word
head_format w = of_kind_lem 26 1 4 w (bits 22 4 w * 2 ^ 22 + bits 11 11 w * 2 ^ 11 + bits 4 7 w * 2 ^ 4 + bits 0 4 w) parts refl
  where
    parts : bits 22 4 w * 2 ^ 22 + bits 11 11 w * 2 ^ 11 + bits 4 7 w * 2 ^ 4 + bits 0 4 w ≡ w % 2 ^ 26
    parts =
        let z : w % 2 ^ 26 ≡ w / 2 ^ 22 % 2 ^ 4 * 2 ^ 22 + w % 2 ^ 22 = mod-mul w {m = 2 ^ 4} {c = 2 ^ 22} (lit< tt) (lit< tt) in
        let a : w % 2 ^ 22 ≡ w / 2 ^ 11 % 2 ^ 11 * 2 ^ 11 + w % 2 ^ 11 = mod-mul w {m = 2 ^ 11} {c = 2 ^ 11} (lit< tt) (lit< tt) in
        let b : w % 2 ^ 11 ≡ w / 2 ^ 4 % 2 ^ 7 * 2 ^ 4 + w % 2 ^ 4 = mod-mul w {m = 2 ^ 7} {c = 2 ^ 4} (lit< tt) (lit< tt) in
        rw (lowest 4 w, z, a, b) (omega arith)

-- a mark above 24 bits
pub mark_above : (w : ℕ) → bit (flag 24 w) * 2 ^ 24 + bits 0 24 w ≡ w % 2 ^ 25
mark_above w = rw (bit_flag 24 w, lowest 24 w) (sym (mod-mul w {m = 2} {c = 2 ^ 24} (lit< tt) (lit< tt)))

pub key_format : (w : ℕ) → eqb w (key_word (bits 0 24 w) (flag 24 w)) ≡ eqb (w / 2 ^ 25) 16
unfolding key_word
key_format w = of_kind_lem 25 2 16 w (bit (flag 24 w) * 2 ^ 24 + bits 0 24 w) (mark_above w) refl

pub clock_format : (w : ℕ) → eqb w (clock_word (bits 0 24 w)) ≡ eqb (w / 2 ^ 24) 80
unfolding clock_word
clock_format w = of_kind_lem 24 5 80 w (bits 0 24 w) (lowest 24 w) refl

-- two words differ in no bit, or in none from `low` on
pub xor_test : (a b : ℕ) → eqb (bit_xor a b) 0 ≡ eqb a b
xor_test a b =
    same_test (eqb (bit_xor a b) 0) (eqb a b)
    (λ e. eq-eqb a b (let h = eqb-true (bit_xor a b) 0 e in omega (arith, xor_add_and a b, and_le_l a b, and_le_r a b)))
    (λ e. eq-eqb (bit_xor a b) 0 (ap (λ (u : ℕ). bit_xor u b) (eqb-true a b e) ∙ xor_self b))

pub xor_above : (low a b : ℕ) → eqb (bit_xor a b / 2 ^ low) 0 ≡ eqb (a / 2 ^ low) (b / 2 ^ low)
xor_above low a b = ap (λ (u : ℕ). eqb u 0) (xor_shr a b low) ∙ xor_test (a / 2 ^ low) (b / 2 ^ low)

-- word 0, as the code joins its tests
pub head_tests : (w : ℕ) → (eqb (w / 2 ^ 26) 4 && sides_fit (sides_of w) && leb 1 (bits 4 7 w) && leb (bits 4 7 w) 64 && leb (bits 11 11 w) 1024) ≡ head_reads w
unfolding head_reads
head_tests w = regroup (eqb (w / 2 ^ 26) 4) (sides_fit (sides_of w)) (leb 1 (bits 4 7 w)) (leb (bits 4 7 w) 64) (leb (bits 11 11 w) 1024) ∙ rw (head_format w)
  where
    regroup : (a b d e f : Bool) → (a && b && d && e && f) ≡ every (a ∷ b ∷ (d && e) ∷ f ∷ [])
    regroup false b d e f = refl
    regroup true false d e f = refl
    regroup true true false e f = refl
    regroup true true true false f = refl
    regroup true true true true false = refl
    regroup true true true true true = refl
