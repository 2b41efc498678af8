-- The three words of a view under masks, as numbers: within the nodes, and without the receiver's bit.
use mathlib.Core.Path.{◌≡◌, refl, sym, ap, ◌∙◌}
use Prim.Native.Nat.{ℕ, zero, suc, ◌+◌, ◌-◌, ◌*◌, ◌/◌, ◌%◌, ◌^◌, ◌≤◌, ◌<◌}
use native.Mathlib.Nat.{div-eq_of_lt, pow-le-pow_right, mod-lt, mod-eq_of_lt, suc-mul}
use native.Mathlib.Omega.{arith}
use native.Mathlib.Decide.{dec_lt}
use mathlib.Core.Bool.{Bool, true, false, not, ◌&&◌, and-true}
use lib.Arith.{digits_mod}
use lib.Pow.{pow_pos, pow-add, split, shr-shr, field, mod-mod-pow, shr_mod}
use lib.Bits.{bit_and, and_high, and_zero_r}
use lib.Dec.{ltb, leb, eqb, lit<}
use borrow.Author.Tests.{eqb-true, eq-eqb, ne_eqb, lt-ltb, ltb-true, leb-true, le-leb, lt-leb}
use Rattle.std.specs.Prelude.{if◌then◌else◌}
use Rattle.model.specs.Sets.{of_bits}
use Rattle.model.proofs.Laws.{same_test, and_left, and_right, and_in}
use Rattle.valid_messages.specs.Masks.{part, above, receiver_bit}

-- ---- masks

-- no bit from j on
pub none_above : (j u : ℕ) → eqb (u / 2 ^ j) 0 ≡ ltb u (2 ^ j)
none_above j u =
    same_test (eqb (u / 2 ^ j) 0) (ltb u (2 ^ j))
    (λ e. lt-ltb u (2 ^ j) (let q : u / 2 ^ j ≡ 0 = eqb-true (u / 2 ^ j) 0 e in let d : u / 2 ^ j * 2 ^ j + u % 2 ^ j ≡ u = split u j in
    let l : u % 2 ^ j < 2 ^ j = mod-lt u (pow_pos j) in below u (2 ^ j) (u / 2 ^ j) (u % 2 ^ j) d q l))
    (λ e. eq-eqb (u / 2 ^ j) 0 (div-eq_of_lt (ltb-true u (2 ^ j) e)))
  where
    below : (u p q r : ℕ) → q * p + r ≡ u → q ≡ 0 → r < p → u < p
    below u p q r d e l = let f : 0 * p + r ≡ u = ap (λ (x : ℕ). x * p + r) (sym e) ∙ d in omega arith

pub above_test : (j u : ℕ) → j ≤ 32 → u < 2 ^ 32 → eqb (bit_and u (above j)) 0 ≡ ltb u (2 ^ j)
above_test j u h l =
    let e : 32 - j + j ≡ 32 = omega arith in
    let f : bit_and u (above j) ≡ u / 2 ^ j * 2 ^ j =
    ap (λ (k : ℕ). bit_and u (2 ^ k - 2 ^ j)) (sym e) ∙ and_high u (32 - j) j ∙ ap (λ (v : ℕ). v * 2 ^ j) (shr_mod (32 - j) j (rw e l)) in
    ap (λ (v : ℕ). eqb v 0) f ∙ times (u / 2 ^ j) (2 ^ j) (pow_pos j) ∙ none_above j u
  where
    times : (q p : ℕ) → 0 < p → eqb (q * p) 0 ≡ eqb q 0
    times zero p h = eq-eqb (0 * p) 0 (omega arith)
    times (suc q) p h = ne_eqb (suc q * p) 0 (λ e. omega (arith, suc-mul q p)) ∙ sym (ne_eqb (suc q) 0 (λ e. omega arith))

-- no bit b
pub bit_test : (b u : ℕ) → eqb (bit_and u (2 ^ b)) 0 ≡ not (of_bits u b)
bit_test b u =
    let e : 2 ^ (1 + b) - 2 ^ b ≡ 2 ^ b = omega (arith, pow-add 2 1 b) in
    ap (λ (v : ℕ). eqb v 0) (ap (bit_and u) (sym e) ∙ and_high u 1 b) ∙ go (u / 2 ^ b % 2) (2 ^ b) (mod-lt (u / 2 ^ b) (lit< tt)) (pow_pos b)
  where
    go : (d p : ℕ) → d < 2 → 0 < p → eqb (d * p) 0 ≡ not (eqb d 1)
    go zero p h l = eq-eqb (0 * p) 0 (omega arith)
    go (suc zero) p h l = ne_eqb (1 * p) 0 (λ e. omega arith)
    go (suc (suc d)) p h l = absurd (omega arith)

-- ---- parts of the nodes

part_none : (n from : ℕ) → n ≤ from → part n from ≡ 0
part_none n from h = rw (le-leb n from h) refl

part_full : (n from : ℕ) → from + 24 ≤ n → part n from ≡ 24
part_full n from h = rw (lt-leb n from (omega arith), le-leb 24 (n - from) (omega arith)) refl

part_some : (n from : ℕ) → from < n → n ≤ from + 24 → part n from ≡ n - from
part_some n from h l =
    elim (dec_lt n (from + 24)) [
      | yes m ↦ rw (lt-leb n from (omega arith), lt-leb 24 (n - from) (omega arith)) refl
      | no d ↦ part_full n from (omega arith) ∙ omega arith
    ]

-- a view's number, by its three words
abbrev pub number : ℕ → ℕ → ℕ → ℕ
number a b c = a % 2 ^ 24 + 2 ^ 24 * (b % 2 ^ 24) + 2 ^ 48 * (c % 2 ^ 16)

-- its words are no longer than they may be
abbrev pub in_format : ℕ → ℕ → ℕ → Bool
in_format a b c = ltb a (2 ^ 24) && ltb b (2 ^ 24) && ltb c (2 ^ 16)

pub record Short (a b c : ℕ) : Type 0 where
  low : a < 2 ^ 24
  middle : b < 2 ^ 24
  high : c < 2 ^ 16

pub short : (a b c : ℕ) → in_format a b c ≡ true → Short a b c
short a b c e =
    record {
      low = ltb-true a (2 ^ 24) (and_left (ltb a (2 ^ 24)) (ltb b (2 ^ 24)) (and_left (ltb a (2 ^ 24) && ltb b (2 ^ 24)) (ltb c (2 ^ 16)) e));
      middle = ltb-true b (2 ^ 24) (and_right (ltb a (2 ^ 24)) (ltb b (2 ^ 24)) (and_left (ltb a (2 ^ 24) && ltb b (2 ^ 24)) (ltb c (2 ^ 16)) e));
      high = ltb-true c (2 ^ 16) (and_right (ltb a (2 ^ 24) && ltb b (2 ^ 24)) (ltb c (2 ^ 16)) e);
    }

number_short : (a b c : ℕ) → Short a b c → number a b c ≡ a + 2 ^ 24 * b + 2 ^ 48 * c
number_short a b c s = rw (mod-eq_of_lt s.low, mod-eq_of_lt s.middle, mod-eq_of_lt s.high) refl

-- below three bounds exactly where in format and at most a limit
within : (A B C L a b c : ℕ)
    → (a < A → b < B → c < C → Short a b c × (a + 2 ^ 24 * b + 2 ^ 48 * c ≤ L))
    → (Short a b c → a + 2 ^ 24 * b + 2 ^ 48 * c ≤ L → (a < A) × (b < B) × (c < C))
    → (ltb a A && ltb b B && ltb c C) ≡ (in_format a b c && leb (number a b c) L)
within A B C L a b c to from =
    same_test (ltb a A && ltb b B && ltb c C) (in_format a b c && leb (number a b c) L)
    (λ e. let two = and_left (ltb a A && ltb b B) (ltb c C) e in
    let p = to (ltb-true a A (and_left (ltb a A) (ltb b B) two)) (ltb-true b B (and_right (ltb a A) (ltb b B) two))
    (ltb-true c C (and_right (ltb a A && ltb b B) (ltb c C) e))
    in
    and_in
    (and_in (and_in (lt-ltb a (2 ^ 24) p.0.low) (lt-ltb b (2 ^ 24) p.0.middle)) (lt-ltb c (2 ^ 16) p.0.high))
    (le-leb (number a b c) L (rw (number_short a b c p.0) p.1)))
    (λ e. let s = short a b c (and_left (in_format a b c) (leb (number a b c) L) e) in
    let p = from s (rw (number_short a b c s) at (leb-true (number a b c) L (and_right (in_format a b c) (leb (number a b c) L) e))) in
    and_in (and_in (lt-ltb a A p.0) (lt-ltb b B p.1)) (lt-ltb c C p.2))

-- "A view holds only stands below n": word by word, or the whole number
pub limited : (used : Bool) (n a b c : ℕ) → n ≤ 64
    → (ltb a (2 ^ (if used then part n 0 else 0)) && ltb b (2 ^ (if used then part n 24 else 0)) && ltb c (2 ^ (if used then part n 48 else 0)))
    ≡ (in_format a b c && leb (number a b c) (if used then 2 ^ n - 1 else 0))
limited false n a b c h =
    within 1 1 1 0 a b c
    (λ i j k. (record { low = omega arith; middle = omega arith; high = omega arith }, omega arith))
    (λ s l. (omega arith, omega arith, omega arith))
limited true n a b c h =
    elim (dec_lt 24 n) [
      | no d ↦
          let g : n ≤ 24 = omega arith in
          let e : part n 0 ≡ n = low n g in
          rw (e, part_none n 24 (omega arith), part_none n 48 (omega arith))
          (first (2 ^ n) (pow_pos n) (pow-le-pow_right (lit< tt) g))
      | yes l ↦ elim (dec_lt 48 n) [
        | no d ↦ let e : 24 + (n - 24) ≡ n = omega arith in
            let g : n - 24 ≤ 24 = omega arith in
            rw (
              part_full n 0 (omega arith),
              part_some n 24 l (omega arith),
              part_none n 48 (omega arith),
              ap (λ (k : ℕ). 2 ^ k) (sym e) ∙ pow-add 2 24 (n - 24),
            )
            (second (2 ^ (n - 24)) (pow_pos (n - 24)) (pow-le-pow_right (lit< tt) g))
        | yes m ↦ let e : 48 + (n - 48) ≡ n = omega arith in
            let g : n - 48 ≤ 16 = omega arith in
            rw (
              part_full n 0 (omega arith),
              part_full n 24 (omega arith),
              part_some n 48 m (omega arith),
              ap (λ (k : ℕ). 2 ^ k) (sym e) ∙ pow-add 2 48 (n - 48),
            )
            (third (2 ^ (n - 48)) (pow_pos (n - 48)) (pow-le-pow_right (lit< tt) g))
      ]
    ]
  where
    low : (n : ℕ) → n ≤ 24 → part n 0 ≡ n
    low n h = elim (dec_lt 0 n) [ yes l ↦ part_some n 0 l h ∙ omega arith | no d ↦ part_none n 0 (omega arith) ∙ omega arith ]

    first : (p : ℕ) → 0 < p → p ≤ 2 ^ 24 → (ltb a p && ltb b (2 ^ 0) && ltb c (2 ^ 0)) ≡ (in_format a b c && leb (number a b c) (p - 1))
    first p h l =
        within p 1 1 (p - 1) a b c
        (λ i j k. (record { low = omega arith; middle = omega arith; high = omega arith }, omega arith))
        (λ s m. (omega arith, omega arith, omega arith))

    second : (q : ℕ) → 0 < q → q ≤ 2 ^ 24 → (ltb a (2 ^ 24) && ltb b q && ltb c (2 ^ 0)) ≡ (in_format a b c && leb (number a b c) (2 ^ 24 * q - 1))
    second q h l =
        within (2 ^ 24) q 1 (2 ^ 24 * q - 1) a b c
        (λ i j k. (record { low = i; middle = omega arith; high = omega arith }, omega arith))
        (λ s m. (s.low, omega arith, omega arith))

    third : (q : ℕ) → 0 < q → q ≤ 2 ^ 16 → (ltb a (2 ^ 24) && ltb b (2 ^ 24) && ltb c q) ≡ (in_format a b c && leb (number a b c) (2 ^ 48 * q - 1))
    third q h l =
        within (2 ^ 24) (2 ^ 24) q (2 ^ 48 * q - 1) a b c
        (λ i j k. (record { low = i; middle = j; high = omega arith }, omega arith))
        (λ s m. (s.low, s.middle, omega arith))

-- ---- the receiver's bit

-- a digit of 24 bits below others
low_digit : (a y x : ℕ) → a < 2 ^ 24 → x < 24 → of_bits (a + 2 ^ 24 * y) x ≡ of_bits a x
low_digit a y x h l = ap (λ (d : ℕ). eqb d 1) (sym (odd (a + 2 ^ 24 * y)) ∙ ap (λ (v : ℕ). v / 2 ^ x % 2) low)
  where
    low : (a + 2 ^ 24 * y) % 2 ^ 24 ≡ a
    low = let e : a + 2 ^ 24 * y ≡ y * 2 ^ 24 + a = omega arith in ap (λ (v : ℕ). v % 2 ^ 24) e ∙ digits_mod y h

    odd : (v : ℕ) → v % 2 ^ 24 / 2 ^ x % 2 ≡ v / 2 ^ x % 2
    odd v =
        let e : 24 - x + x ≡ 24 = omega arith in
        let f : 23 - x + 1 ≡ 24 - x = omega arith in
        ap (λ (k : ℕ). v % 2 ^ k / 2 ^ x % 2) (sym e) ∙ ap (λ (w : ℕ). w % 2) (field v (24 - x) x)
        ∙ ap (λ (k : ℕ). v / 2 ^ x % 2 ^ k % 2) (sym f) ∙ mod-mod-pow (v / 2 ^ x) (23 - x) 1

high_digit : (a y x : ℕ) → a < 2 ^ 24 → of_bits (a + 2 ^ 24 * y) (24 + x) ≡ of_bits y x
high_digit a y x h =
    ap (λ (w : ℕ). eqb (w % 2) 1)
    (sym (shr-shr (a + 2 ^ 24 * y) 24 x) ∙ ap (λ (v : ℕ). v / 2 ^ x) (let e : (a + 2 ^ 24 * y) / 2 ^ 24 ≡ y = omega arith in e))

-- "and not its receiver": word by word, or in the whole number
pub without_receiver : (r a b c : ℕ) → r < 64 → Short a b c
    → (eqb (bit_and a (receiver_bit r 1)) 0 && eqb (bit_and b (receiver_bit r 2)) 0 && eqb (bit_and c (receiver_bit r 3)) 0) ≡ not (of_bits (number a b c) r)
without_receiver r a b c h s =
    let e : number a b c ≡ a + 2 ^ 24 * (b + 2 ^ 24 * c) = number_short a b c s ∙ omega arith in
    rw e
    (elim (dec_lt r 24) [
      | yes l ↦
          let q : r / 24 ≡ 0 = omega arith in
          let m : r % 24 ≡ r = mod-eq_of_lt l in
          rw (q, m, and_zero_r b, and_zero_r c, low_digit a (b + 2 ^ 24 * c) r s.low l, bit_test r a) (only (not (of_bits a r)))
      | no d ↦ elim (dec_lt r 48) [
        | yes l ↦
            let q : r / 24 ≡ 1 = omega arith in
            let x : 24 + (r - 24) ≡ r = omega arith in
            let m : r % 24 ≡ r - 24 = omega arith in
            let digit =
            ap (of_bits (a + 2 ^ 24 * (b + 2 ^ 24 * c))) (sym x)
            ∙ high_digit a (b + 2 ^ 24 * c) (r - 24) s.low
            ∙ low_digit b c (r - 24) s.middle (omega arith)
            in
            rw (q, m, and_zero_r a, and_zero_r c, bit_test (r - 24) b, digit) (and-true (not (of_bits b (r - 24))))
        | no f ↦
            let q : r / 24 ≡ 2 = omega arith in
            let x : 24 + (24 + (r - 48)) ≡ r = omega arith in
            let m : r % 24 ≡ r - 48 = omega arith in
            let digit =
            ap (of_bits (a + 2 ^ 24 * (b + 2 ^ 24 * c))) (sym x)
            ∙ high_digit a (b + 2 ^ 24 * c) (24 + (r - 48)) s.low
            ∙ high_digit b c (r - 48) s.middle
            in
            rw (q, m, and_zero_r a, and_zero_r b, bit_test (r - 48) c, digit) refl
      ]
    ])
  where
    only : (p : Bool) → (p && true && true) ≡ p
    only true = refl
    only false = refl
