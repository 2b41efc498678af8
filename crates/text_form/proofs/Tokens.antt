-- Numbers as they are written, read as tokens: the token of a number's digits spells that number.
use mathlib.Core.Path.{◌≡◌, refl, subst}
use mathlib.Core.Bool.{true, false}
use mathlib.Core.List.{List, [], ◌∷◌, ◌++◌, append_assoc}
use Prim.Native.Nat.{ℕ, zero, suc, ◌+◌, ◌*◌, ◌/◌, ◌%◌, ◌^◌, ◌≤◌, ◌<◌}
use native.Mathlib.Nat.{pow-suc, pow-le-pow_right}
use native.Mathlib.Omega.{arith}
use borrow.Author.Tests.{lt-ltb, le-leb, lt-leb, ne_eqb, ltb-true, ltb-false}
use lib.Dec.{ltb, eqb, lit<, lit≤}
use Rattle.io.specs.Digits.{last_digits, hex_digit_ascii}
use Rattle.bench_lines.specs.Decimal.{digit, decimal_in, decimal}
use Rattle.model.specs.WellFormed.{Each, nil, cons}
use Rattle.model.proofs.Laws.{decide}
use Rattle.model.proofs.Lists.{each_append}
use Rattle.text_form.specs.Assemble.{grown, packed, digit_of, is_number, spelled_by, spelled}

-- the bytes of names and digits: no blank, no newline, no hash
pub record Plain (b : ℕ) : Type 0 where
  pub above : 48 ≤ b

-- ---- a token and one more byte

pub packed_append : (t : ℕ) (bs cs : List ℕ) → packed t (bs ++ cs) ≡ packed (packed t bs) cs
unfolding packed
packed_append t [] cs = refl
packed_append t (b ∷ bs) cs = packed_append (grown t b) bs cs

-- the byte g is the digit d
pub record Digit (base g d : ℕ) : Type 0 where
  pub plain : Plain g
  pub byte : g < 256
  pub is : digit_of g ≡ d
  pub low : d < base

-- t is a token of k bytes, all of them digits, that spells n
pub record Spells (base k t n : ℕ) : Type 0 where
  pub low : 256 ^ k ≤ 256 * t + 1
  pub high : t < 256 ^ k
  pub number : (j : ℕ) → k ≤ j → is_number base j t ≡ true
  pub value : (j : ℕ) → k ≤ j → spelled_by base j t ≡ n

pub no_digits : (base : ℕ) → Spells base 0 0 0
unfolding is_number spelled_by
no_digits base = record { low = omega arith; high = omega arith; number = λ j h. number j; value = λ j h. value j }
  where
    number : (j : ℕ) → is_number base j 0 ≡ true
    number zero = refl
    number (suc j) = refl

    value : (j : ℕ) → spelled_by base j 0 ≡ 0
    value zero = refl
    value (suc j) = refl

pow_7 : (k : ℕ) → k < 8 → 256 ^ k ≤ 2 ^ 56
pow_7 k h = pow-le-pow_right {n = 256} (lit< tt) {i = k} {j = 7} (omega arith)

module _ {base k t n g d : ℕ} (s : Spells base k t n) (few : k < 8) (e : Digit base g d) where
  grown_is : grown t g ≡ t * 2 ^ 8 + g
  unfolding grown
  grown_is = rw (lt-ltb t (2 ^ 56) (omega (arith, pow_7 k few, s.high)))

  last : (t * 2 ^ 8 + g) % 2 ^ 8 ≡ g
  last = omega (arith, e.byte)

  before : (t * 2 ^ 8 + g) / 2 ^ 8 ≡ t
  before = omega (arith, e.byte)

  some : eqb (t * 2 ^ 8 + g) 0 ≡ false
  some = ne_eqb (t * 2 ^ 8 + g) 0 (λ q. omega (arith, e.plain.above))

  number_more : (j : ℕ) → suc k ≤ j → is_number base j (t * 2 ^ 8 + g) ≡ true
  unfolding is_number
  number_more zero h = absurd (omega arith)
  number_more (suc j) h = rw (some, last, before, e.is, lt-ltb d base e.low, s.number j (omega arith))

  value_more : (j : ℕ) → suc k ≤ j → spelled_by base j (t * 2 ^ 8 + g) ≡ n * base + d
  unfolding spelled_by
  value_more zero h = absurd (omega arith)
  value_more (suc j) h = rw (some, last, before, e.is, s.value j (omega arith))

  pub one_more_lem : Spells base (suc k) (grown t g) (n * base + d)
  one_more_lem =
      rw grown_is
      (record {
        low = rw (pow-suc 256 k) (omega (arith, s.low));
        high = rw (pow-suc 256 k) (omega (arith, s.high, e.byte));
        number = number_more;
        value = value_more;
      })

-- ---- digits as they are written

below_ten : (d : ℕ) → d < 10 → digit_of (48 + d) ≡ d
unfolding digit_of
below_ten d h = rw (le-leb 48 (48 + d) (omega arith), le-leb (48 + d) 57 (omega arith)) (omega arith)

ten_or_more : (d : ℕ) → 10 ≤ d → d < 16 → digit_of (87 + d) ≡ d
unfolding digit_of
ten_or_more d l h =
    rw (
      le-leb 48 (87 + d) (omega arith),
      lt-leb (87 + d) 57 (omega arith),
      le-leb 65 (87 + d) (omega arith),
      lt-leb (87 + d) 70 (omega arith),
      le-leb 97 (87 + d) (omega arith),
      le-leb (87 + d) 102 (omega arith),
    )
    (omega arith)

digit_is : (d : ℕ) → d < 10 → Digit 10 (digit d) d
digit_is d h = record { plain = record { above = omega arith }; byte = omega arith; is = below_ten d h; low = h }

glyph_is : (d : ℕ) → d < 16 → Digit 16 (hex_digit_ascii d) d
glyph_is d h =
    decide (ltb d 10)
    (λ e. rw e (record { plain = record { above = omega arith }; byte = omega arith; is = below_ten d (ltb-true d 10 e); low = h }))
    (λ e. rw e (record { plain = record { above = omega arith }; byte = omega arith; is = ten_or_more d (ltb-false d 10 e) h; low = h }))

-- what is written as bs is a token of one to k bytes, that spells n
pub record Written (base k : ℕ) (bs : List ℕ) (n : ℕ) : Type 0 where
  pub long : ℕ
  pub some : 1 ≤ long
  pub few : long ≤ k
  pub plain : Each Plain bs
  pub spells : Spells base long (packed 0 bs) n

-- a digit after what is written
snoc_spells :
    (bs : List ℕ) {base k n g d : ℕ} → Spells base k (packed 0 bs) n → k < 8 → Digit base g d
    → Spells base (suc k) (packed 0 (bs ++ g ∷ [])) (n * base + d)
unfolding packed
snoc_spells bs {g = g} s f e = rw (packed_append 0 bs (g ∷ [])) (one_more_lem s f e)

snoc_plain : {base g d : ℕ} {bs : List ℕ} → Each Plain bs → Digit base g d → Each Plain (bs ++ g ∷ [])
snoc_plain p e = each_append p (cons e.plain nil)

one_digit : (k n : ℕ) → 1 ≤ k → n < 10 → Written 10 k (digit n ∷ []) n
unfolding packed
one_digit k n f h =
    let e : 0 * 10 + n ≡ n = omega arith in
    record { long = 1; some = lit≤ tt; few = f; plain = cons (digit_is n h).plain nil; spells = rw e at (one_more_lem (no_digits 10) (lit< tt) (digit_is n h)) }

more_digits : (m n : ℕ) (bs : List ℕ) → m < 8 → Written 10 m bs (n / 10) → Written 10 (suc m) (bs ++ digit (n % 10) ∷ []) n
more_digits m n bs f w =
    let d : Digit 10 (digit (n % 10)) (n % 10) = digit_is (n % 10) (omega arith) in
    let e : n / 10 * 10 + n % 10 ≡ n = omega arith in
    record {
      long = suc w.long;
      some = omega arith;
      few = omega (arith, w.few);
      plain = snoc_plain w.plain d;
      spells = rw e at (snoc_spells bs w.spells (omega (arith, w.few)) d);
    }

decimal_in_lem : (m k n : ℕ) → m < 8 → n < k → n < 10 ^ suc m → Written 10 (suc m) (decimal_in k n) n
unfolding decimal_in
decimal_in_lem m zero n f h l = absurd (omega arith)
decimal_in_lem zero (suc k) n f h l = rw (lt-ltb n 10 l) (one_digit 1 n (lit≤ tt) l)
decimal_in_lem (suc m) (suc k) n f h l =
    let l' : n < 10 ^ suc m * 10 = rw (pow-suc 10 (suc m)) at l in
    let i : 10 ≤ n → Written 10 (suc m) (decimal_in k (n / 10)) (n / 10) = λ t. decimal_in_lem m k (n / 10) (omega arith) (omega arith) (omega arith) in
    decide (ltb n 10)
    (λ e. rw e (one_digit (suc (suc m)) n (omega arith) (ltb-true n 10 e)))
    (λ e. rw e (more_digits (suc m) n (decimal_in k (n / 10)) f (i (ltb-false n 10 e))))

pub decimal_written : (n : ℕ) → n < 10 ^ 8 → Written 10 8 (decimal n) n
unfolding decimal
decimal_written n h = decimal_in_lem 7 (suc n) n (lit< tt) (omega arith) h

pub spelled_is : {base k : ℕ} {bs : List ℕ} {n : ℕ} → Written base k bs n → k ≤ 8 → spelled base (packed 0 bs) ≡ n
unfolding spelled
spelled_is {base} {k} {bs} {n} w h = rw (w.spells.number 8 (omega (arith, w.few))) (w.spells.value 8 (omega (arith, w.few)))

pub token_there : {base k : ℕ} {bs : List ℕ} {n : ℕ} → Written base k bs n → eqb (packed 0 bs) 0 ≡ false
token_there {bs = bs} w =
    let h : 256 ^ 1 ≤ 256 ^ w.long = pow-le-pow_right {n = 256} (lit< tt) {i = 1} {j = w.long} w.some in
    ne_eqb (packed 0 bs) 0 (λ e. omega (arith, w.spells.low))

-- ---- hexadecimal digits

pub digits_spell : (k n : ℕ) → k ≤ 8 → n < 16 ^ k → Spells 16 k (packed 0 (last_digits 16 k n)) n
unfolding packed
digits_spell zero n h l =
    let e : 0 ≡ n = omega arith in
    subst (Spells 16 0 0) e (no_digits 16)
digits_spell (suc k) n h l =
    let l' : n < 16 ^ k * 16 = rw (pow-suc 16 k) at l in
    let e : n / 16 * 16 + n % 16 ≡ n = omega arith in
    rw e at (snoc_spells (last_digits 16 k (n / 16)) (digits_spell k (n / 16) (omega arith) (omega arith)) (omega arith) (glyph_is (n % 16) (omega arith)))

pub digits_plain : (k n : ℕ) → Each Plain (last_digits 16 k n)
digits_plain zero n = nil
digits_plain (suc k) n = snoc_plain (digits_plain k (n / 16)) (glyph_is (n % 16) (omega arith))

pub digits_written : (k n : ℕ) → 1 ≤ k → k ≤ 8 → n < 16 ^ k → Written 16 k (last_digits 16 k n) n
digits_written k n f h l = record { long = k; some = f; few = omega arith; plain = digits_plain k n; spells = digits_spell k n h l }

-- a byte more, in two digits
pub byte_more :
    (bs : List ℕ) {k n b : ℕ} → Spells 16 k (packed 0 bs) n → k < 7 → b < 256
    → Spells 16 (suc (suc k)) (packed 0 (bs ++ last_digits 16 2 b)) (n * 256 + b)
byte_more bs {k} {n} {b} s f h =
    let high : ℕ = hex_digit_ascii (b / 16 % 16) in
    let e : (n * 16 + b / 16 % 16) * 16 + b % 16 ≡ n * 256 + b = omega arith in
    rw (← append_assoc bs (high ∷ []) (hex_digit_ascii (b % 16) ∷ []), ← e)
    (snoc_spells (bs ++ high ∷ []) (snoc_spells bs s (omega arith) (glyph_is (b / 16 % 16) (omega arith))) (omega arith) (glyph_is (b % 16) (omega arith)))
