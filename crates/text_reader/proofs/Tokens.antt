-- The number that a token spells, read from its last byte on.
use mathlib.Core.Path.{◌≡◌, refl, sym, ap, ◌∙◌}
use mathlib.Core.Bool.{true, false, ◌&&◌}
use Prim.Native.Nat.{ℕ, zero, suc, ◌+◌, ◌*◌, ◌/◌, ◌%◌, ◌^◌, ◌≤◌, ◌<◌}
use native.Mathlib.Nat.{pow-suc, mul-le-mul_left, mul-le-mul_right}
use native.Mathlib.Omega.{arith}
use lib.Dec.{eqb, ltb, leb}
use borrow.Author.Tests.{lt-ltb, le-ltb, leb-true, ne_eqb}
use Rattle.model.proofs.Laws.{and_left, and_right}
use Rattle.text_form.specs.Assemble.{digit_of, is_number, spelled_by, spelled, no_number}

pub record Within (low high k : ℕ) : Type 0 where
  pub above : low ≤ k
  pub below : k ≤ high

pub within : (low high k : ℕ) → (leb low k && leb k high) ≡ true → Within low high k
within low high k e =
    record {
      above = leb-true low k (and_left (leb low k) (leb k high) e);
      below = leb-true k high (and_right (leb low k) (leb k high) e);
    }

-- the bytes after the rest are digits, of this value; the next digit counts `unit`
pub record SpelledAfter (base token rest unit value : ℕ) : Type 0 where
  pub bytes : ℕ
  pub below : rest < 256 ^ bytes
  pub number : is_number base 8 token ≡ is_number base bytes rest
  pub spells : spelled_by base 8 token ≡ value + unit * spelled_by base bytes rest
  pub room : unit * 16 ^ bytes ≤ 2 ^ 32
  pub less : value < unit

positive : (k : ℕ) → 0 < 16 ^ k
positive zero = omega arith
positive (suc k) = rw (pow-suc 16 k) (omega (arith, positive k))

pub none_spelled : (base token : ℕ) → token < 2 ^ 64 → SpelledAfter base token token 1 0
none_spelled base token h =
    record { bytes = 8; below = h; number = refl; spells = omega arith; room = omega arith; less = omega arith }

pub unit_small : {base token rest unit value : ℕ} → SpelledAfter base token rest unit value → unit ≤ 2 ^ 32
unit_small {unit = unit} s = omega (arith, mul-le-mul_left unit (positive s.bytes), s.room)

module _ (base token rest unit value : ℕ) (small : base ≤ 16) (more : rest ≡ 0 → ⊥) where
  pub one_more_lem : SpelledAfter base token rest unit value → (d : ℕ) → d ≡ digit_of (rest % 256) → d < base
      → SpelledAfter base token (rest / 256) (unit * base) (value + unit * d)
  unfolding is_number spelled_by
  one_more_lem s d e h = go s.bytes s.below s.number s.spells s.room
    where
      go : (k : ℕ) → rest < 256 ^ k → is_number base 8 token ≡ is_number base k rest
          → spelled_by base 8 token ≡ value + unit * spelled_by base k rest → unit * 16 ^ k ≤ 2 ^ 32
          → SpelledAfter base token (rest / 256) (unit * base) (value + unit * d)
      go zero below number spells room = absurd (more (omega arith))
      go (suc k) below number spells room =
          let other : eqb rest 0 ≡ false = ne_eqb rest 0 more in
          let low : ltb (digit_of (rest % 256)) base ≡ true = lt-ltb _ base (rw (sym e) h) in
          let b : rest < 256 ^ k * 256 = rw (pow-suc 256 k) at below in
          let n : is_number base 8 token ≡ is_number base k (rest / 256) = number ∙ rw (other, low) in
          let v : spelled_by base 8 token ≡ value + unit * (spelled_by base k (rest / 256) * base + d) = spells ∙ rw (other, e) in
          let r : unit * (16 ^ k * 16) ≤ 2 ^ 32 = rw (pow-suc 16 k) at room in
          record {
            bytes = k;
            below = omega arith;
            number = n;
            spells = v ∙ omega arith;
            room = omega (arith, r, mul-le-mul_right (16 ^ k) (mul-le-mul_left unit small));
            less = omega (arith, s.less, mul-le-mul_left unit h);
          }

  pub no_digit : SpelledAfter base token rest unit value → (d : ℕ) → d ≡ digit_of (rest % 256) → base ≤ d → no_number ≡ spelled base token
  unfolding spelled is_number
  no_digit s d e h = rw (go s.bytes s.below s.number)
    where
      go : (k : ℕ) → rest < 256 ^ k → is_number base 8 token ≡ is_number base k rest → is_number base 8 token ≡ false
      go zero below number = absurd (more (omega arith))
      go (suc k) below number =
          let other : eqb rest 0 ≡ false = ne_eqb rest 0 more in
          let high : ltb (digit_of (rest % 256)) base ≡ false = le-ltb _ base (rw (sym e) h) in
          number ∙ rw (other, high)

none_number : (base k : ℕ) → is_number base k 0 ≡ true
unfolding is_number
none_number base zero = refl
none_number base (suc k) = refl

none_value : (base k : ℕ) → spelled_by base k 0 ≡ 0
unfolding spelled_by
none_value base zero = refl
none_value base (suc k) = refl

pub all_spelled : {base token rest unit value : ℕ} → SpelledAfter base token rest unit value → rest ≡ 0 → value ≡ spelled base token
unfolding spelled
all_spelled {base} {token} {rest} {unit} {value} s e =
    let n : is_number base 8 token ≡ true = s.number ∙ ap (is_number base s.bytes) e ∙ none_number base s.bytes in
    let z : spelled_by base s.bytes rest ≡ 0 = ap (spelled_by base s.bytes) e ∙ none_value base s.bytes in
    rw n (omega (arith, s.spells, ap (λ (x : ℕ). unit * x) z))
