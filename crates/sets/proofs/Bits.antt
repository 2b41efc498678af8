-- Sets as numbers of 64 bits: what the operations of `src/lib.rt` on the numbers are of the sets.
use mathlib.Core.Path.{◌≡◌, refl, sym, ap, ap₂, ◌∙◌, subst, fun_ext}
use mathlib.Core.Logic.{⊎_elim}
use mathlib.Core.Bool.{Bool, true, false, not, ◌&&◌, ◌||◌, and-true, and-false}
use mathlib.Core.List.{[], ◌∷◌}
use Prim.Native.Nat.{ℕ, zero, suc, ◌+◌, ◌-◌, ◌*◌, ◌/◌, ◌%◌, ◌^◌, ◌≤◌, ◌<◌, suc-le-suc, min}
use native.Mathlib.Nat.{mod-lt, pow-suc, add-zero, div-one, zero-lt-suc, mul_assoc, one-mul}
use native.Mathlib.Nat.{eq-or-lt_of_le, le_of_suc-le-suc, not-suc-le-zero, mod-eq_of_lt, zero-div}
use native.Mathlib.Numerals.{one-add}
use native.Mathlib.Omega.{arith}
use lib.Dec.{eqb, eqb-zero-suc, eqb-suc-zero, eqb-suc-suc}
use lib.Arith.{digits_div, digits_mod}
use lib.Pow.{pow_pos, pow-lt, split, shr-shr, mod-pow-add}
use lib.Bits.{bit_and, bit_or, bit_xor, and_block, and_mask, and_zero_r, and_le_l, and_le_r}
use lib.Bits.{and_self, and_step, and_shr, and_mod, or_shr, or_mod, xor_shr, xor_mod}
use lib.Count.{ones, ones_cat, count_trailing_zeros, trailing_le, under}
use native.Mathlib.Decide.{ℕ_discrete}
use borrow.Author.Tests.{eqb-true, eq-eqb, ne_eqb}
use Rattle.std.specs.Prelude.{if◌then◌else◌}
use Rattle.model.specs.Sets.{Set, empty, with, without, union, count, some, members, lowest, to_bits, of_bits}
use Rattle.model.specs.Fields.{bit}
use Rattle.model.proofs.Laws.{clash, is_false, and_left, or_case, decide, some_none, some_out}
use Rattle.model.proofs.Bits.{is_bit, to_bits<}
use Rattle.sets.specs.Rest.{IsRest}
use Rattle.sets.specs.Within.{Within}
use Rattle.sets.proofs.Ascending.{First, members_none, members_next, lowest_is, lowest_none, lowest_first, to_bits_to, some_to}

-- ---- one bit

abbrev digit : ℕ → ℕ → ℕ
digit B y = B / 2 ^ y % 2

digit_zero : (B : ℕ) → digit B 0 ≡ B % 2
digit_zero B = ap (λ (w : ℕ). w % 2) (div-one B)

digit_suc : (B y : ℕ) → digit B (suc y) ≡ digit (B / 2) y
digit_suc B y = ap (λ (w : ℕ). w % 2) (ap (λ (k : ℕ). B / 2 ^ k) (sym (one-add y)) ∙ sym (shr-shr B 1 y))

-- a test of a digit
is_one : (d : ℕ) → d < 2 → bit (eqb d 1) ≡ d
is_one zero h = refl
is_one (suc zero) h = refl
is_one (suc (suc d)) h = absurd (not-suc-le-zero (le_of_suc-le-suc (le_of_suc-le-suc h)))

bit_digit : (B y : ℕ) → bit (of_bits B y) ≡ digit B y
bit_digit B y = is_one (B / 2 ^ y % 2) (mod-lt (B / 2 ^ y) (zero-lt-suc 1))

-- ---- a number is the bits of its set

more_bits : (k : ℕ) (S : Set) → to_bits (suc k) S ≡ bit (S k) * 2 ^ k + to_bits k S
unfolding to_bits
more_bits k S = go (S k)
  where
    go : (b : Bool) → to_bits k S + (if b then 2 ^ k else 0) ≡ bit b * 2 ^ k + to_bits k S
    go true = omega arith
    go false = omega arith

low_bits : (k B : ℕ) → to_bits k (of_bits B) ≡ B % 2 ^ k
unfolding to_bits
low_bits zero B = omega arith
low_bits (suc k) B =
    more_bits k (of_bits B)
    ∙ ap₂ (λ (d w : ℕ). d * 2 ^ k + w) (bit_digit B k) (low_bits k B)
    ∙ sym (mod-pow-add B 1 k)
    ∙ ap (λ (m : ℕ). B % 2 ^ m) (one-add k)

pub to_bits_of_bits : (k B : ℕ) → B < 2 ^ k → to_bits k (of_bits B) ≡ B
to_bits_of_bits k B h = low_bits k B ∙ mod-eq_of_lt h

-- ---- `count_ones`

ones_bit : (b : Bool) → ones (bit b) ≡ (if b then 1 else 0)
unfolding ones
ones_bit true = refl
ones_bit false = refl

ones_to_bits : (k : ℕ) (S : Set) → ones (to_bits k S) ≡ count k S
unfolding to_bits count ones
ones_to_bits zero S = refl
ones_to_bits (suc k) S =
    ap ones (more_bits k S) ∙ ones_cat k (bit (S k)) (to_bits k S) (to_bits< k S)
    ∙ ap₂ (λ (a b : ℕ). a + b) (ones_bit (S k)) (ones_to_bits k S) ∙ omega arith

pub ones_count : (B : ℕ) → B < 2 ^ 64 → ones B ≡ count 64 (of_bits B)
ones_count B h = ap ones (sym (to_bits_of_bits 64 B h)) ∙ ones_to_bits 64 (of_bits B)

-- ---- `set | (1 << x)`

-- `1 << x`
pub shift_one : (x : ℕ) → x < 64 → (1 * 2 ^ x) % 2 ^ 64 ≡ 2 ^ x
shift_one x h = ap (λ (w : ℕ). w % 2 ^ 64) (one-mul (2 ^ x)) ∙ mod-eq_of_lt (pow-lt h)

-- an operation on numbers that goes bit by bit
module _ (op : ℕ → ℕ → ℕ) (test : Bool → Bool → Bool)
    (shift : (a b k : ℕ) → op a b / 2 ^ k ≡ op (a / 2 ^ k) (b / 2 ^ k))
    (low : (a b k : ℕ) → op a b % 2 ^ k ≡ op (a % 2 ^ k) (b % 2 ^ k))
    (one : (a b : Bool) → op (bit a) (bit b) ≡ bit (test a b)) where
  bitwise : (A B y : ℕ) → of_bits (op A B) y ≡ test (of_bits A y) (of_bits B y)
  bitwise A B y =
      ap (λ (d : ℕ). eqb d 1)
      (ap (λ (w : ℕ). w % 2) (shift A B y) ∙ low (A / 2 ^ y) (B / 2 ^ y) 1
      ∙ ap₂ op (sym (bit_digit A y)) (sym (bit_digit B y)) ∙ one (of_bits A y) (of_bits B y))
      ∙ is_bit (test (of_bits A y) (of_bits B y))

pub of_bits_or : (A B y : ℕ) → of_bits (bit_or A B) y ≡ (of_bits A y || of_bits B y)
of_bits_or = bitwise bit_or ◌||◌ or_shr or_mod one
  where
    one : (a b : Bool) → bit_or (bit a) (bit b) ≡ bit (a || b)
    one true true = refl
    one true false = refl
    one false true = refl
    one false false = refl

pub or_union : (A B : ℕ) → of_bits (bit_or A B) ≡ union (of_bits A) (of_bits B)
or_union A B = fun_ext (of_bits_or A B)

pub and_both : (A B : ℕ) → of_bits (bit_and A B) ≡ (λ (y : ℕ). of_bits A y && of_bits B y)
and_both A B = fun_ext (bitwise bit_and ◌&&◌ and_shr and_mod one A B)
  where
    one : (a b : Bool) → bit_and (bit a) (bit b) ≡ bit (a && b)
    one true true = refl
    one true false = refl
    one false true = refl
    one false false = refl

pub xor_minus : (A B : ℕ) → of_bits (bit_xor A (bit_and A B)) ≡ (λ (y : ℕ). of_bits A y && not (of_bits B y))
xor_minus A B =
    fun_ext (bitwise (λ a b. bit_xor a (bit_and a b)) (λ a b. a && not b)
    (λ a b k. xor_shr a (bit_and a b) k ∙ ap (bit_xor (a / 2 ^ k)) (and_shr a b k))
    (λ a b k. xor_mod a (bit_and a b) k ∙ ap (bit_xor (a % 2 ^ k)) (and_mod a b k)) one A B)
  where
    one : (a b : Bool) → bit_xor (bit a) (bit_and (bit a) (bit b)) ≡ bit (a && not b)
    one true true = refl
    one true false = refl
    one false true = refl
    one false false = refl

-- a set of one
of_zero : (B : ℕ) → of_bits B 0 ≡ eqb (B % 2) 1
of_zero B = ap (λ (d : ℕ). eqb d 1) (digit_zero B)

of_suc : (B y : ℕ) → of_bits B (suc y) ≡ of_bits (B / 2) y
of_suc B y = ap (λ (d : ℕ). eqb d 1) (digit_suc B y)

pub of_none : (y : ℕ) → of_bits 0 y ≡ false
of_none y = ap (λ (w : ℕ). eqb (w % 2) 1) (zero-div (2 ^ y))

-- no bits, nobody
pub nobody : of_bits 0 ≡ empty
nobody = fun_ext of_none

of_pow : (x y : ℕ) → of_bits (2 ^ x) y ≡ eqb y x
of_pow zero zero = refl
of_pow zero (suc y) = of_suc 1 y ∙ of_none y ∙ sym (eqb-suc-zero y)
of_pow (suc x) zero =
    let even : 2 ^ suc x % 2 ≡ 0 = omega (arith, pow-suc 2 x) in
    of_zero (2 ^ suc x) ∙ ap (λ (d : ℕ). eqb d 1) even ∙ sym (eqb-zero-suc x)
of_pow (suc x) (suc y) =
    let half : 2 ^ suc x / 2 ≡ 2 ^ x = omega (arith, pow-suc 2 x) in
    of_suc (2 ^ suc x) y ∙ ap (λ (w : ℕ). of_bits w y) half ∙ of_pow x y ∙ sym (eqb-suc-suc y x)

pub or_with : (B x : ℕ) → of_bits (bit_or B (2 ^ x)) ≡ with (of_bits B) x
or_with B x = fun_ext (λ y. of_bits_or B (2 ^ x) y ∙ ap (λ (b : Bool). of_bits B y || b) (of_pow x y))

-- ---- `set - (set & (1 << x))`

and_digit : (B x : ℕ) → bit_and B (2 ^ x) ≡ digit B x * 2 ^ x
and_digit B x =
    ap₂ bit_and (sym (split B x)) (sym (add-zero (1 * 2 ^ x) ∙ one-mul (2 ^ x)))
    ∙ and_block x (B / 2 ^ x) 1 (B % 2 ^ x) 0 (mod-lt B (pow_pos x)) (pow_pos x)
    ∙ ap₂ (λ (d w : ℕ). d * 2 ^ x + w) (and_mask (B / 2 ^ x) 1) (and_zero_r (B % 2 ^ x))
    ∙ add-zero (digit B x * 2 ^ x)

digit_le : (B x : ℕ) → digit B x * 2 ^ x ≤ B
digit_le B x = subst (λ (w : ℕ). w ≤ B) (and_digit B x) (and_le_l B (2 ^ x))

-- the number without its bit x
less : ℕ → ℕ → ℕ
less B x = B - digit B x * 2 ^ x

less_suc : (B x : ℕ) → less B (suc x) ≡ less (B / 2) x * 2 + B % 2
unfolding less
less_suc B x =
    ap (λ (w : ℕ). B - w) (ap₂ (λ (d p : ℕ). d * p) (digit_suc B x) (pow-suc 2 x) ∙ sym (mul_assoc (digit (B / 2) x) (2 ^ x) 2))
    ∙ halves B (digit (B / 2) x * 2 ^ x) (digit_le (B / 2) x)
  where
    halves : (n k : ℕ) → k ≤ n / 2 → n - k * 2 ≡ (n / 2 - k) * 2 + n % 2
    halves n k h = omega arith

less_at : (B x y : ℕ) → of_bits (less B x) y ≡ without (of_bits B) x y
unfolding less
less_at B zero zero =
    let even : less B 0 % 2 ≡ 0 = omega arith in
    of_zero (less B 0) ∙ ap (λ (d : ℕ). eqb d 1) even ∙ sym (and-false (of_bits B 0))
less_at B zero (suc y) =
    let half : less B 0 / 2 ≡ B / 2 = omega arith in
    of_suc (less B 0) y ∙ ap (λ (w : ℕ). of_bits w y) half ∙ sym (of_suc B y)
    ∙ sym (ap (λ (b : Bool). of_bits B (suc y) && not b) (eqb-suc-zero y) ∙ and-true (of_bits B (suc y)))
less_at B (suc x) zero =
    of_zero (less B (suc x)) ∙ ap (λ (w : ℕ). eqb (w % 2) 1) (less_suc B x)
    ∙ ap (λ (d : ℕ). eqb d 1) (digits_mod (less (B / 2) x) (mod-lt B (zero-lt-suc 1))) ∙ sym (of_zero B)
    ∙ sym (ap (λ (b : Bool). of_bits B 0 && not b) (eqb-zero-suc x) ∙ and-true (of_bits B 0))
less_at B (suc x) (suc y) =
    of_suc (less B (suc x)) y
    ∙ ap (λ (w : ℕ). of_bits w y) (ap (λ (w : ℕ). w / 2) (less_suc B x) ∙ digits_div (less (B / 2) x) (mod-lt B (zero-lt-suc 1)))
    ∙ less_at (B / 2) x y ∙ ap₂ (λ (a b : Bool). a && not b) (sym (of_suc B y)) (sym (eqb-suc-suc y x))

pub sub_without : (B x : ℕ) → of_bits (B - bit_and B (2 ^ x)) ≡ without (of_bits B) x
unfolding less
sub_without B x = ap (λ (w : ℕ). of_bits (B - w)) (and_digit B x) ∙ fun_ext (less_at B x)

-- ---- `trailing_zeros`

trailing_below : (k B y : ℕ) → y < count_trailing_zeros k B → of_bits B y ≡ false
unfolding count_trailing_zeros
trailing_below zero B y h = absurd (not-suc-le-zero h)
trailing_below (suc k) B y h = go (B % 2) y refl (trailing_below k (B / 2)) h
  where
    go : (d z : ℕ) → B % 2 ≡ d → ((w : ℕ) → w < count_trailing_zeros k (B / 2) → of_bits (B / 2) w ≡ false) → z < under d (count_trailing_zeros k (B / 2)) → of_bits B z ≡ false
    go zero zero e rec l = of_zero B ∙ ap (λ (d : ℕ). eqb d 1) e
    go zero (suc z) e rec l = of_suc B z ∙ rec z (le_of_suc-le-suc l)
    go (suc d) z e rec l = absurd (not-suc-le-zero l)

trailing_at : (k B : ℕ) → count_trailing_zeros k B < k → of_bits B (count_trailing_zeros k B) ≡ true
unfolding count_trailing_zeros
trailing_at zero B h = absurd (not-suc-le-zero h)
trailing_at (suc k) B h = go (B % 2) refl (trailing_at k (B / 2)) h
  where
    go : (d : ℕ) → B % 2 ≡ d → (count_trailing_zeros k (B / 2) < k → of_bits (B / 2) (count_trailing_zeros k (B / 2)) ≡ true)
        → under d (count_trailing_zeros k (B / 2)) < suc k → of_bits B (under d (count_trailing_zeros k (B / 2))) ≡ true
    go zero e rec l = of_suc B (count_trailing_zeros k (B / 2)) ∙ rec (le_of_suc-le-suc l)
    go (suc d) e rec l = let odd : B % 2 ≡ 1 = omega arith in of_zero B ∙ ap (λ (d : ℕ). eqb d 1) odd

pub trailing_lowest : (B : ℕ) → count_trailing_zeros 64 B ≡ lowest 64 (of_bits B)
trailing_lowest B =
    ⊎_elim
    (λ (e : count_trailing_zeros 64 B ≡ 64). e ∙ sym (lowest_none 64 (of_bits B) (λ y l. trailing_below 64 B y (subst (λ (k : ℕ). y < k) (sym e) l))))
    (λ l. sym (lowest_is 64 (of_bits B) (count_trailing_zeros 64 B) (record { below = l; member = trailing_at 64 B l; before = trailing_below 64 B })))
    (eq-or-lt_of_le (trailing_le 64 B))

-- ---- `set & (set - 1)`

to_bits_none : (k : ℕ) (S : Set) → ((y : ℕ) → y < k → S y ≡ false) → to_bits k S ≡ 0
unfolding to_bits
to_bits_none zero S f = refl
to_bits_none (suc k) S f = rw (f k (omega arith), to_bits_none k S (λ y h. f y (omega arith)))

-- a number that is not 0 has a member
pub some_bit : (B : ℕ) → B < 2 ^ 64 → 0 < B → some 64 (of_bits B) ≡ true
some_bit B h p =
    decide (some 64 (of_bits B)) (λ e. e)
    (λ e. let none : B ≡ 0 = sym (to_bits_of_bits 64 B h) ∙ to_bits_none 64 (of_bits B) (some_none 64 (of_bits B) e) in absurd (omega arith))

pub first_bit : (B : ℕ) → B < 2 ^ 64 → (B ≡ 0 → ⊥) → First 64 (of_bits B) (lowest 64 (of_bits B))
first_bit B h d = lowest_first 64 (of_bits B) (some_bit B h (omega arith))

-- the lowest bit is taken away
and_pred : (s B : ℕ) → of_bits B s ≡ true → ((y : ℕ) → y < s → of_bits B y ≡ false) → bit_and B (B - 1) ≡ less B s
unfolding less
and_pred zero B m f =
    let odd : B % 2 ≡ 1 = eqb-true (B % 2) 1 (sym (of_zero B) ∙ m) in
    let half : (B - 1) / 2 ≡ B / 2 = omega arith in
    let even : (B - 1) % 2 ≡ 0 = omega arith in
    and_step B (B - 1) ∙ ap₂ (λ (w d : ℕ). w * 2 + d) (ap (bit_and (B / 2)) half ∙ and_self (B / 2)) (ap₂ min odd even)
    ∙ omega arith
and_pred (suc s) B m f =
    let h : of_bits (B / 2) s ≡ true = sym (of_suc B s) ∙ m in
    let even : B % 2 ≡ 0 = is_even (λ e. clash (of_zero B ∙ ap (λ (d : ℕ). eqb d 1) e) (f 0 (zero-lt-suc s))) in
    let some : (B / 2 ≡ 0 → ⊥) = λ e. clash h (ap (λ (w : ℕ). of_bits w s) e ∙ of_none s) in
    let half : (B - 1) / 2 ≡ B / 2 - 1 = omega arith in
    let odd : (B - 1) % 2 ≡ 1 = omega arith in
    and_step B (B - 1)
    ∙ ap₂ (λ (w d : ℕ). w * 2 + d)
    (ap (bit_and (B / 2)) half ∙ and_pred s (B / 2) h (λ y l. sym (of_suc B y) ∙ f (suc y) (suc-le-suc l)))
    (ap₂ min even odd ∙ sym even)
    ∙ sym (less_suc B s)
  where
    is_even : (B % 2 ≡ 1 → ⊥) → B % 2 ≡ 0
    is_even d = omega arith

pub and_rest : (B : ℕ) → B < 2 ^ 64 → 0 < B → IsRest B (bit_and B (B - 1))
and_rest B h p =
    let s = lowest 64 (of_bits B) in
    let f = first_bit B h (omega arith) in
    let e : of_bits (bit_and B (B - 1)) ≡ without (of_bits B) s = ap of_bits (and_pred s B f.member f.before) ∙ fun_ext (less_at B s) in
    record {
      set = e;
      next = members_next 64 (of_bits B) s f ∙ ap (λ (S : Set). s ∷ members 64 S) (sym e);
      less = omega (arith, and_le_r B (B - 1));
    }

-- ---- sets of nodes below n

pub within_with : (n set x r : ℕ) → of_bits r ≡ with (of_bits set) x → x < n → Within n set → Within n r
within_with n set x r e h w y t =
    or_case (of_bits set y) (eqb y x) (sym (ap (λ (S : Set). S y) e) ∙ t) (w y) (λ q. rw (eqb-true y x q) h)

pub within_union : (n set other r : ℕ) → of_bits r ≡ union (of_bits set) (of_bits other) → Within n other → Within n set → Within n r
within_union n set other r e h w y t = or_case (of_bits set y) (of_bits other y) (sym (ap (λ (S : Set). S y) e) ∙ t) (w y) (h y)

pub within_none : (n : ℕ) → Within n 0
within_none n y e = clash e (of_none y)

-- a part of a set
pub within_part : (n r : ℕ) (S R : Set) → ((y : ℕ) → S y ≡ true → y < n) → of_bits r ≡ (λ (y : ℕ). S y && R y) → Within n r
within_part n r S R low e y t = low y (and_left (S y) (R y) (sym (ap (λ (Q : Set). Q y) e) ∙ t))

pub within_without : (n set x r : ℕ) → of_bits r ≡ without (of_bits set) x → Within n set → Within n r
within_without n set x r e w = within_part n r (of_bits set) (λ y. not (eqb y x)) w e

pub within_less : (n set : ℕ) → n ≤ 64 → set < 2 ^ 64 → Within n set → set < 2 ^ n
within_less n set h b w = rw (sym (to_bits_of_bits 64 set b) ∙ sym (to_bits_to (of_bits set) n w 64 h)) (to_bits< n (of_bits set))

-- ---- a loop `while rest != 0 { let y = lowest(rest); ..; rest = rest(rest); }` over members below n

pub record Rising (n rest : ℕ) : Type 0 where
  pub fits : rest < 2 ^ 64
  pub low : Within n rest

module _ {n rest : ℕ} (i : Rising n rest) where
  module _ (d : rest ≡ 0 → ⊥) (y : ℕ) (is : y ≡ lowest 64 (of_bits rest)) where
    pub rising_first : First 64 (of_bits rest) y
    rising_first = rw is (first_bit rest i.fits d)

    pub rising_below : y < n
    rising_below = i.low y rising_first.member

  module _ {r : ℕ} (q : IsRest rest r) where
    pub rising_rest : Rising n r
    rising_rest = record {
      fits = omega (arith, i.fits, q.less);
      low = within_without n rest (lowest 64 (of_bits rest)) r q.set i.low;
    }

    pub rising_set : (y : ℕ) → y ≡ lowest 64 (of_bits rest) → of_bits r ≡ without (of_bits rest) y
    rising_set y is = q.set ∙ ap (without (of_bits rest)) (sym is)

    pub rising_next : (y : ℕ) → y ≡ lowest 64 (of_bits rest) → members 64 (of_bits rest) ≡ y ∷ members 64 (of_bits r)
    rising_next y is = q.next ∙ ap (λ (s : ℕ). s ∷ members 64 (of_bits r)) (sym is)

pub none_left : {rest : ℕ} → rest ≡ 0 → (y : ℕ) → of_bits rest y ≡ false
none_left e y = ap (λ (w : ℕ). of_bits w y) e ∙ of_none y

-- a number is 0 where its set has no member
pub zero_none : (n set : ℕ) → n ≤ 64 → set < 2 ^ 64 → Within n set → eqb set 0 ≡ not (some n (of_bits set))
zero_none n set few fits low =
    elim (ℕ_discrete set 0) [
      | yes e ↦ eq-eqb set 0 e ∙ sym (ap not (is_false (some n (of_bits set)) (λ s. let p = some_out n (of_bits set) s in clash p.2 (none_left e p.0))))
      | no d ↦ ne_eqb set 0 d ∙ sym (ap not (some_to (of_bits set) n low 64 few ∙ some_bit set fits (omega arith)))
    ]

pub members_end : {rest : ℕ} → rest ≡ 0 → members 64 (of_bits rest) ≡ []
members_end {rest} e = members_none 64 (of_bits rest) (λ y h. none_left e y)
