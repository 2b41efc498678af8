-- The fewest digits of a number are its decimal.
use mathlib.Core.Path.{◌≡◌, refl, sym, ap}
use mathlib.Core.List.{List, [], ◌∷◌, ◌++◌, append-nil, append_assoc}
use Prim.Native.Nat.{ℕ, zero, suc, ◌*◌, ◌/◌, ◌%◌, ◌^◌, ◌≤◌, ◌<◌}
use native.Mathlib.Nat.{pow-suc}
use native.Mathlib.Numerals.{sub-one}
use native.Mathlib.Omega.{arith}
use borrow.Author.Tests.{lt-ltb, le-ltb}
use Rattle.io.specs.Digits.{last_digits, IsDigitCount, hex_digit_ascii}
use Rattle.bench_lines.specs.Decimal.{digit, space, newline, decimal_in, decimal, spaced, line_bytes, lines_bytes}

below_pow : (k : ℕ) → k < 10 ^ k
below_pow zero = omega arith
below_pow (suc k) = let h : k < 10 ^ k = below_pow k in rw (pow-suc 10 k) (omega arith)

-- of at least two digits
module _ (r n : ℕ) (f : IsDigitCount 10 1 n (suc (suc r))) where
  not_above : 10 ^ r * 10 ≤ n
  not_above = rw (sub-one (suc (suc r)), pow-suc 10 r) at (f.2 (omega arith))

  ten_or_more : 10 ≤ n
  ten_or_more = omega (arith, below_pow r, not_above)

  one_fewer : IsDigitCount 10 1 (n / 10) (suc r)
  one_fewer =
      let h : n < 10 ^ suc r * 10 = rw (pow-suc 10 (suc r)) at f.1 in
      (omega arith, omega arith, λ _. rw (sub-one (suc r)) (omega (arith, not_above)))

glyph_digit : (n : ℕ) → hex_digit_ascii (n % 10) ≡ digit (n % 10)
glyph_digit n = rw (lt-ltb (n % 10) 10 (omega arith))

decimal_in_lem : (k r n : ℕ) → r ≤ k → IsDigitCount 10 1 n r → last_digits 10 r n ≡ decimal_in k n
unfolding decimal_in
decimal_in_lem k zero n h f = absurd (omega arith)
decimal_in_lem zero (suc r) n h f = absurd (omega arith)
decimal_in_lem (suc k) (suc zero) n h f =
    let e : n % 10 ≡ n = omega arith in
    rw (lt-ltb n 10 (omega arith), glyph_digit n, e)
decimal_in_lem (suc k) (suc (suc r)) n h f =
    rw (le-ltb n 10 (ten_or_more r n f), glyph_digit n, decimal_in_lem k (suc r) (n / 10) (omega arith) (one_fewer r n f))

-- a number has no more digits than one and itself
few : (r n : ℕ) → IsDigitCount 10 1 n r → r ≤ suc n
few zero n f = omega arith
few (suc zero) n f = omega arith
few (suc (suc r)) n f = omega (arith, below_pow r, not_above r n f)

pub fewest_decimal : (r n : ℕ) → IsDigitCount 10 1 n r → last_digits 10 r n ≡ decimal n
unfolding decimal
fewest_decimal r n f = decimal_in_lem (suc n) r n (few r n f) f

-- a line, as it is put: the first number, each other with a space in front, and the newline
pub one_more_lem : (n : ℕ) → space ∷ decimal n ≡ spaced (n ∷ [])
unfolding spaced
one_more_lem n = ap (λ (l : List ℕ). space ∷ l) (sym (append-nil (decimal n)))

pub spaced_append : (ns ms : List ℕ) → spaced (ns ++ ms) ≡ spaced ns ++ spaced ms
unfolding spaced
spaced_append [] ms = refl
spaced_append (n ∷ ns) ms = rw (spaced_append ns ms, append_assoc)

pub line_of_three : (a b c : ℕ) → ((decimal a ++ spaced (b ∷ [])) ++ spaced (c ∷ [])) ++ newline ∷ [] ≡ line_bytes (a ∷ b ∷ c ∷ [])
unfolding line_bytes
line_of_three a b c = rw (spaced_append (b ∷ []) (c ∷ [])) (simp append_assoc)

pub lines_append : (ks ls : List (List ℕ)) → lines_bytes (ks ++ ls) ≡ lines_bytes ks ++ lines_bytes ls
unfolding lines_bytes
lines_append [] ls = refl
lines_append (k ∷ ks) ls = rw (lines_append ks ls, append_assoc)

pub one_line : (l : List ℕ) → lines_bytes (l ∷ []) ≡ line_bytes l
unfolding lines_bytes
one_line l = append-nil (line_bytes l)
