-- A span copied from a run of places is a span of the other edition.
use mathlib.Core.Path.{◌≡◌, refl, sym, ap, ◌∙◌, subst}
use mathlib.Core.List.{List}
use Prim.Native.Nat.{ℕ, suc, ◌+◌, ◌-◌, ◌*◌, ◌<◌, ◌≤◌}
use native.Mathlib.Nat.{mul-zero, mul-suc}
use native.Mathlib.Omega.{arith}
use lib.ListN.{length, get_or}
use Rattle.model.specs.Sets.{tabulate}
use mathlib.Core.Bool.{false}
use Rattle.model.specs.Words.{at, at as word_of, pair_place, belongs, ring_length, size_in, count_in}
use Rattle.model.specs.Short.{short_row, short_message, shortened, long_word}
use Rattle.model.proofs.Short.{row_room, Run, run_short, run_long, node_run, first_run, second_run, message_run, no_node, not_itself, no_pair, no_row}
use Rattle.model.proofs.Short.{no_message_lem}
use Rattle.ring_ranges.specs.Spans.{Patched}
use Rattle.ring_ranges.proofs.Patches.{patched_as, patched_join, patched_all}

in_short : (ws : List ℕ) {n a k p : ℕ} → n ≡ size_in ws → Run n (count_in ws) a k p → (i : ℕ) → p ≤ i → i < p + k
    → get_or ws (a + (i - p)) 0 ≡ at (shortened ws) i
in_short ws {n} {a} {k} {p} size r i h l =
    let e : p + (i - p) ≡ i = omega arith in
    sym (run_short ws (subst (λ (s : ℕ). Run s (count_in ws) a k p) size r) (i - p) (omega arith)) ∙ ap (at (shortened ws)) e

in_long : (short : List ℕ) {n m a k p : ℕ} → Run n m a k p → (i : ℕ) → a ≤ i → i < a + k → get_or short (p + (i - a)) 0 ≡ long_word n m short i
in_long short {n} {m} {a} {k} {p} r i h l =
    let e : a + (i - a) ≡ i = omega arith in
    sym (run_long r short (i - a) (omega arith)) ∙ ap (long_word n m short) e

-- what does not belong is 0
out_long : (short : List ℕ) (n m a k : ℕ) → ((j : ℕ) → j < k → belongs n m (a + j) ≡ false) → (i : ℕ) → a ≤ i → i < a + k → 0 ≡ long_word n m short i
out_long short n m a k f i h l =
    let e : a + (i - a) ≡ i = omega arith in
    subst (λ (p : ℕ). 0 ≡ long_word n m short p) e (rw (f (i - a) (omega arith)))

-- ---- the rows, one after the other

row_next : (n x : ℕ) → short_row n x + 2 * (n - 1) ≡ short_row n (x + 1)
row_next n x =
    let s : x + 1 ≡ suc x = omega arith in
    let e : (n - 1) * (x + 1) ≡ (n - 1) * x + (n - 1) = ap (λ (k : ℕ). (n - 1) * k) s ∙ mul-suc (n - 1) x in
    omega (arith, e)

-- where a row begins, while x of n rows have been copied: it has room, and the next one follows
module _ (n x : ℕ) {at : ℕ} (is : at ≡ short_row n x) where
  pub row_fits : {long : ℕ} → x < n → short_row n n ≤ long → at + 2 * (n - 1) ≤ long
  row_fits h room = omega (arith, is, row_room n x h, room)

  pub row_after : at + 2 * (n - 1) ≡ short_row n (x + 1)
  row_after = ap (λ (a : ℕ). a + 2 * (n - 1)) is ∙ row_next n x

pub row_first : (n : ℕ) → 1 + 2 * n ≡ short_row n 0
row_first n = let e : (n - 1) * 0 ≡ 0 = mul-zero (n - 1) in omega (arith, e)

row_low : (n x : ℕ) → short_row n 0 ≤ short_row n x
row_low n x = let e : (n - 1) * 0 ≡ 0 = mul-zero (n - 1) in omega (arith, e)

-- x rows have been written of a short ring, and one more
module _ {ws ws' ws'' : List ℕ} {f : ℕ → ℕ} (n x : ℕ) where
  pub rows_more : {at : ℕ} → at ≡ short_row n x → Patched ws ws' (short_row n 0) (short_row n x) f → Patched ws' ws'' at (at + 2 * (n - 1)) f
      → Patched ws ws'' (short_row n 0) (short_row n (x + 1)) f
  rows_more is p q =
      patched_join {f = f} (row_low n x) (omega (arith, row_next n x)) p
      (subst (λ (to : ℕ). Patched ws' ws'' (short_row n x) to f) (row_next n x) (subst (λ (a : ℕ). Patched ws' ws'' a (a + 2 * (n - 1)) f) is q))
      (λ i h l. refl)

-- a run that stands elsewhere by name
run_at : {n m a k p b q : ℕ} → Run n m a k p → a ≡ b → p ≡ q → Run n m b k q
run_at {n} {m} {a} {k} {p} {b} {q} r e f = subst (λ (c : ℕ). Run n m b k c) f (subst (λ (c : ℕ). Run n m c k p) e r)

-- ---- shortening

module _ (ws : List ℕ) (n : ℕ) (few : n ≤ 64) (size : n ≡ size_in ws) where
  pub short_row_lem : {short s1 s2 : List ℕ} (x at : ℕ) → x < n → at ≡ short_row n x
      → Patched short s1 at (at + 2 * x) (λ i. get_or ws (129 + 128 * x + (i - at)) 0)
      → Patched s1 s2 (at + 2 * x) (at + 2 * x + 2 * (n - 1 - x)) (λ i. get_or ws (129 + 128 * x + 2 * x + 2 + (i - (at + 2 * x))) 0)
      → Patched short s2 at (at + 2 * (n - 1)) (word_of (shortened ws))
  short_row_lem {short} {s1} {s2} x at hx is p q =
      let row : pair_place x 0 ≡ 129 + 128 * x = omega arith in
      let first : Run n (count_in ws) (129 + 128 * x) (2 * x) at = run_at (first_run n (count_in ws) few x hx) row (sym is) in
      let second : Run n (count_in ws) (129 + 128 * x + 2 * x + 2) (2 * (n - 1 - x)) (at + 2 * x) =
      run_at (second_run n (count_in ws) few x hx) (ap (λ (r : ℕ). r + 2 * x + 2) row) (ap (λ (p : ℕ). p + 2 * x) (sym is)) in
      let end : at + 2 * x + 2 * (n - 1 - x) ≡ at + 2 * (n - 1) = omega arith in
      subst (λ (to : ℕ). Patched short s2 at to (word_of (shortened ws))) end
      (patched_join {f = word_of (shortened ws)} (omega arith) (omega arith) (patched_as p (in_short ws size first)) q (in_short ws size second))

  pub short_whole : {short s1 s2 s3 : List ℕ} (m end : ℕ) → m ≤ 1024 → m ≡ count_in ws → end ≡ short_row n n
      → Patched short s1 0 (0 + (1 + 2 * n)) (λ i. get_or ws (0 + (i - 0)) 0)
      → Patched s1 s2 (short_row n 0) end (word_of (shortened ws))
      → Patched s2 s3 end (end + 5 * m) (λ i. get_or ws (8321 + (i - end)) 0)
      → Patched short s3 0 (short_message n m) (word_of (shortened ws))
  short_whole {short} {s1} {s2} {s3} m end many count is p q r =
      let messages : Run n (count_in ws) 8321 (5 * m) end =
      subst (λ (c : ℕ). Run n c 8321 (5 * m) end) count (run_at (message_run n m few many) refl (sym is)) in
      let start : 0 + (1 + 2 * n) ≡ short_row n 0 = rw (mul-zero (n - 1)) (omega arith) in
      let low : short_row n 0 ≤ end = rw (mul-zero (n - 1)) (omega (arith, is)) in
      subst (λ (to : ℕ). Patched short s3 0 to (word_of (shortened ws))) (ap (λ (e : ℕ). e + 5 * m) is)
      (patched_join {f = word_of (shortened ws)} (omega arith) (omega arith)
      (patched_join {f = word_of (shortened ws)} (omega arith) low
      (subst (λ (to : ℕ). Patched short s1 0 to (word_of (shortened ws))) start
      (patched_as p (in_short ws size (node_run n (count_in ws) few)))) q (λ i h l. refl))
      r (in_short ws size messages))

-- ---- lengthening

module _ (short : List ℕ) (n m : ℕ) (few : n ≤ 64) where
  pub long_row : {w0 w1 w2 w3 w4 : List ℕ} (x at : ℕ) → x < n → at ≡ short_row n x
      → Patched w0 w1 (129 + 128 * x) (129 + 128 * x + 2 * x) (λ i. get_or short (at + (i - (129 + 128 * x))) 0)
      → Patched w1 w2 (129 + 128 * x + 2 * x) (129 + 128 * x + 2 * x + 2) (λ i. 0)
      → Patched w2 w3 (129 + 128 * x + 2 * x + 2) (129 + 128 * x + 2 * x + 2 + 2 * (n - 1 - x))
      (λ i. get_or short (at + 2 * x + (i - (129 + 128 * x + 2 * x + 2))) 0)
      → Patched w3 w4 (129 + 128 * x + 2 * n) (129 + 128 * x + 128) (λ i. 0)
      → Patched w0 w4 (pair_place x 0) (pair_place (x + 1) 0) (long_word n m short)
  long_row {w0} {w1} {w2} {w3} {w4} x at hx is p q r t =
      let row : pair_place x 0 ≡ 129 + 128 * x = omega arith in
      let next : 129 + 128 * x + 128 ≡ pair_place (x + 1) 0 = omega arith in
      let first : Run n m (129 + 128 * x) (2 * x) at = run_at (first_run n m few x hx) row (sym is) in
      let second : Run n m (129 + 128 * x + 2 * x + 2) (2 * (n - 1 - x)) (at + 2 * x) =
      run_at (second_run n m few x hx) (ap (λ (r : ℕ). r + 2 * x + 2) row) (ap (λ (p : ℕ). p + 2 * x) (sym is)) in
      let itself : (j : ℕ) → j < 2 → belongs n m (129 + 128 * x + 2 * x + j) ≡ false =
      subst (λ (a : ℕ). (j : ℕ) → j < 2 → belongs n m (a + 2 * x + j) ≡ false) row (not_itself n m few x hx) in
      let after : (j : ℕ) → j < 128 - 2 * n → belongs n m (129 + 128 * x + 2 * n + j) ≡ false =
      subst (λ (a : ℕ). (j : ℕ) → j < 128 - 2 * n → belongs n m (a + 2 * n + j) ≡ false) row (no_pair n m few x hx) in
      let mid : 129 + 128 * x + 2 * x + 2 + 2 * (n - 1 - x) ≡ 129 + 128 * x + 2 * n = omega arith in
      let last : 129 + 128 * x + 2 * n + (128 - 2 * n) ≡ 129 + 128 * x + 128 = omega arith in
      subst (λ (a : ℕ). Patched w0 w4 a (pair_place (x + 1) 0) (long_word n m short)) (sym row)
      (subst (λ (to : ℕ). Patched w0 w4 (129 + 128 * x) to (long_word n m short)) next
      (patched_join {f = long_word n m short} (omega arith) (omega arith)
      (subst (λ (to : ℕ). Patched w0 w3 (129 + 128 * x) to (long_word n m short)) mid
      (patched_join {f = long_word n m short} (omega arith) (omega arith)
      (patched_join {f = long_word n m short} (omega arith) (omega arith) (patched_as p (in_long short first)) q
      (out_long short n m (129 + 128 * x + 2 * x) 2 itself))
      r (in_long short second)))
      t (λ i h l. out_long short n m (129 + 128 * x + 2 * n) (128 - 2 * n) after i h (omega arith))))

  pub long_whole : {w0 w1 w2 w3 w4 w5 w6 : List ℕ} (end : ℕ) → m ≤ 1024 → length w0 ≡ ring_length → end ≡ short_row n n
      → Patched w0 w1 0 (0 + (1 + 2 * n)) (λ i. get_or short (0 + (i - 0)) 0)
      → Patched w1 w2 (1 + 2 * n) 129 (λ i. 0)
      → Patched w2 w3 (pair_place 0 0) (pair_place n 0) (long_word n m short)
      → Patched w3 w4 (129 + 128 * n) 8321 (λ i. 0)
      → Patched w4 w5 8321 (8321 + 5 * m) (λ i. get_or short (end + (i - 8321)) 0)
      → Patched w5 w6 (8321 + 5 * m) ring_length (λ i. 0)
      → w6 ≡ tabulate ring_length (long_word n m short)
  long_whole {w0} {w1} {w2} {w3} {w4} {w5} {w6} end many long is p q r t u v =
      let messages : Run n m 8321 (5 * m) end = run_at (message_run n m few many) refl (sym is) in
      let rows : pair_place n 0 ≡ 129 + 128 * n = omega arith in
      let none : (j : ℕ) → j < 128 * (64 - n) → belongs n m (129 + 128 * n + j) ≡ false =
      subst (λ (a : ℕ). (j : ℕ) → j < 128 * (64 - n) → belongs n m (a + j) ≡ false) rows (no_row n m few) in
      let start : 0 + (1 + 2 * n) ≡ 1 + 2 * n = omega arith in
      let nodes : Patched w0 w2 0 129 (long_word n m short) =
      patched_join {f = long_word n m short} (omega arith) (omega arith)
      (subst (λ (to : ℕ). Patched w0 w1 0 to (long_word n m short)) start (patched_as p (in_long short (node_run n m few)))) q
      (λ i h l. out_long short n m (1 + 2 * n) (128 - 2 * n) (no_node n m few) i h (omega arith)) in
      let pairs : Patched w0 w4 0 8321 (long_word n m short) =
      patched_join {f = long_word n m short} (omega arith) (omega arith)
      (subst (λ (to : ℕ). Patched w0 w3 0 to (long_word n m short)) rows
      (patched_join {f = long_word n m short} (omega arith) (omega arith) nodes r (λ i h l. refl)))
      t (λ i h l. out_long short n m (129 + 128 * n) (128 * (64 - n)) none i h (omega arith)) in
      patched_all ring_length (long_word n m short) long
      (patched_join {f = long_word n m short} (omega arith) (omega arith)
      (patched_join {f = long_word n m short} (omega arith) (omega arith) pairs u (in_long short messages))
      v (λ i h l. out_long short n m (8321 + 5 * m) (5120 - 5 * m) (λ j g. no_message_lem n m few j) i h (omega arith)))
      (λ i h l. absurd (omega arith))
