-- The words loaded, one after the other.
use mathlib.Core.Path.{◌≡◌, refl, sym, ap, ◌∙◌}
use mathlib.Core.List.{List, [], ◌∷◌, ◌++◌, append-nil}
use Prim.Native.Nat.{ℕ, zero, suc, ◌+◌, ◌*◌, ◌/◌, ◌≤◌, ◌<◌}
use native.Mathlib.Numerals.{add-one}
use native.Mathlib.Nat.{add-zero}
use native.Mathlib.Omega.{arith}
use Rattle.std.specs.Simd.{first_chunks}
use Rattle.std.specs.Int.{w32, from_le_bytes}
use lib.ListN.{length, get_or, take, drop, set, length-drop, length-set}
use lib.Seq.{take-suc-set, append_snoc, drop-drop, get_or-drop, get_or-take}
use Rattle.model.specs.Bench.{little_endian}
use Rattle.bench_script.specs.Loaded.{Loaded, word_of}

-- four bytes or more, and fewer
four : (l : List ℕ) → 4 ≤ length l → little_endian l ≡ word_of l 0 ∷ little_endian (drop 4 l)
unfolding little_endian
four [] h = absurd (omega arith)
four (a ∷ []) h = absurd (omega arith)
four (a ∷ b ∷ []) h = absurd (omega arith)
four (a ∷ b ∷ c ∷ []) h = absurd (omega arith)
four (a ∷ b ∷ c ∷ d ∷ l) h = refl

fewer : (l : List ℕ) → length l < 4 → little_endian l ≡ []
unfolding little_endian
fewer [] h = refl
fewer (a ∷ []) h = refl
fewer (a ∷ b ∷ []) h = refl
fewer (a ∷ b ∷ c ∷ []) h = refl
fewer (a ∷ b ∷ c ∷ d ∷ l) h = absurd (omega arith)

further : (l : List ℕ) (n : ℕ) → word_of (drop n l) 0 ≡ word_of l n
further l n = simp (get_or-drop, add-zero)

next_word : (l : List ℕ) (i : ℕ) → 4 * i + 4 ≤ length l → little_endian (drop (4 * i) l) ≡ word_of l (4 * i) ∷ little_endian (drop (4 * (i + 1)) l)
next_word l i h =
    let e : 4 * i + 4 ≡ 4 * (i + 1) = omega arith in
    four (drop (4 * i) l) (rw (length-drop (4 * i) l) (omega arith)) ∙ rw (further l (4 * i), drop-drop 4 (4 * i) l, e)

-- the chunk at place i, and its word
chunk_at : (k i : ℕ) (bytes : List ℕ) → i < k → get_or (first_chunks 4 k bytes) i [] ≡ take 4 (drop (4 * i) bytes)
chunk_at zero i bytes h = absurd (omega arith)
chunk_at (suc k) zero bytes h = refl
chunk_at (suc k) (suc i) bytes h =
    let e : 4 * suc i ≡ 4 + 4 * i = omega arith in
    chunk_at k i (drop 4 bytes) (omega arith) ∙ rw (e, drop-drop)

pub word_of_four : (bytes : List ℕ) (k i : ℕ) → i < k → {fours : List (List ℕ)} {w : ℕ} → fours ≡ first_chunks 4 k bytes
    → w ≡ from_le_bytes w32 (get_or fours i []) → w ≡ word_of bytes (4 * i)
word_of_four bytes k i h {fours} {w} e f =
    let same : get_or fours i [] ≡ take 4 (drop (4 * i) bytes) = ap (λ (l : List (List ℕ)). get_or l i []) e ∙ chunk_at k i bytes h in
    let at : (j : ℕ) → j < 4 → get_or (get_or fours i []) j 0 ≡ get_or bytes (4 * i + j) 0 = λ j less. rw (same, get_or-take, get_or-drop) in
    f ∙ (rw (at 0 (omega arith), at 1 (omega arith), at 2 (omega arith), at 3 (omega arith), add-zero) (omega arith))

-- the first i words are loaded
pub record Filled (bytes entry words : List ℕ) (i : ℕ) : Type 0 where
  pub filled : take i words ++ little_endian (drop (4 * i) bytes) ≡ little_endian bytes
  pub long : length words ≡ length entry

module _ (bytes entry : List ℕ) where
  pub filled_none : Filled bytes entry entry 0
  filled_none = record { filled = refl; long = refl }

  pub filled_more : (words : List ℕ) (i w : ℕ) → 4 * i + 4 ≤ length bytes → i < length entry → w ≡ word_of bytes (4 * i) → Filled bytes entry words i
      → Filled bytes entry (set words i w) (i + 1)
  filled_more words i w h r e f =
      record {
        filled =
            let one : take (i + 1) (set words i w) ≡ take i words ++ (w ∷ []) = rw (add-one i) (take-suc-set words i w (rw f.long r)) in
            ap (λ (l : List ℕ). l ++ little_endian (drop (4 * (i + 1)) bytes)) one
            ∙ append_snoc (take i words) w _
            ∙ ap (λ (v : ℕ). take i words ++ v ∷ little_endian (drop (4 * (i + 1)) bytes)) e
            ∙ ap (λ (l : List ℕ). take i words ++ l) (sym (next_word bytes i h))
            ∙ f.filled;
        long = length-set words i w ∙ f.long;
      }

  pub filled_all : (words : List ℕ) → Filled bytes entry words (length bytes / 4) → Loaded bytes entry words (length bytes / 4)
  filled_all words f =
      let i : ℕ = length bytes / 4 in
      record {
        loaded =
            sym (append-nil (take i words))
            ∙ ap (λ (l : List ℕ). take i words ++ l) (sym (fewer (drop (4 * i) bytes) (rw (length-drop (4 * i) bytes) (omega arith))))
            ∙ f.filled;
        count = refl;
        long = f.long;
      }
