-- The words of a script in two parts, and its chunks.
use mathlib.Core.Path.{◌≡◌, refl, ap, ◌∙◌, subst}
use mathlib.Core.List.{List, [], ◌∷◌, ◌++◌}
use Prim.Native.Nat.{ℕ, zero, suc, ◌+◌, ◌-◌, ◌*◌, ◌/◌, ◌^◌, ◌%◌, ◌≤◌, ◌<◌}
use native.Mathlib.Omega.{arith}
use borrow.Author.Tests.{ltb-true, ltb-false}
use lib.Dec.{ltb}
use lib.ListN.{length, take, drop, length-append, length-drop, drop_of_length-le, take-append-drop}
use lib.Seq.{length-take-le, take_all, drop-append-add}
use Rattle.model.specs.Bench.{little_endian}
use Rattle.model.proofs.Laws.{if_law}
use Rattle.bench_script.specs.Chunks.{chunk_size, Cut, chunks_of, chunks, tail_of}
use Rattle.bench_script.specs.Chunks as script

-- ---- words

pub words_append : (c d : List ℕ) → length c % 4 ≡ 0 → little_endian (c ++ d) ≡ little_endian c ++ little_endian d
unfolding little_endian
words_append [] d h = refl
words_append (a ∷ []) d h = absurd (omega arith)
words_append (a ∷ b ∷ []) d h = absurd (omega arith)
words_append (a ∷ b ∷ c ∷ []) d h = absurd (omega arith)
words_append (a ∷ b ∷ c ∷ e ∷ l) d h = ap (λ (s : List ℕ). (a + 2 ^ 8 * b + 2 ^ 16 * c + 2 ^ 24 * e) ∷ s) (words_append l d (omega arith))

-- four bytes a word, and under 4 bytes more
pub few_words : (l : List ℕ) → 4 * length (little_endian l) ≤ length l
unfolding little_endian
few_words [] = omega arith
few_words (a ∷ []) = omega arith
few_words (a ∷ b ∷ []) = omega arith
few_words (a ∷ b ∷ c ∷ []) = omega arith
few_words (a ∷ b ∷ c ∷ d ∷ l) = let h = few_words l in omega arith

pub many_words : (l : List ℕ) → length l ≤ 4 * length (little_endian l) + 3
unfolding little_endian
many_words [] = omega arith
many_words (a ∷ []) = omega arith
many_words (a ∷ b ∷ []) = omega arith
many_words (a ∷ b ∷ c ∷ []) = omega arith
many_words (a ∷ b ∷ c ∷ d ∷ l) = let h = many_words l in omega arith

-- a list from place m on, as the code takes it
pub rest_from : (l : List ℕ) {m n : ℕ} → m ≡ n → take (length l - m) (drop m l) ≡ drop n l
rest_from l {m} e = take_all (length l - m) (drop m l) (simp length-drop (omega arith)) ∙ ap (λ (k : ℕ). drop k l) e

-- ---- tails

pub words_counted : (chunk : List ℕ) {n : ℕ} → n ≡ length chunk / 4 → 4 * n ≡ 4 * length (little_endian chunk)
words_counted chunk e = omega (arith, few_words chunk, many_words chunk)

pub short_tail : (chunk : List ℕ) → length (tail_of chunk) < 4
short_tail chunk = simp length-drop (omega (arith, many_words chunk))

-- a chunk of whole words has none
pub no_tail : (c : List ℕ) → length c % 4 ≡ 0 → tail_of c ≡ []
no_tail c h = drop_of_length-le c {i = 4 * length (little_endian c)} (omega (arith, few_words c, many_words c))

-- and leaves that of the script
pub same_tail : (c d : List ℕ) → length c % 4 ≡ 0 → tail_of (c ++ d) ≡ tail_of d
same_tail c d h =
    let e : 4 * length (little_endian (c ++ d)) ≡ length c + 4 * length (little_endian d) =
    omega (arith, few_words c, many_words c, length-append (little_endian c) (little_endian d), ap length (words_append c d h)) in
    rw e (drop-append-add c d (4 * length (little_endian d)))

-- ---- chunks

cut_of : (k : ℕ) (bytes : List ℕ) → length bytes ≤ k → Cut bytes (chunks_of k bytes)
unfolding chunks_of
cut_of zero bytes h = script.last {c = bytes} (omega arith)
cut_of (suc k) bytes h =
    if_law (Cut bytes) (ltb (length bytes) chunk_size) (bytes ∷ []) (take chunk_size bytes ∷ chunks_of k (drop chunk_size bytes))
    (λ t. script.last (ltb-true (length bytes) chunk_size t))
    (λ f.
    let l : chunk_size ≤ length bytes = ltb-false (length bytes) chunk_size f in
    subst (λ (s : List ℕ). Cut s (take chunk_size bytes ∷ chunks_of k (drop chunk_size bytes))) (take-append-drop chunk_size bytes)
    (script.full (length-take-le chunk_size bytes l) (cut_of k (drop chunk_size bytes) (simp length-drop (omega arith)))))

-- every list of bytes is cut into chunks
pub every_script_is_cut : (bytes : List ℕ) → Cut bytes (chunks bytes)
unfolding chunks
every_script_is_cut bytes = cut_of (length bytes) bytes (omega arith)
