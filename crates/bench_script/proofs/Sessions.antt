-- A session plays a script chunk by chunk, over any step that plays a word: its chunks print what the words of the whole script print, then
-- the tail and the end. By induction over the chunks: a full one holds whole words and no tail, and words print by parts.
use mathlib.Core.Path.{◌≡◌, sym, ap, ◌∙◌}
use mathlib.Core.Bool.{Bool, true, false}
use mathlib.Core.List.{List, [], ◌∷◌, ◌++◌, append_assoc, append-nil}
use Prim.Native.Nat.{ℕ, ◌%◌, ◌<◌}
use native.Mathlib.Omega.{arith}
use borrow.Author.Tests.{eq-eqb, ne_eqb}
use lib.Dec.{eqb}
use lib.ListN.{length}
use Rattle.std.specs.Prelude.{if◌then◌else◌}
use Rattle.model.specs.Bench.{little_endian}
use Rattle.bench_script.specs.Chunks.{chunk_size, Cut, tail_of}
use Rattle.bench_script.specs.Chunks as script
use Rattle.bench_script.proofs.Chunks.{words_append, no_tail, same_tail}

-- a session that stands at a state S
pub record Session (S : Type 0) : Type 0 where
  -- a word: what it prints, and what it leaves
  pub line : S → ℕ → List ℕ
  pub next : S → ℕ → S
  -- words, one after the other
  pub lines : S → List ℕ → List ℕ
  pub lines_none : (s : S) → lines s [] ≡ []
  pub lines_one : (s : S) (w : ℕ) (ws : List ℕ) → lines s (w ∷ ws) ≡ line s w ++ lines (next s w) ws
  pub after : S → List ℕ → S
  pub after_none : (s : S) → after s [] ≡ s
  pub after_one : (s : S) (w : ℕ) (ws : List ℕ) → after s (w ∷ ws) ≡ after (next s w) ws
  -- the bytes after the last word, and the end
  pub tail : S → List ℕ → List ℕ
  pub tail_none : (s : S) → tail s [] ≡ []
  pub end : S → List ℕ
  -- chunks: there is more to come after a full one
  pub turns : S → List (List ℕ) → List ℕ
  pub turns_one : (s : S) (c : List ℕ) (cs : List (List ℕ))
      → turns s (c ∷ cs)
      ≡ lines s (little_endian c)
      ++ tail (after s (little_endian c)) (tail_of c)
      ++ (if eqb (length c) chunk_size then turns (after s (little_endian c)) cs else end (after s (little_endian c)))

-- the end of a turn, as a chunk prints it before the chunks after it
pub end_or_more : (full : Bool) (bytes end more : List ℕ)
    → (bytes ++ (if full then [] else end)) ++ (if full then more else []) ≡ bytes ++ (if full then more else end)
end_or_more true bytes end more = ap (λ (l : List ℕ). l ++ more) (append-nil bytes)
end_or_more false bytes end more = append-nil (bytes ++ end)

module _ {S : Type 0} (σ : Session S) where
  -- the words ws of a chunk c, and the chunks cs after it
  abbrev pub turn : S → List ℕ → List ℕ → List (List ℕ) → List ℕ
  turn s ws c cs =
      σ.lines s ws
      ++ σ.tail (σ.after s ws) (tail_of c)
      ++ (if eqb (length c) chunk_size then σ.turns (σ.after s ws) cs else σ.end (σ.after s ws))

  -- the words ws, the bytes after them, and the end
  abbrev pub whole : S → List ℕ → List ℕ → List ℕ
  whole s ws tail = σ.lines s ws ++ σ.tail (σ.after s ws) tail ++ σ.end (σ.after s ws)

  -- ---- words of two parts

  pub lines_append : (s : S) (ws vs : List ℕ) → σ.lines s (ws ++ vs) ≡ σ.lines s ws ++ σ.lines (σ.after s ws) vs
  lines_append s [] vs = rw (σ.lines_none s, σ.after_none s)
  lines_append s (w ∷ ws) vs =
      rw (σ.lines_one s w (ws ++ vs), σ.lines_one s w ws, σ.after_one s w ws, lines_append (σ.next s w) ws vs)
      (sym (append_assoc (σ.line s w) (σ.lines (σ.next s w) ws) _))

  after_append : (s : S) (ws vs : List ℕ) → σ.after s (ws ++ vs) ≡ σ.after (σ.after s ws) vs
  after_append s [] vs = rw (σ.after_none s)
  after_append s (w ∷ ws) vs = rw (σ.after_one s w (ws ++ vs), σ.after_one s w ws) (after_append (σ.next s w) ws vs)

  joined : (s : S) (ws vs tail : List ℕ) → σ.lines s ws ++ whole (σ.after s ws) vs tail ≡ whole s (ws ++ vs) tail
  joined s ws vs tail = rw (lines_append s ws vs, after_append s ws vs) (simp append_assoc)

  -- ---- chunks

  pub last_turn : (s : S) (ws c : List ℕ) (cs : List (List ℕ)) → length c < chunk_size → turn s ws c cs ≡ whole s ws (tail_of c)
  last_turn s ws c cs h = rw (ne_eqb (length c) chunk_size (λ e. omega arith))

  pub full_turn : (s : S) (ws vs c tail : List ℕ) (cs : List (List ℕ)) → length c ≡ chunk_size
      → σ.turns (σ.after s ws) cs ≡ whole (σ.after s ws) vs tail → turn s ws c cs ≡ whole s (ws ++ vs) tail
  full_turn s ws vs c tail cs h e =
      rw (eq-eqb (length c) chunk_size h, no_tail c (omega arith), σ.tail_none (σ.after s ws), append-nil (σ.lines s ws), e)
      (joined s ws vs tail)

  pub every_cut : {bytes : List ℕ} {cs : List (List ℕ)} → Cut bytes cs → (s : S) → σ.turns s cs ≡ whole s (little_endian bytes) (tail_of bytes)
  every_cut (script.last {c} h) s = σ.turns_one s c [] ∙ last_turn s (little_endian c) c [] h
  every_cut (script.full {c} {d} {cs} h q) s =
      let four : length c % 4 ≡ 0 = omega arith in
      σ.turns_one s c cs
      ∙ (rw (same_tail c d four, words_append c d four)
      (full_turn s (little_endian c) (little_endian d) c (tail_of d) cs h (every_cut q (σ.after s (little_endian c)))))
