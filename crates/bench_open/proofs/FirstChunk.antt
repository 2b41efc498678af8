-- The first chunk of a session opens a ring and plays the words after the keys, or the session ends. A full chunk has more words than the
-- opening looks at, so that it opens what the whole script does.
use mathlib.Core.Path.{◌≡◌, ◌∙◌}
use mathlib.Core.Bool.{true, false}
use mathlib.Core.List.{List, [], ◌∷◌, ◌++◌}
use Prim.Native.Nat.{ℕ, ◌+◌, ◌%◌, ◌≤◌}
use native.Mathlib.Omega.{arith}
use lib.ListN.{length, drop}
use lib.Seq.{drop-append-le}
use Rattle.std.specs.Prelude.{if◌then◌else◌}
use Rattle.model.specs.Leafset.{Table, size}
use Rattle.model.specs.Answers.{is_accepted}
use Rattle.model.specs.Bench.{little_endian, script_table, script_answer}
use Rattle.model.proofs.Laws.{decide}
use Rattle.model.proofs.Answers.{accepted_is}
use Rattle.bench_script.specs.Chunks.{Cut, tail_of}
use Rattle.bench_script.specs.Chunks as script
use Rattle.bench_script.proofs.Chunks.{words_append, many_words, same_tail}
use Rattle.bench_script.proofs.Sessions.{Session, turn, whole, last_turn, full_turn, every_cut}
use Rattle.bench_open.proofs.Begins.{enough_words}
use Rattle.bench_open.proofs.Longer.{table_same, answer_same}

-- the words after the keys
abbrev pub events : List ℕ → List ℕ
events ws = drop (1 + size (script_table ws)) ws

-- where the session begins, and what a refusal prints, after which nothing is played
pub record Opening {S : Type 0} (σ : Session S) : Type 0 where
  pub begins : Table → S
  pub refusal : ℕ → List ℕ
  pub chunks : List (List ℕ) → List ℕ
  pub accepted : (c : List ℕ) (cs : List (List ℕ)) → is_accepted (script_answer (little_endian c)) ≡ true
      → chunks (c ∷ cs) ≡ turn σ (begins (script_table (little_endian c))) (events (little_endian c)) c cs
  pub refused : (c : List ℕ) (cs : List (List ℕ)) → is_accepted (script_answer (little_endian c)) ≡ false
      → chunks (c ∷ cs) ≡ refusal (script_answer (little_endian c))

module _ {S : Type 0} {σ : Session S} (o : Opening σ) where
  -- a script of the words ws and the bytes after them
  abbrev pub opened : List ℕ → List ℕ → List ℕ
  opened ws tail =
      if is_accepted (script_answer ws) then whole σ (o.begins (script_table ws)) (events ws) tail else o.refusal (script_answer ws)

  pub every_opening : {bytes : List ℕ} {cs : List (List ℕ)} → Cut bytes cs → o.chunks cs ≡ opened (little_endian bytes) (tail_of bytes)
  every_opening (script.last {c} h) =
      decide (is_accepted (script_answer (little_endian c)))
      (λ e. o.accepted c [] e ∙ (rw e (last_turn σ _ _ c [] h)))
      (λ e. o.refused c [] e ∙ (rw e))
  every_opening (script.full {c} {d} {cs} h q) = decide (is_accepted (script_answer ws)) accepted refused
    where
      ws : List ℕ
      ws = little_endian c

      vs : List ℕ
      vs = little_endian d

      four : length c % 4 ≡ 0
      four = omega arith

      long : 128 ≤ length ws
      long = omega (arith, many_words c)

      refused : is_accepted (script_answer ws) ≡ false → o.chunks (c ∷ cs) ≡ opened (little_endian (c ++ d)) (tail_of (c ++ d))
      refused e = o.refused c cs e ∙ (rw (words_append c d four, answer_same ws vs long, e))

      accepted : is_accepted (script_answer ws) ≡ true → o.chunks (c ∷ cs) ≡ opened (little_endian (c ++ d)) (tail_of (c ++ d))
      accepted e =
          let n : ℕ = 1 + size (script_table ws) in
          let s : S = o.begins (script_table ws) in
          let enough : n ≤ length ws = enough_words ws (accepted_is (script_answer ws) e) in
          o.accepted c cs e
          ∙ (rw (same_tail c d four, words_append c d four, answer_same ws vs long, table_same ws vs long, e, drop-append-le n ws vs enough)
          (full_turn σ s (drop n ws) vs c (tail_of d) cs h (every_cut σ q (σ.after s (drop n ws)))))
