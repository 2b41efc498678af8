-- The chunks of a script, one after the other, give the text of the whole script.
use mathlib.Core.Path.{◌≡◌, refl, sym, ◌∙◌}
use mathlib.Core.Bool.{Bool, true, false}
use mathlib.Core.List.{List, [], ◌∷◌, ◌++◌, append_assoc, append-nil}
use Prim.Native.Nat.{ℕ, ◌+◌, ◌%◌, ◌≤◌}
use native.Mathlib.Omega.{arith}
use borrow.Author.Tests.{eq-eqb, ne_eqb}
use lib.ListN.{length, drop}
use lib.Seq.{drop-append-le}
use Rattle.bench_lines.specs.Decimal.{space, newline}
use Rattle.model.specs.Leafset.{size}
use Rattle.model.specs.Answers.{is_accepted}
use Rattle.model.specs.Bench.{little_endian, script_table, script_answer}
use Rattle.model.proofs.Laws.{decide}
use Rattle.model.proofs.Answers.{accepted_is}
use Rattle.bench_script.specs.Chunks.{chunk_size, Cut, chunks, tail_of}
use Rattle.bench_script.specs.Chunks as script
use Rattle.bench_script.proofs.Chunks.{words_append, many_words, no_tail, same_tail, every_script_is_cut}
use Rattle.bench_script.proofs.Sessions.{Session, lines_append, every_cut}
use Rattle.bench_open.proofs.Begins.{enough_words}
use Rattle.bench_open.proofs.Longer.{table_same, answer_same}
use Rattle.text_form.specs.Names.{tail_name}
use Rattle.text_form.specs.Describe.{word_text, word_lines, opening_text, hex_bytes, tail_text, words_text, describe}
use Rattle.text_describe.specs.Turns.{line_text, chunk_text, opens_ring, turn}
use Rattle.text_describe.specs.Whole.{turns_text}

-- ---- the words of a chunk, once it is known whether the script opens a ring

line_one : (text : ℕ → List ℕ) (w : ℕ) (ws : List ℕ) → word_lines text (w ∷ ws) ≡ (text w ++ newline ∷ []) ++ word_lines text ws
unfolding word_lines
line_one text w ws = sym (append_assoc (text w) (newline ∷ []) (word_lines text ws))

-- a word leaves that as it is, and the text has no end of its own
session : Session Bool
unfolding word_lines tail_text turns_text turn chunk_text opens_ring
session =
    record {
      line = λ opened w. line_text opened w ++ newline ∷ [];
      next = λ opened w. opened;
      lines = λ opened. word_lines (line_text opened);
      lines_none = λ opened. refl;
      lines_one = λ opened. line_one (line_text opened);
      after = λ opened ws. opened;
      after_none = λ opened. refl;
      after_one = λ opened w ws. refl;
      tail = λ opened. tail_text;
      tail_none = λ opened. refl;
      end = λ opened. [];
      turns = turns_text true;
      turns_one = λ opened c cs. refl;
    }

-- ---- the first words

pub words_refused : (ws : List ℕ) → is_accepted (script_answer ws) ≡ false → word_lines (line_text false) ws ≡ words_text ws
unfolding line_text words_text
words_refused ws e = rw e

pub words_opened : (ws : List ℕ) {events : List ℕ} → is_accepted (script_answer ws) ≡ true → events ≡ drop (1 + size (script_table ws)) ws
    → opening_text (script_table ws) ++ word_lines (line_text true) events ≡ words_text ws
unfolding line_text words_text
words_opened ws e h = rw (e, h)

-- the words of a longer script
module _ (ws vs : List ℕ) (long : 128 ≤ length ws) where
  abbrev Longer : Type 0
  Longer = words_text (ws ++ vs) ≡ words_text ws ++ word_lines (line_text (is_accepted (script_answer ws))) vs

  longer_opened : is_accepted (script_answer ws) ≡ true → Longer
  unfolding session line_text words_text
  longer_opened e =
      let n : ℕ = 1 + size (script_table ws) in
      let enough : n ≤ length ws = enough_words ws (accepted_is (script_answer ws) e) in
      rw (answer_same ws vs long, table_same ws vs long, e, drop-append-le n ws vs enough, lines_append session true (drop n ws) vs)
      (sym (append_assoc (opening_text (script_table ws)) (word_lines word_text (drop n ws)) (word_lines word_text vs)))

  longer_refused : is_accepted (script_answer ws) ≡ false → Longer
  unfolding session line_text words_text
  longer_refused e = rw (answer_same ws vs long, e) (lines_append session false ws vs)

  words_longer : Longer
  words_longer = decide (is_accepted (script_answer ws)) longer_opened longer_refused

-- ---- tails

no_tail_text : (c : List ℕ) → length c % 4 ≡ 0 → tail_text (tail_of c) ≡ []
unfolding tail_text
no_tail_text c h = rw (no_tail c h)

pub tail_line_lem : (l : List ℕ) → (length l ≡ 0 → ⊥) → (tail_name ++ space ∷ hex_bytes l) ++ newline ∷ [] ≡ tail_text l
unfolding tail_text
tail_line_lem [] d = absurd (d refl)
tail_line_lem (b ∷ bs) d = refl

pub tail_none : (l : List ℕ) → length l ≡ 0 → tail_text l ≡ []
unfolding tail_text
tail_none [] h = refl
tail_none (b ∷ bs) h = absurd (omega arith)

-- ---- later chunks, then all

later_chunks : {bytes : List ℕ} {cs : List (List ℕ)} → Cut bytes cs → (opened : Bool)
    → turns_text true opened cs ≡ word_lines (line_text opened) (little_endian bytes) ++ tail_text (tail_of bytes)
unfolding session
later_chunks q opened = every_cut session q opened ∙ append-nil _

-- the chunks of a script give its text
pub chunks_describe : {bytes : List ℕ} {cs : List (List ℕ)} → Cut bytes cs → (opened : Bool) → turns_text false opened cs ≡ describe bytes
unfolding turns_text turn chunk_text opens_ring describe
chunks_describe (script.last {c} h) opened = rw (ne_eqb (length c) chunk_size (λ e. omega arith)) (append-nil _)
chunks_describe (script.full {c} {d} {cs} h q) opened =
    let four : length c % 4 ≡ 0 = omega arith in
    let now : Bool = is_accepted (script_answer (little_endian c)) in
    let more = words_longer (little_endian c) (little_endian d) (omega (arith, many_words c)) in
    rw (eq-eqb (length c) chunk_size h, no_tail_text c four, append-nil (words_text (little_endian c)), later_chunks q now)
    (rw (same_tail c d four, words_append c d four, more)
    (sym (append_assoc (words_text (little_endian c)) (word_lines (line_text now) (little_endian d)) (tail_text (tail_of d)))))

-- so for every list of bytes, what its chunks give one after the other is its text
pub every_script_is_described : (bytes : List ℕ) → turns_text false false (chunks bytes) ≡ describe bytes
every_script_is_described bytes = chunks_describe (every_script_is_cut bytes) false
