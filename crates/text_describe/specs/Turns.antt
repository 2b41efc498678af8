-- What each chunk of a script gives of its text.
use Rattle.std.specs.Prelude.{◌≡◌, Bool, true, List, ◌++◌, ℕ, eqb, length, if◌then◌else◌}
use Rattle.bench_lines.specs.Put.{Put}
use Rattle.bench_script.specs.Chunks.{chunk_size, tail_of}
use Rattle.model.specs.Answers.{is_accepted}
use Rattle.model.specs.Bench.{little_endian, script_answer}
use Rattle.text_form.specs.Describe.{word_text, raw_text, word_lines, tail_text, words_text}
use Rattle.text_describe.specs.declared.Session.{Session}

-- a word after the opening, or of a script that opens no ring
unfoldable pub line_text : Bool → ℕ → List ℕ
line_text opened = if opened then word_text else raw_text

-- what a chunk gives; whether the script opens a ring; whether there is more to come
pub record Turn : Type 0 where
  pub bytes : List ℕ
  pub opened : Bool
  pub more : Bool

-- the words of a chunk, the first or a later one
unfoldable pub chunk_text : Bool → Bool → List ℕ → List ℕ
chunk_text started opened ws = if started then word_lines (line_text opened) ws else words_text ws

unfoldable pub opens_ring : Bool → Bool → List ℕ → Bool
opens_ring started opened ws = if started then opened else is_accepted (script_answer ws)

-- a chunk
unfoldable pub turn : Bool → Bool → List ℕ → Turn
turn started opened chunk =
    record {
      bytes = chunk_text started opened (little_endian chunk) ++ tail_text (tail_of chunk);
      opened = opens_ring started opened (little_endian chunk);
      more = eqb (length chunk) chunk_size;
    }

-- the session s and the output are what the turn gives
pub record Stepped (t : Turn) (out out' : List ℕ) (s : Session) : Type 0 where
  pub started : s.started ≡ true
  pub opened : s.opened ≡ t.opened
  pub more : s.more ≡ t.more
  pub put : Put out out' 0 s.end t.bytes
