-- A session of the bench: what each chunk of the script prints and leaves.
use Rattle.std.specs.Prelude.{◌≡◌, Bool, true, false, List, [], ◌∷◌, ◌++◌, ℕ, ◌+◌, ◌%◌, ◌≤◌, eqb, length, drop, if◌then◌else◌}
use Rattle.bench_lines.specs.Decimal.{line_bytes, lines_bytes}
use Rattle.bench_lines.specs.Put.{Put}
use Rattle.model.specs.Leafset.{size}
use Rattle.model.specs.Ring.{Ring, initial}
use Rattle.model.specs.Answers.{number_of, is_accepted}
use Rattle.model.specs.Words.{ring_length, decode, reads_as_ring}
use Rattle.model.specs.Play.{play_all}
use Rattle.model.specs.Bench.{Line, little_endian, event_lines, script_table, script_answer}
use Rattle.model.specs.declared.refusal.Refusal.TheVariants.{NotAnEvent}
use Rattle.bench_script.specs.Chunks.{chunk_size}
use Rattle.bench_report.specs.Report.{end_bytes}
use Rattle.bench_session.specs.declared.turn.Session.{Session}

-- what a chunk prints; the ring, the count of events and whether a ring is open after it; whether there is more to come
pub record Turn : Type 0 where
  pub bytes : List ℕ
  pub ring : Ring
  pub events : ℕ
  pub opened : Bool
  pub more : Bool

-- "A tail under 4 bytes is an event answered 4.": of a chunk with so many bytes, after k events
unfoldable pub tail_lines : ℕ → Ring → ℕ → List Line
tail_lines k r bytes = if eqb (bytes % 4) 0 then [] else ((k + 1) ∷ number_of NotAnEvent ∷ length r.messages ∷ []) ∷ []

-- the end of the output, after the last chunk
unfoldable pub end_of : Bool → Ring → List ℕ
end_of more r = if more then [] else end_bytes r

-- the events ws of a chunk with so many bytes, after k events
unfoldable pub played_turn : ℕ → Ring → List ℕ → ℕ → Turn
played_turn k r ws bytes =
    record {
      bytes =
          (lines_bytes (event_lines (k + 1) r ws) ++ lines_bytes (tail_lines (k + length ws) (play_all r ws) bytes))
          ++ end_of (eqb bytes chunk_size) (play_all r ws);
      ring = play_all r ws;
      events = k + length ws;
      opened = true;
      more = eqb bytes chunk_size;
    }

-- the words of the first chunk: "A refused opening prints only 0, the refusal, 0."
unfoldable pub first_turn : List ℕ → ℕ → Turn
first_turn ws bytes =
    if is_accepted (script_answer ws)
    then played_turn 0 (initial (script_table ws)) (drop (1 + size (script_table ws)) ws) bytes
    else record { bytes = line_bytes (0 ∷ script_answer ws ∷ 0 ∷ []); ring = initial (script_table ws); events = 0; opened = false; more = false }

-- the words of a chunk with so many bytes, where a ring is open already or not
unfoldable pub words_turn : Bool → ℕ → Ring → List ℕ → ℕ → Turn
words_turn already k r ws bytes = if already then played_turn k r ws bytes else first_turn ws bytes

-- a chunk
abbrev pub turn : Bool → ℕ → Ring → List ℕ → Turn
turn already k r chunk = words_turn already k r (little_endian chunk) (length chunk)

-- what a session needs of the words: those of a ring, once one is open; and it has played at most k events
pub record Ready (k : ℕ) (s : Session) (ws : List ℕ) : Type 0 where
  pub long : length ws ≡ ring_length
  pub reads : s.opened ≡ true → reads_as_ring ws ≡ true
  pub few : s.count ≤ k

-- the session s, the words and the output are what the turn gives
pub record Stepped (t : Turn) (ws out out' : List ℕ) (s : Session) : Type 0 where
  pub more : s.more ≡ t.more
  pub opened : s.opened ≡ t.opened
  pub count : s.count ≡ t.events
  pub put : Put out out' 0 s.end t.bytes
  pub long : length ws ≡ ring_length
  pub reads : t.opened ≡ true → reads_as_ring ws ≡ true
  pub ring : t.opened ≡ true → decode ws ≡ t.ring
