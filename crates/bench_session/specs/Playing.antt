-- What playing the event words of a script leaves.
use Rattle.std.specs.Prelude.{◌≡◌, true, List, [], ◌∷◌, ℕ, ◌+◌, ◌*◌, ◌≤◌, length}
use Rattle.bench_lines.specs.Decimal.{line_bytes, lines_bytes}
use Rattle.bench_lines.specs.Put.{Put}
use Rattle.model.specs.Words.{decode, reads_as_ring}
use Rattle.model.specs.Play.{play_word, play_all}
use Rattle.model.specs.Bench.{event_lines}

-- one word, event k
pub record OnePlayed (ws : List ℕ) (w k : ℕ) (ws' out out' : List ℕ) (at end : ℕ) : Type 0 where
  pub reads : reads_as_ring ws' ≡ true
  pub ring : decode ws' ≡ (play_word (decode ws) w).ring
  pub put : Put out out' at end (line_bytes (k ∷ (play_word (decode ws) w).answer ∷ length (play_word (decode ws) w).ring.messages ∷ []))
  pub room : end ≤ at + 63

-- a list of words, events k + 1 and on
pub record AllPlayed (ws script : List ℕ) (k : ℕ) (ws' out out' : List ℕ) (end : ℕ) : Type 0 where
  pub reads : reads_as_ring ws' ≡ true
  pub ring : decode ws' ≡ play_all (decode ws) script
  pub put : Put out out' 0 end (lines_bytes (event_lines (k + 1) (decode ws) script))
  pub room : end ≤ 63 * length script
