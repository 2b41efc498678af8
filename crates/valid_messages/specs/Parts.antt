-- `message_reads` in two parts: the first word of a message here, the rest in Rests.
use Rattle.std.specs.Prelude.{◌≡◌, ℕ, ◌+◌, ◌*◌, ◌/◌, ◌%◌, ◌^◌, ◌<◌, Bool, List, [], ◌∷◌, get_or, take}
use Rattle.model.specs.Choice.{every}
use Rattle.model.specs.Leafset.{Table}
use Rattle.model.specs.Ring.{Message}
use Rattle.model.specs.Words.{at, decode_message_at, message_tests}
use Rattle.valid_messages.specs.Rests.{kept}

-- what `message_fits` asks but for the stamp and the view: its first six tests
unfoldable pub first_fits : Table → Message → Bool
first_fits t m = every (take 6 (message_tests t m))

unfoldable pub first_reads : List ℕ → ℕ → Table → ℕ → Bool
first_reads ws base t k = every (kept ws base k 0 ∷ first_fits t (decode_message_at ws (base + 5 * k)) ∷ [])

-- the first words of the messages from message `from` on, so many, in two halves
pub record Halves (ws : List ℕ) (base from : ℕ) (lows highs : List ℕ) (count : ℕ) : Type 0 where
  pub low : (k : ℕ) → k < count → get_or lows k 0 ≡ at ws (base + 5 * (from + k)) % 2 ^ 16
  pub high : (k : ℕ) → k < count → get_or highs k 0 ≡ at ws (base + 5 * (from + k)) / 2 ^ 16
