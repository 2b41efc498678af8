-- The rest of a message: its last four words, the stamp and the view.
use Rattle.std.specs.Prelude.{ℕ, ◌+◌, ◌*◌, Bool, ◌||◌, List, [], ◌∷◌, get_or, eqb}
use Rattle.model.specs.Choice.{every}
use Rattle.model.specs.Leafset.{Table}
use Rattle.model.specs.Ring.{Message}
use Rattle.model.specs.Types.{uses_stamp}
use Rattle.model.specs.Words.{message_words, decode_message_at, view_fits}

module _ (ws : List ℕ) (base k : ℕ) where
  -- word i of message k is that of the message that the words decode to
  abbrev pub kept : ℕ → Bool
  kept i = eqb (get_or ws (base + 5 * k + i) 0) (get_or (message_words (decode_message_at ws (base + 5 * k))) i 0)

-- what `message_fits` asks of the stamp
abbrev pub stamp_fits : Message → Bool
stamp_fits m = uses_stamp m.type || eqb m.stamp 0

unfoldable pub rest_reads : List ℕ → ℕ → Table → ℕ → Bool
rest_reads ws base t k =
    every
    (kept ws base k 1
    ∷ kept ws base k 2
    ∷ kept ws base k 3
    ∷ kept ws base k 4
    ∷ stamp_fits (decode_message_at ws (base + 5 * k))
    ∷ view_fits t (decode_message_at ws (base + 5 * k))
    ∷ [])
