-- The messages: message k is the five words from place base + 5 * k on.
use Rattle.std.specs.Prelude.{ℕ, ◌+◌, ◌*◌, Bool, List, [], ◌∷◌, get_or, eqb}
use Rattle.model.specs.Choice.{every}
use Rattle.model.specs.Sets.{all}
use Rattle.model.specs.Leafset.{Table}
use Rattle.model.specs.Words.{message_words, decode_message_at, message_fits}
use Rattle.valid_messages.specs.Senders.{senders_read}

-- the five words of message k are those of the message that they decode to, and it fits
unfoldable pub message_reads : List ℕ → ℕ → Table → ℕ → Bool
message_reads ws base t k =
    every
    (all 5 (λ i. eqb (get_or ws (base + 5 * k + i) 0) (get_or (message_words (decode_message_at ws (base + 5 * k))) i 0))
    ∷ message_fits t (decode_message_at ws (base + 5 * k))
    ∷ [])

-- m messages, and not too many of one sender
unfoldable pub messages_read : List ℕ → ℕ → Table → ℕ → Bool
messages_read ws base t m =
    every
    (all m (message_reads ws base t)
    ∷ senders_read ws base t m
    ∷ [])
