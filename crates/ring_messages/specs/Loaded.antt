-- A message, loaded by value.
use Rattle.std.specs.Prelude.{◌≡◌, List, ℕ}
use Rattle.model.specs.Words.{decode_message}
use Rattle.model.specs.Structs.{message_of, RoomMessage}
use Rattle.model.specs.declared.message.MessageRecord.{MessageRecord}

-- what loading the message at position k gives
pub record LoadedMessage (ws : List ℕ) (k : ℕ) (m : MessageRecord) : Type 0 where
  pub message : message_of m ≡ decode_message ws k
  pub room : RoomMessage m
