-- What a message by value stands for.
use Rattle.std.specs.Prelude.{◌≡◌}
use Rattle.model.specs.Ring.{Message}
use Rattle.model.specs.Structs.{message_of, RoomMessage}
use Rattle.model.specs.declared.message.MessageRecord.{MessageRecord}

pub record Says (m : MessageRecord) (x : Message) : Type 0 where
  pub message : message_of m ≡ x
  pub room : RoomMessage m
