-- What the structs of the code mean, and the room of their parts.
use Rattle.std.specs.Prelude.{◌≡◌, List, ℕ, ◌^◌, ◌<◌, length, get_or}
use Rattle.model.specs.Sets.{of_bits, none_node}
use Rattle.model.specs.Leafset.{Table}
use Rattle.model.specs.Ring.{Own, Message}
use Rattle.model.specs.declared.values.Sides.{Sides}
use Rattle.model.specs.declared.node.NodeRecord.{NodeRecord}
use Rattle.model.specs.declared.message.MessageRecord.{MessageRecord}

-- the table of A, B and a lent list of keys
abbrev pub table_of : Sides → List ℕ → Table
table_of sides keys = record { sides = sides; keys = keys }

-- for what does not depend on A and B
abbrev pub any_sides : Sides
any_sides = record { ahead = 0; behind = 0 }

abbrev pub stamp_at : NodeRecord → ℕ → ℕ
stamp_at q z = (get_or q.commit z (record { 0 = 0 })).0

abbrev pub spare_at : NodeRecord → ℕ → ℕ
spare_at q z = (get_or q.spare z (record { 0 = none_node })).0

-- the own record of a node
abbrev pub own_of : NodeRecord → Own
own_of q =
    record {
      held = of_bits q.held;
      candidates = of_bits q.candidates;
      commit = stamp_at q;
      spare = spare_at q;
    }

abbrev pub message_of : MessageRecord → Message
message_of m =
    record {
      type = m.tag;
      sender = m.sender.0;
      receiver = m.receiver.0;
      subject = m.subject.0;
      stamp = m.stamp.0;
      view = of_bits m.view;
    }

-- the arrays are whole, and the parts have room in their bits

pub record RoomSides (s : Sides) : Type 0 where
  pub ahead_room : s.ahead < 2 ^ 4
  pub behind_room : s.behind < 2 ^ 4

pub record RoomNode (q : NodeRecord) : Type 0 where
  pub commit_room : (z : ℕ) → stamp_at q z < 2 ^ 24
  pub spare_room : (z : ℕ) → spare_at q z < 2 ^ 7
  pub commit_long : length q.commit ≡ 64
  pub spare_long : length q.spare ≡ 64

pub record RoomMessage (m : MessageRecord) : Type 0 where
  pub tag_room : m.tag < 2 ^ 4
  pub sender_room : m.sender.0 < 2 ^ 6
  pub receiver_room : m.receiver.0 < 2 ^ 6
  pub subject_room : m.subject.0 < 2 ^ 7
  pub stamp_room : m.stamp.0 < 2 ^ 24
