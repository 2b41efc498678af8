-- What the records of the code stand for: an own record, a group of messages, what a step leaves.
use Rattle.std.specs.Prelude.{◌≡◌, true, false, List, [], ◌∷◌, ◌++◌, map, ℕ, ◌<◌, ◌^◌}
use Rattle.model.specs.Sets.{of_bits, members}
use Rattle.model.specs.Ring.{Own, Message}
use Rattle.model.specs.Types.{uses_subject, names_spare, ping_replace}
use Rattle.model.specs.Steps.{Effect, plain, stamped}
use Rattle.model.specs.Structs.{own_of, message_of, spare_at, RoomNode, RoomMessage}
use Rattle.model.specs.declared.node.NodeRecord.{NodeRecord}
use Rattle.model.specs.declared.message.MessageRecord.{MessageRecord}
use Rattle.sets.specs.Within.{Within}
use Rattle.records.specs.declared.effect.EffectRecord.{EffectRecord}
use Rattle.records.specs.declared.effect.Sends.{Sends}
use Rattle.records.specs.declared.effect.Sends.TheVariants.{Nothing, One, Each, ToSpares}

-- an own record of a table of n nodes: its parts have room, its sets are of nodes of the table
pub record OwnFits (n : ℕ) (q : NodeRecord) : Type 0 where
  pub room : RoomNode q
  pub held_within : Within n q.held
  pub candidates_within : Within n q.candidates

-- a record that stands for o
pub record Owns (n : ℕ) (q : NodeRecord) (o : Own) : Type 0 where
  pub own : own_of q ≡ o
  pub fits : OwnFits n q

-- a message to a node of a table of n: its subject, where its type uses one that is no spare, is a node
pub record Delivered (n : ℕ) (m : MessageRecord) : Type 0 where
  pub room : RoomMessage m
  pub sender_low : m.sender.0 < n
  pub subject_low : uses_subject m.tag ≡ true → names_spare m.tag ≡ false → m.subject.0 < n
  pub view_within : Within n m.view

-- ---- what a step leaves

-- the messages of a group, which the node me sends at `time` with the own record q
abbrev pub sends_of : ℕ → ℕ → NodeRecord → Sends → List Message
sends_of me time q Nothing = []
sends_of me time q (One m) = message_of m ∷ []
sends_of me time q (Each tag to) = map (plain tag me) (members 64 (of_bits to))
sends_of me time q (ToSpares to) = map (λ z. stamped ping_replace me (spare_at q z) z time) (members 64 (of_bits to))

abbrev pub effect_of : ℕ → ℕ → EffectRecord → Effect
effect_of me time r = record { own = own_of r.own; sent = sends_of me time r.own r.first ++ sends_of me time r.own r.second }

-- the messages of a group have room in their bits
abbrev pub SendsFit : NodeRecord → Sends → Type 0
SendsFit q Nothing = Unit
SendsFit q (One m) = RoomMessage m
SendsFit q (Each tag to) = tag < 2 ^ 4
SendsFit q (ToSpares to) = (z : ℕ) → of_bits to z ≡ true → spare_at q z < 64

-- a group that stands for the messages ms
pub record Sent (me time : ℕ) (q : NodeRecord) (s : Sends) (ms : List Message) : Type 0 where
  pub messages : sends_of me time q s ≡ ms
  pub fits : SendsFit q s

-- r stands for the effect e of a step of the node me at `time`, in a table of n nodes
pub record Leaves (n me time : ℕ) (r : EffectRecord) (e : Effect) : Type 0 where
  pub effect : effect_of me time r ≡ e
  pub own_fits : OwnFits n r.own
  pub first_fits : SendsFit r.own r.first
  pub second_fits : SendsFit r.own r.second
