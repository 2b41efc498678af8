-- What a step is lent.
use Rattle.std.specs.Prelude.{List, ℕ, ◌≤◌, length}
use Rattle.model.specs.Leafset.{Table}
use Rattle.model.specs.Ring.{Own, Message}
use Rattle.model.specs.Steps.{Effect}
use Rattle.model.specs.Structs.{RoomSides, spare_at, table_of, own_of, message_of}
use Rattle.model.specs.declared.values.Sides.{Sides}
use Rattle.model.specs.declared.node.NodeRecord.{NodeRecord}
use Rattle.model.specs.declared.message.MessageRecord.{MessageRecord}
use Rattle.sets.specs.Within.{InTable}
use Rattle.records.specs.Effects.{OwnFits, Leaves}
use Rattle.records.specs.declared.effect.EffectRecord.{EffectRecord}
use Rattle.records.specs.declared.node.Node.{Node}

-- the table's keys, A and B, the node me of it, and the own record of that node
pub record Lent (keys : List ℕ) (sides : Sides) (me : ℕ) (own : NodeRecord) : Type 0 where
  pub table : InTable keys me own.held
  pub sides_room : RoomSides sides
  pub own_fits : OwnFits (length keys) own
  pub spare_high : (z : ℕ) → spare_at own z ≤ 64

abbrev pub IsLent : Node → Type 0
IsLent node = Lent node.keys.now node.sides node.me.0 node.own.now

-- r stands for what the node leaves by the step, taken at `time`
abbrev pub Takes : Node → ℕ → EffectRecord → (Table → ℕ → ℕ → Own → Effect) → Type 0
Takes node time r step =
    Leaves (length node.keys.now) node.me.0 time r (step (table_of node.sides node.keys.now) node.me.0 time (own_of node.own.now))

-- the same of a step on a message
abbrev pub TakesOn : Node → ℕ → MessageRecord → EffectRecord → (Table → ℕ → ℕ → Own → Message → Effect) → Type 0
TakesOn node time message r step = Takes node time r (λ t me now o. step t me now o (message_of message))
