-- What a change does to a ring, and what a decision is.
use Rattle.std.specs.Prelude.{◌≡◌, Bool, true, false, List, [], ◌++◌, ℕ, ◌+◌, ◌^◌, ◌<◌, ◌≤◌, length, Option, None, Some, Result, IfOk}
use Rattle.model.specs.Leafset.{size}
use Rattle.model.specs.Ring.{Own, Message as InFlight, Ring, message_at, sent_by}
use Rattle.model.specs.WellFormed.{Each}
use Rattle.model.specs.Answers.{first_of, answer_number}
use Rattle.model.specs.Words.{decode_table, decode, reads_as_ring}
use Rattle.model.specs.Play.{set_messages, remove_message, started, stopped, after, left_refusals, state_refusals}
use Rattle.model.specs.Structs.{own_of, RoomNode}
use Rattle.model.specs.declared.event.Event.{Event}
use Rattle.ring_head.specs.Parts.{update, stepped}
use Rattle.model.specs.declared.values.NodeNumber.{NodeNumber}
use Rattle.model.specs.declared.values.Stamp.{Stamp}
use Rattle.records.specs.Effects.{effect_of, SendsFit, Leaves}
use Rattle.records.specs.declared.effect.EffectRecord.{EffectRecord}
use Rattle.event_act.specs.declared.decision.Becomes.{Becomes}
use Rattle.event_act.specs.declared.decision.Becomes.TheVariants.{Stays, Starts, Stops, Acts}
use Rattle.event_act.specs.declared.decision.Change.{Change}
use Rattle.model.specs.declared.refusal.Refusal.{Refusal}

abbrev pub TakenLow : ℕ → Option ℕ → Type 0
TakenLow m None = Unit
TakenLow m (Some k) = k < m

abbrev pub taken_out : Option ℕ → Ring → Ring
taken_out None ρ = ρ
taken_out (Some k) ρ = remove_message k ρ

-- the message that is taken out is none of x's
abbrev pub TakenOther : Ring → Option ℕ → ℕ → Type 0
TakenOther ρ None x = Unit
TakenOther ρ (Some k) x = (message_at ρ k).sender ≡ x → ⊥

abbrev pub node_changed : Becomes → ℕ → ℕ → Own → Ring → Ring
node_changed Stays x time o ρ = ρ
node_changed Starts x time o ρ = update x started ρ
node_changed Stops x time o ρ = update x stopped ρ
node_changed Acts x time o ρ = update x (stepped time o) ρ

-- what a change sends, and the ring that it leaves
abbrev pub sent_of : Change → List InFlight
sent_of c = (effect_of c.node.0 c.time.0 c.effect).sent

abbrev pub changed : Change → Ring → Ring
changed c ρ =
    set_messages ((taken_out c.taken ρ).messages ++ sent_of c)
    (node_changed c.becomes c.node.0 c.time.0 (own_of c.effect.own) (taken_out c.taken ρ))

-- a change of words that read as a ring of m messages, as far as messages are counted: what it sends its node sends, and takes none of its
-- own out before that
pub record Counts (ws : List ℕ) (m : ℕ) (c : Change) : Type 0 where
  pub reads : reads_as_ring ws ≡ true
  pub count : m ≡ length (decode ws).messages
  pub taken_low : TakenLow m c.taken
  pub member : c.node.0 < size (decode_table ws)
  pub by_node : Each (λ s. s.sender ≡ c.node.0) (sent_of c)
  pub taken_other : 0 < length (sent_of c) → TakenOther (decode ws) c.taken c.node.0

-- whether x would have too many of `all` messages, those that it sent of ms and `sent` more: where none is sent, and where all are few, it
-- need not be known
pub record Full (ms : List InFlight) (x sent all : ℕ) (full : Bool) : Type 0 where
  pub over : full ≡ true → 256 < sent_by x ms + sent
  pub within : full ≡ false → 0 < sent → 256 < all → sent_by x ms + sent ≤ 256

-- a change of words that read as a ring, but for the number of messages that it leaves
pub record Changes (ws : List ℕ) (c : Change) : Type 0 where
  pub reads : reads_as_ring ws ≡ true
  pub taken_low : TakenLow (length (decode ws).messages) c.taken
  pub member : c.node.0 < size (decode_table ws)
  pub time_room : c.time.0 < 2 ^ 24
  pub rises : c.becomes ≡ Starts → c.time.0 ≡ ((decode ws).node c.node.0).clock + 1
  pub own_room : RoomNode c.effect.own
  pub first_fits : SendsFit c.effect.own c.effect.first
  pub second_fits : SendsFit c.effect.own c.effect.second

pub record Writable (ws : List ℕ) (c : Change) : Type 0 where
  pub fits : Changes ws c
  pub few : length (changed c (decode ws)).messages ≤ 1024

-- d is the change c of the ring ρ, unless too many messages would be left, of all or of a sender
pub record Decided (ρ : Ring) (c : Change) (d : Result Change Refusal) : Type 0 where
  pub answer : answer_number d ≡ first_of (left_refusals (changed c ρ))
  pub change : IfOk d (λ x. x ≡ c)

-- the same of a node that sends nothing
pub record Silent (ρ : Ring) (taken : Option ℕ) (x : NodeNumber) (becomes : Becomes) (time : Stamp) (d : Result Change Refusal) : Type 0 where
  pub effect : EffectRecord
  pub own : Own
  pub quiet : (n : ℕ) → Leaves n x.0 time.0 effect (record { own = own; sent = [] })
  pub decided : Decided ρ (record { taken = taken; node = x; becomes = becomes; time = time; effect = effect }) d

-- d is the answer of the event e on the words, and where it is accepted a change that leaves what e does
pub record Decides (ws : List ℕ) (e : Event) (d : Result Change Refusal) : Type 0 where
  pub answer : answer_number d ≡ first_of (state_refusals (decode ws) e)
  pub writable : IfOk d (Writable ws)
  pub leaves : IfOk d (λ c. changed c (decode ws) ≡ after (decode ws) e)
