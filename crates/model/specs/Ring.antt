-- The state: each node's own record, the messages in flight (document 01: travelling), and the initial ring.
use Rattle.std.specs.Prelude.{ℕ, ◌+◌, Bool, false, List, [], ◌∷◌, get_or, eqb, if◌then◌else◌}
use Rattle.model.specs.Sets.{Set, empty, none_node}
use Rattle.model.specs.Leafset.{Table}

-- "Each stand's own record has one spare and one commit stamp for every stand", beside its held set and its candidates
pub record Own : Type 0 where
  pub held : Set
  pub candidates : Set
  pub commit : ℕ → ℕ
  pub spare : ℕ → ℕ

pub record Node : Type 0 where
  pub running : Bool
  pub clock : ℕ
  pub own : Own

pub record Message : Type 0 where
  pub type : ℕ
  pub sender : ℕ
  pub receiver : ℕ
  pub subject : ℕ
  pub stamp : ℕ
  pub view : Set

pub record Ring : Type 0 where
  pub table : Table
  pub node : ℕ → Node
  pub messages : List Message

-- a message that says nothing: what is read at a position that has none
abbrev pub blank : Message
blank = record { type = 0; sender = 0; receiver = 0; subject = none_node; stamp = 0; view = empty }

-- the record of a node that holds nobody: "A cleared spare is 64."
abbrev pub cleared : Own
cleared = record { held = empty; candidates = empty; commit = λ z. 0; spare = λ z. none_node }

-- a node of the initial ring, and what is no node of a table
abbrev pub fresh : Node
fresh = record { running = false; clock = 0; own = cleared }

-- the initial ring, document 01's fresh ring: "A fresh ring has every stand off, all clocks 0, no messages."
unfoldable pub initial : Table → Ring
initial t = record { table = t; node = λ x. fresh; messages = [] }

-- the message at a position, "oldest 0"
abbrev pub message_at : Ring → ℕ → Message
message_at r i = get_or r.messages i blank

-- how many of the messages x has sent
unfoldable pub sent_by : ℕ → List Message → ℕ
sent_by x [] = 0
sent_by x (m ∷ ms) = (if eqb m.sender x then 1 else 0) + sent_by x ms

-- the nodes that x holds
abbrev pub holds : Ring → ℕ → Set
holds r x = (r.node x).own.held

abbrev pub is_running : Ring → Set
is_running r x = (r.node x).running
