-- The parts of a ring in lent words: what the functions on them are handed, and what they leave.
use Rattle.std.specs.Prelude.{◌≡◌, Bool, List, ℕ, ◌^◌, ◌<◌, ◌≤◌, length}
use Rattle.model.specs.Leafset.{Table, size, key}
use Rattle.model.specs.Structs.{RoomSides}
use Rattle.model.specs.Ring.{Own, Node, Ring}
use Rattle.model.specs.Words.{encode}
use Rattle.model.specs.Play.{set_node}

-- the parts of a table have room in their bits
pub record RoomTable (t : Table) : Type 0 where
  pub sides_room : RoomSides t.sides
  pub size_room : size t ≤ 64
  pub key_room : (s : ℕ) → key t s < 2 ^ 24

-- ws are the words of the ring ρ, of n nodes and m messages
pub record Encodes (ws : List ℕ) (n m : ℕ) (ρ : Ring) : Type 0 where
  pub room : RoomTable ρ.table
  pub nodes : size ρ.table ≡ n
  pub count : length ρ.messages ≡ m
  pub words : ws ≡ encode ρ

-- the ring with the node x changed, and the changes of one part each
abbrev pub update : ℕ → (Node → Node) → Ring → Ring
update x f ρ = set_node x (f (ρ.node x)) ρ

abbrev pub set_running : Bool → Node → Node
set_running b s = record { running = b; clock = s.clock; own = s.own }

abbrev pub set_clock : ℕ → Node → Node
set_clock time s = record { running = s.running; clock = time; own = s.own }

abbrev pub set_own : Own → Node → Node
set_own o s = record { running = s.running; clock = s.clock; own = o }

-- what a step leaves of a node: "now" as its clock, and its own record
abbrev pub stepped : ℕ → Own → Node → Node
stepped time o s = record { running = s.running; clock = time; own = o }
