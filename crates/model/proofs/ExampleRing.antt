-- The rings of the points P9 and P10 and of the leafset question: A = B = 1, five nodes, of which only node 0 runs.
use Prim.Native.Nat.{ℕ}
use mathlib.Core.Bool.{true, false}
use mathlib.Core.List.{[], ◌∷◌}
use Rattle.std.specs.Prelude.{if◌then◌else◌}
use Rattle.model.specs.Sets.{empty, put, of_bits, none_node}
use Rattle.model.specs.Leafset.{Table}
use Rattle.model.specs.Ring.{Own, Node, Message, Ring, cleared}
use Rattle.model.specs.Steps.{set_commit, set_spare}

-- the own record of a node that holds the nodes whose bits are in S, each with commit 5 and no spare
unfoldable pub holding : ℕ → Own
holding S = record { held = of_bits S; candidates = empty; commit = λ z. if of_bits S z then 5 else 0; spare = λ z. none_node }

-- node 2 is outside the leafset of node 0 in the nodes 2, 3 and 4, and in these and node 1
unfoldable pub five : Table
five = record { sides = record { ahead = 1; behind = 1 }; keys = 10 ∷ 20 ∷ 30 ∷ 16777210 ∷ 15 ∷ [] }

-- node 0, which holds the nodes of S, and of them node 2 with the commit that is given and spare 1; and any other node
unfoldable pub node0 : ℕ → ℕ → Node
node0 S commit = record { running = true; clock = 8; own = set_spare 2 1 (set_commit 2 commit (holding S)) }

unfoldable pub off : Node
off = record { running = false; clock = 0; own = cleared }

-- type 10 from node 1 to node 0, with subject 2 and stamp 7
unfoldable pub acknowledgement : Message
acknowledgement = record { type = 10; sender = 1; receiver = 0; subject = 2; stamp = 7; view = empty }

unfoldable pub ring : ℕ → ℕ → Ring
ring S commit = record { table = five; node = put (λ x. off) 0 (node0 S commit); messages = acknowledgement ∷ [] }
