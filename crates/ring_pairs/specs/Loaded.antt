-- What loading the own record of a node gives.
use Rattle.std.specs.Prelude.{◌≡◌, List, ℕ, ◌<◌, ◌^◌}
use Rattle.model.specs.Words.{decode_own}
use Rattle.model.specs.Structs.{own_of, RoomNode}
use Rattle.model.specs.declared.node.NodeRecord.{NodeRecord}

pub record LoadedNode (ws : List ℕ) (x : ℕ) (q : NodeRecord) : Type 0 where
  pub own : own_of q ≡ decode_own ws x
  pub room : RoomNode q
  pub candidates_room : q.candidates < 2 ^ 64
