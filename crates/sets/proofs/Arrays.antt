-- Arrays with a place for each node, read at a place.
use mathlib.Core.Path.{◌≡◌, refl, ap}
use mathlib.Core.List.{List, [], ◌∷◌}
use Prim.Native.Nat.{ℕ, zero, suc, ◌<◌}
use native.Mathlib.Omega.{arith}
use lib.ListN.{length, get_or}
use Rattle.model.specs.Sets.{none_node}
use Rattle.model.specs.Structs.{spare_at, RoomNode}
use Rattle.model.specs.declared.values.NodeNumber.{NodeNumber}
use Rattle.model.specs.declared.node.NodeRecord.{NodeRecord}

-- inside a list the default does not matter
pub get_d_any : {A : Type 0} (l : List A) (i : ℕ) (d e : A) → i < length l → get_or l i d ≡ get_or l i e
get_d_any [] i d e h = absurd (omega arith)
get_d_any (x ∷ l) zero d e h = refl
get_d_any (x ∷ l) (suc i) d e h = get_d_any l i d e (omega arith)

-- a spare as the code reads it
pub spare_read : (q : NodeRecord) (z : ℕ) → RoomNode q → z < 64 → (get_or q.spare z (record { 0 = 0 })).0 ≡ spare_at q z
spare_read q z r h = ap (λ (y : NodeNumber). y.0) (get_d_any q.spare z (record { 0 = 0 }) (record { 0 = none_node }) (omega (arith, r.spare_long)))
