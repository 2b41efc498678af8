-- The number of a node that may be none.
use mathlib.Core.Path.{◌≡◌, refl}
use Prim.Native.Nat.{◌<◌}
use native.Mathlib.Omega.{arith}
use Rattle.std.specs.Prelude.{Option, None, Some}
use Rattle.std.specs.Option.{IsSome, unwrap_or}
use Rattle.model.specs.Sets.{none_node}
use Rattle.model.specs.declared.values.NodeNumber.{NodeNumber}
use Rattle.sets.specs.Numbers.{number_or_none}

-- a node is some node
pub is_some_low : (r : Option NodeNumber) → number_or_none r < 64 → IsSome r
is_some_low None h = absurd (omega arith)
is_some_low (Some y) h = refl

-- a node, or the record of none
pub unwrapped : (r : Option NodeNumber) → (unwrap_or r (record { 0 = none_node })).0 ≡ number_or_none r
unwrapped None = refl
unwrapped (Some y) = refl
