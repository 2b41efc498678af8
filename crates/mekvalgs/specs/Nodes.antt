-- C's numbers for nodes.
use Rattle.std.specs.Prelude.{ℕ, ltb, if◌then◌else◌}
use Rattle.model.specs.Sets.{none_node}

-- a number that may be too big for a node: then 64, which is no node either
abbrev pub node_of : ℕ → ℕ
node_of x = if ltb x 64 then x else none_node
