-- The number of a node that may be none.
use Rattle.std.specs.Prelude.{ℕ, Option, None, Some}
use Rattle.model.specs.Sets.{none_node}
use Rattle.model.specs.declared.values.NodeNumber.{NodeNumber}

-- "a stand or 64 for none"
abbrev pub number_or_none : Option NodeNumber → ℕ
number_or_none None = none_node
number_or_none (Some y) = y.0
