-- What nodes are ordered by, and the first of a set.
use Rattle.std.specs.Prelude.{◌≡◌, ℕ, ◌+◌, ◌*◌, ◌<◌, ◌≤◌, true, false, List, Option, None, Some, nat_le, slice_index, if◌then◌else◌}
use Rattle.model.specs.Key.{clockwise, counter_clockwise}
use Rattle.model.specs.Sets.{Set, none_node}
use Rattle.model.specs.declared.values.NodeNumber.{NodeNumber}
use Rattle.leafset_nearest.specs.declared.Way.{Way}
use Rattle.leafset_nearest.specs.declared.Way.TheVariants.{Clockwise, CounterClockwise, Either}

-- by distance; "of two equally near, the clockwise one"
abbrev pub rank : ℕ → ℕ → ℕ
rank there back = if nat_le there back then 2 * there else 2 * back + 1

abbrev pub rank_of : ℕ → ℕ → ℕ
rank_of a b = rank (clockwise a b) (counter_clockwise a b)

abbrev pub span_of : Way → ℕ → ℕ → ℕ
span_of Clockwise = clockwise
span_of CounterClockwise = counter_clockwise
span_of Either = rank_of

-- to node y
abbrev pub span_to : Way → ℕ → List ℕ → ℕ → ℕ
span_to way a keys y = span_of way a (slice_index keys y)

-- b is the member of S with the least m, the lowest of those with that m
pub record Least (S : Set) (m : ℕ → ℕ) (b : ℕ) : Type 0 where
  pub member : S b ≡ true
  pub least : (y : ℕ) → S y ≡ true → m b ≤ m y
  pub lowest : (y : ℕ) → S y ≡ true → y < b → m b < m y

-- that member, or none where S has no member
pub data Found (S : Set) (m : ℕ → ℕ) : ℕ → Type 0 where
  nobody : ((y : ℕ) → S y ≡ false) → Found S m none_node
  found : {b : ℕ} → Least S m b → Found S m b

-- what is found, or that nobody is
abbrev pub Nearest : Set → (ℕ → ℕ) → Option NodeNumber → Type 0
Nearest S m None = (y : ℕ) → S y ≡ false
Nearest S m (Some b) = Least S m b.0
