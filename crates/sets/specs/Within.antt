-- Sets of nodes of a table.
use Rattle.std.specs.Prelude.{◌≡◌, true, List, ℕ, ◌≤◌, ◌<◌, length}
use Rattle.model.specs.Sets.{of_bits}

-- every member of the set is a node of a table of n
abbrev pub Within : ℕ → ℕ → Type 0
Within n set = (y : ℕ) → of_bits set y ≡ true → y < n

-- x and the members of the set are nodes of the table with these keys
pub record InTable (keys : List ℕ) (x set : ℕ) : Type 0 where
  pub few : length keys ≤ 64
  pub node : x < length keys
  pub within : Within (length keys) set
