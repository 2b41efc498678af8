-- The groups of a ring as sets, one for each node, by its number.
use Rattle.std.specs.Prelude.{◌≡◌, true, false, List, ℕ, ◌≤◌, ◌<◌, length, get_or}
use Rattle.model.specs.Sets.{of_bits}
use Rattle.model.specs.Leafset.{size}
use Rattle.model.specs.Ring.{Ring, is_running}
use Rattle.model.specs.Connection.{connected}

-- the set of each node has those that are connected to it: nobody, where the node is off
pub record AreGroups (r : Ring) (gs : List ℕ) : Type 0 where
  pub long : length gs ≡ 64
  pub sets : (x b : ℕ) → x < 64 → of_bits (get_or gs x 0) b ≡ connected r x b

-- the value stands at each member of the set, and what stood elsewhere is kept
pub record Filled (entry exit : List ℕ) (set value : ℕ) : Type 0 where
  pub long : length exit ≡ length entry
  pub here : (x : ℕ) → of_bits set x ≡ true → get_or exit x 0 ≡ value
  pub else : (x : ℕ) → of_bits set x ≡ false → get_or exit x 0 ≡ get_or entry x 0

-- the groups of the rings before and after an event, in both of which a node that runs is one of the table
pub record Around (r r' : Ring) (gs gs' : List ℕ) : Type 0 where
  pub old : AreGroups r gs
  pub new : AreGroups r' gs'
  pub low : (x : ℕ) → is_running r x ≡ true → x < size r.table
  pub low' : (x : ℕ) → is_running r' x ≡ true → x < size r'.table
  pub few : size r.table ≤ 64
