-- The leafsets of a ring: where they are those of all running nodes, whom a node lacks, and when one choice is no worse than another.
use Rattle.std.specs.Prelude.{◌≡◌, ℕ, ◌≤◌, true, not, ◌&&◌}
use Rattle.model.specs.Sets.{Set, with, union, count}
use Rattle.model.specs.Leafset.{Table, size, key, leafset}
use Rattle.model.specs.Ring.{Ring, holds, is_running}

-- "A clockwise and B counter-clockwise" are equal; source 000: "a fixed constant L", "L closest nodes on each side"
abbrev pub Even : Table → Type 0
Even t = t.sides.ahead ≡ t.sides.behind

-- Every running node's leafset of what it holds is its leafset of all running nodes.
-- Source 000, Eventual Inclusion, of a connected topology: "leafset(x, x.neighbors) = leafset(x, sset(Π)) for all x ∈ sset(Π)"
pub record Covered (r : Ring) : Type 0 where
  pub leafset_held : (x : ℕ) → is_running r x ≡ true → (z : ℕ) → leafset r.table x (holds r x) z ≡ leafset r.table x (is_running r) z

-- No running node holds one that is off. Source 000, Lemma 8: "∀x ∈ sset(Π), x.neighbors ⊆ sset(Π)"
abbrev pub HoldsRunning : Ring → Type 0
HoldsRunning r = (x : ℕ) → is_running r x ≡ true → (z : ℕ) → holds r x z ≡ true → is_running r z ≡ true

-- the running nodes that x lacks: it does not hold them, and would take them in, since they would lie in its leafset
abbrev pub lacks : Ring → ℕ → Set
lacks r x w = is_running r w && not (holds r x w) && leafset r.table x (with (holds r x) w) w

-- and how many these are
abbrev pub lacking : Ring → ℕ → ℕ
lacking r x = count (size r.table) (lacks r x)

-- whoever would be chosen from S and T together is chosen from T alone
abbrev pub Improves : Table → ℕ → Set → Set → Type 0
Improves t x S T = (z : ℕ) → leafset t x (union S T) z ≡ leafset t x T z

-- for each member of S there is one of T that is no farther from x by the distance d
abbrev pub NoFarther : Table → ℕ → (ℕ → ℕ → ℕ) → Set → Set → Type 0
NoFarther t x d S T = (z : ℕ) → S z ≡ true → (y : ℕ) × (T y ≡ true) × (d (key t x) (key t y) ≤ d (key t x) (key t z))
