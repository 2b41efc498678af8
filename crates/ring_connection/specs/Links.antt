-- What the walk over the links goes by: the held marks of the words, and sets that no link leads out of.
use Rattle.std.specs.Prelude.{◌≡◌, Bool, true, List, ℕ}
use Rattle.model.specs.Sets.{Set}
use Rattle.model.specs.Ring.{Ring, is_running}
use Rattle.model.specs.Fields.{flag}
use Rattle.model.specs.Words.{at, pair_place}
use Rattle.model.specs.Connection.{linked}

-- "held in 24", in the first word of the pair (x, z)
abbrev pub held_at : List ℕ → ℕ → ℕ → Bool
held_at ws x z = flag 24 (at ws (pair_place x z))

-- a set of running nodes that no link leads out of
pub record Closed (r : Ring) (S : Set) : Type 0 where
  pub running : (x : ℕ) → S x ≡ true → is_running r x ≡ true
  pub onward : (x z : ℕ) → S x ≡ true → linked r x z ≡ true → S z ≡ true
