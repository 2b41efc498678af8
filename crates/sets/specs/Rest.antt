-- The members of a set after its lowest one: what a loop over the members in rising order goes by.
use Rattle.std.specs.Prelude.{◌≡◌, ◌∷◌, ℕ, ◌<◌}
use Rattle.model.specs.Sets.{of_bits, without, members, lowest}

-- r is the set S without its lowest member, both as bits
pub record IsRest (S r : ℕ) : Type 0 where
  pub set : of_bits r ≡ without (of_bits S) (lowest 64 (of_bits S))
  pub next : members 64 (of_bits S) ≡ lowest 64 (of_bits S) ∷ members 64 (of_bits r)
  pub less : r < S
