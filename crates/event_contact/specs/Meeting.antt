-- A node that is to act on another one.
use Rattle.std.specs.Prelude.{true, List, [], ◌∷◌, ℕ}
use Rattle.model.specs.Ring.{Ring}
use Rattle.model.specs.Answers.{Refusal}
use Rattle.model.specs.Play.{no_node, node_off, clock_spent}

-- the refusals of a node x that is to act on node y
abbrev pub may_meet : Ring → ℕ → ℕ → List Refusal
may_meet ρ x y = no_node ρ x ∷ no_node ρ y ∷ node_off ρ x ∷ clock_spent ρ true x ∷ []
