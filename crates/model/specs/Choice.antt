-- Choice by a test, and several tests as one.
use Rattle.std.specs.Prelude.{Bool, true, not, ◌&&◌, ◌||◌, List, [], ◌∷◌}

-- b, wherever a
infixr 25 ◌⇒◌
abbrev pub ◌⇒◌ : Bool → Bool → Bool
a ⇒ b = not a || b

-- every test of the list holds
abbrev pub every : List Bool → Bool
every [] = true
every (b ∷ bs) = b && every bs
