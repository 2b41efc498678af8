-- A whole session: what its chunks give one after the other.
use Rattle.std.specs.Prelude.{Bool, true, List, [], ◌∷◌, ◌++◌, ℕ, if◌then◌else◌}
use Rattle.text_describe.specs.Turns.{Turn, turn}

unfoldable pub turns_text : Bool → Bool → List (List ℕ) → List ℕ
turns_text started opened [] = []
turns_text started opened (c ∷ cs) =
    let t : Turn = turn started opened c in
    t.bytes ++ (if t.more then turns_text true t.opened cs else [])
