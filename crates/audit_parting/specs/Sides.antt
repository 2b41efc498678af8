-- What stands between the sides.
use Rattle.std.specs.Prelude.{ℕ, Bool, List, [], if◌then◌else◌}
use Rattle.text_form.specs.Ascii.{ascii}

-- the bar, where another side stands before
abbrev pub bar_text : Bool → List ℕ
bar_text bar = if bar then ascii " |" else []
