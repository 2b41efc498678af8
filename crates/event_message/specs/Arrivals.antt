-- What a delivery takes out.
use Rattle.std.specs.Prelude.{ℕ, Bool, Option, None, Some, if◌then◌else◌}

abbrev pub taken_by : ℕ → Bool → Option ℕ
taken_by k echo = if echo then None else Some k
