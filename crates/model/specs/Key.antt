-- Keys are numbers on a ring of 16,777,216 places, and the distances between them.
use Rattle.std.specs.Prelude.{ℕ, ◌+◌, ◌-◌, ◌%◌, min}

-- "a ring of 16,777,216 places"
abbrev pub places : ℕ
places = 16777216

-- "Clockwise distance from a to b is (b − a) modulo 16,777,216." A number beyond the ring counts as its place on it.
abbrev pub clockwise : ℕ → ℕ → ℕ
clockwise a b = (b + (places - a % places)) % places

-- "Counter-clockwise distance is the clockwise one from b to a."
abbrev pub counter_clockwise : ℕ → ℕ → ℕ
counter_clockwise a b = clockwise b a

-- "Distance is the smaller of the two."
abbrev pub distance : ℕ → ℕ → ℕ
distance a b = min (clockwise a b) (counter_clockwise a b)
