-- Points as vectors: sums, multiples and whole parts, each number on its own.
use Rattle.std.specs.Prelude.{ℕ, ◌+◌, ◌*◌, ◌/◌}
use Rattle.draw_circle.specs.declared.Point.{Point}

abbrev pub sum : Point → Point → Point
sum p q = record { x = p.x + q.x; y = p.y + q.y }

abbrev pub multiple : ℕ → Point → Point
multiple k p = record { x = k * p.x; y = k * p.y }

abbrev pub part : Point → ℕ → Point
part p k = record { x = p.x / k; y = p.y / k }
