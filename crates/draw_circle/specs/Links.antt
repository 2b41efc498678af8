-- The curve between two discs, in halves.
use Rattle.std.specs.Prelude.{ℕ, ◌+◌, ◌-◌, ◌*◌, ◌/◌, ◌%◌, nat_le, if◌then◌else◌}
use Rattle.draw_circle.specs.declared.Point.{Point}
use Rattle.draw_circle.specs.declared.curve.Half.{Half}
use Rattle.draw_circle.specs.Circle.{point_at}

-- from angle a on to angle b
abbrev pub onward : ℕ → ℕ → ℕ
onward a b = (b + (65536 - a % 65536)) % 65536

-- how far apart they are, the shorter way round
unfoldable pub apart_of : ℕ → ℕ → ℕ
apart_of a b = if nat_le (onward a b) 32768 then onward a b else 65536 - onward a b

-- the radius of the control points
unfoldable pub depth_of : ℕ → ℕ
depth_of d = 740 - 875 * d / (d + 8192)

-- means of two, three and four points, with the weights that halve a cubic curve
abbrev pub mean_of_two : Point → Point → Point
mean_of_two p q = record { x = (p.x + q.x) / 2; y = (p.y + q.y) / 2 }

abbrev pub mean_of_three : Point → Point → Point → Point
mean_of_three p q s = record { x = (p.x + 2 * q.x + s.x) / 4; y = (p.y + 2 * q.y + s.y) / 4 }

abbrev pub mean_of_four : Point → Point → Point → Point → Point
mean_of_four p q s t = record { x = (p.x + 3 * q.x + 3 * s.x + t.x) / 8; y = (p.y + 3 * q.y + 3 * s.y + t.y) / 8 }

-- the first half of the cubic curve with these end points and control points
unfoldable pub first_half : Point → Point → Point → Point → Half
first_half p q s t = record { begin = p; first = mean_of_two p q; second = mean_of_three p q s; end = mean_of_four p q s t }

-- the half at the disc at angle a of the curve to the disc at angle b
unfoldable pub half_of : ℕ → ℕ → Half
half_of a b =
    first_half (point_at a 800) (point_at a (depth_of (apart_of a b))) (point_at b (depth_of (apart_of a b))) (point_at b 800)
