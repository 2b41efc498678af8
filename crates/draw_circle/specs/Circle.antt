-- Points by angle and radius, in whole numbers. A turn has 65,536 parts, from the top, clockwise.
use Rattle.std.specs.Prelude.{ℕ, ◌+◌, ◌-◌, ◌*◌, ◌/◌, ◌%◌, ◌≤◌, List, [], ◌∷◌, ◌==◌, slice_index, if◌then◌else◌}
use Rattle.draw_circle.specs.declared.Point.{Point}

-- 32,768 times the sine of each 64th of a quarter turn
unfoldable pub sines : List ℕ
sines =
    0 ∷ 804 ∷ 1608 ∷ 2411 ∷ 3212 ∷ 4011 ∷ 4808 ∷ 5602 ∷ 6393 ∷ 7180 ∷ 7962 ∷ 8740 ∷ 9512
    ∷ 10279 ∷ 11039 ∷ 11793 ∷ 12540 ∷ 13279 ∷ 14010 ∷ 14733 ∷ 15447 ∷ 16151 ∷ 16846 ∷ 17531 ∷ 18205 ∷ 18868
    ∷ 19520 ∷ 20160 ∷ 20788 ∷ 21403 ∷ 22006 ∷ 22595 ∷ 23170 ∷ 23732 ∷ 24279 ∷ 24812 ∷ 25330 ∷ 25833 ∷ 26320
    ∷ 26791 ∷ 27246 ∷ 27684 ∷ 28106 ∷ 28511 ∷ 28899 ∷ 29269 ∷ 29622 ∷ 29957 ∷ 30274 ∷ 30572 ∷ 30853 ∷ 31114
    ∷ 31357 ∷ 31581 ∷ 31786 ∷ 31972 ∷ 32138 ∷ 32286 ∷ 32413 ∷ 32522 ∷ 32610 ∷ 32679 ∷ 32729 ∷ 32758 ∷ 32768
    ∷ []

-- that of any angle of the first quarter turn, its end included: between two entries, in proportion
unfoldable pub quarter_sine : ℕ → ℕ
quarter_sine a =
    if a == 16384 then 32768
    else ((256 - a % 256) * slice_index sines (a / 256) + a % 256 * slice_index sines (a / 256 + 1)) / 256

-- the radius times it, to the nearest
unfoldable pub share_of : ℕ → ℕ → ℕ
share_of r a = (r * quarter_sine a + 16384) / 32768

-- the point so far from the centre: quarters begin at the top, at the right, at the bottom, at the left
unfoldable pub in_quarter : ℕ → ℕ → ℕ → Point
in_quarter q sine cosine =
    if q == 0 then record { x = 1050 + sine; y = 1110 - cosine }
    else if q == 1 then record { x = 1050 + cosine; y = 1110 + sine }
    else if q == 2 then record { x = 1050 - sine; y = 1110 + cosine }
    else record { x = 1050 - cosine; y = 1110 - sine }

unfoldable pub point_at : ℕ → ℕ → Point
point_at a r = in_quarter (a % 65536 / 16384) (share_of r (a % 16384)) (share_of r (16384 - a % 16384))

-- no number of the point is beyond the sheet
pub record OnSheet (p : Point) : Type 0 where
  pub across : p.x ≤ 2050
  pub down : p.y ≤ 2110
