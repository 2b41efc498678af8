-- The table of sines: it goes round a quarter of a circle of radius 32,768 in equal steps, as far as whole numbers can. Both
-- are computed at each entry.
use Rattle.std.proofs.Common.{◌≡◌, ℕ, ◌+◌, ◌-◌, ◌*◌, ◌/◌, ◌^◌, ◌<◌, ◌≤◌, Bool, true, ◌&&◌, leb, get_or, refl, mul-le-mul_left, arith, leb-true}
use Rattle.model.specs.Sets.{all}
use Rattle.model.proofs.Laws.{all_out}
use Rattle.draw_circle.specs.Circle.{sines}

abbrev sine : ℕ → ℕ
sine i = get_or sines i 0

abbrev cosine : ℕ → ℕ
cosine i = sine (64 - i)

abbrev square : ℕ → ℕ
square k = k * k

-- the radius of the entry's point is off by less than 0.7
unfoldable pub near_circle : ℕ → Bool
near_circle i =
    leb (2 ^ 30 - 45000) (square (sine i) + square (cosine i)) && leb (square (sine i) + square (cosine i)) (2 ^ 30 + 45000)

pub on_circle : all 65 near_circle ≡ true
unfolding all sines near_circle
on_circle = refl

-- the next entry's point is 804 away, or 803 or 805 to the nearest
unfoldable pub near_step : ℕ → Bool
near_step i =
    leb (square 803) (square (sine (i + 1) - sine i) + square (cosine i - cosine (i + 1)))
    && leb (square (sine (i + 1) - sine i) + square (cosine i - cosine (i + 1))) (square 805)

pub equal_steps : all 64 near_step ≡ true
unfolding all sines near_step
equal_steps = refl

low : ℕ → Bool
low i = leb (sine i) 32768

all_low : all 65 low ≡ true
unfolding all sines low
all_low = refl

pub sine_le : (i : ℕ) → i < 65 → sine i ≤ 32768
unfolding low
sine_le i h = leb-true (sine i) 32768 (all_out 65 low all_low i h)

-- between two numbers, in proportion
module _ (f a b : ℕ) (part : f < 256) (ha : a ≤ 32768) (hb : b ≤ 32768) where
  pub left_le : (256 - f) * a ≤ (256 - f) * 32768
  left_le = mul-le-mul_left (256 - f) ha

  pub right_le : f * b ≤ f * 32768
  right_le = mul-le-mul_left f hb

  pub between_le : ((256 - f) * a + f * b) / 256 ≤ 32768
  between_le = omega (arith, left_le, right_le)
