-- Distances on a processor of 32 bits: every sum, difference and double is a word, round at 2^32.
use Rattle.std.specs.Prelude.{◌≡◌, ℕ, ◌+◌, ◌-◌, ◌*◌, ◌%◌, ◌^◌, min, nat_le, if◌then◌else◌}
use Rattle.model.specs.Key.{places, clockwise, counter_clockwise, distance}
use Rattle.leafset_nearest.specs.Span.{rank_of}

abbrev pub word : ℕ → ℕ
word n = n % 2 ^ 32

abbrev pub narrow_clockwise : ℕ → ℕ → ℕ
narrow_clockwise a b = word (b + (2 ^ 32 - a)) % places

abbrev pub narrow_distance : ℕ → ℕ → ℕ
narrow_distance a b = min (narrow_clockwise a b) (narrow_clockwise b a)

abbrev pub narrow_rank : ℕ → ℕ → ℕ
narrow_rank there back = if nat_le there back then word (2 * there) else word (word (2 * back) + 1)

abbrev pub narrow_rank_of : ℕ → ℕ → ℕ
narrow_rank_of a b = narrow_rank (narrow_clockwise a b) (narrow_clockwise b a)

-- "for any two keys the narrow distance equals the defined one", and so does what ties are broken by
pub record NothingLost (a b : ℕ) : Type 0 where
  pub ahead : narrow_clockwise a b ≡ clockwise a b
  pub behind : narrow_clockwise b a ≡ counter_clockwise a b
  pub smaller : narrow_distance a b ≡ distance a b
  pub ranked : narrow_rank_of a b ≡ rank_of a b
