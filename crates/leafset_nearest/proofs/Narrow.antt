-- Distances in words of 32 bits are the defined ones, and ranks in them order nodes as nearness does.
use Rattle.std.proofs.Common.{◌≡◌, ℕ, ◌+◌, ◌-◌, ◌*◌, ◌%◌, ◌^◌, ◌<◌, min, ltb, leb, sym, ◌∙◌, ap₂, arith, if◌then◌else◌}
use lib.Pow.{mod-mod-pow}
use Rattle.model.specs.Key.{places, clockwise}
use Rattle.model.specs.Leafset.{Table, key, beats}
use Rattle.leafset_nearest.specs.Span.{rank}
use Rattle.leafset_nearest.specs.Narrow.{word, narrow_clockwise, narrow_rank, narrow_rank_of, NothingLost}
use Rattle.leafset_nearest.proofs.Spans.{clockwise<, beats_rank}

-- a rank is a word
narrow_rank_lem : (c d : ℕ) → c < places → d < places → narrow_rank c d ≡ rank c d
narrow_rank_lem c d h k = ap₂ (λ (even odd : ℕ). if leb c d then even else odd) (double c h) (one_more_lem d k)
  where
    double : (v : ℕ) → v < places → word (2 * v) ≡ 2 * v
    double v l = omega arith

    one_more_lem : (v : ℕ) → v < places → word (word (2 * v) + 1) ≡ 2 * v + 1
    one_more_lem v l = omega arith

pub narrow_clockwise_lem : (a b : ℕ) → a < 2 ^ 32 → b < 2 ^ 32 → narrow_clockwise a b ≡ clockwise a b
narrow_clockwise_lem a b h k = mod-mod-pow (b + (2 ^ 32 - a)) 8 24 ∙ round
  where
    round : (b + (2 ^ 32 - a)) % places ≡ clockwise a b
    round = omega arith

-- of any two words, those of 24 bits among them: a number beyond the ring counts as its place on it
pub narrow_is_exact : (a b : ℕ) → a < 2 ^ 32 → b < 2 ^ 32 → NothingLost a b
narrow_is_exact a b h k =
    record {
      ahead = narrow_clockwise_lem a b h k;
      behind = narrow_clockwise_lem b a k h;
      smaller = ap₂ min (narrow_clockwise_lem a b h k) (narrow_clockwise_lem b a k h);
      ranked =
          rw (narrow_clockwise_lem a b h k, narrow_clockwise_lem b a k h)
          (narrow_rank_lem (clockwise a b) (clockwise b a) (clockwise< a b) (clockwise< b a));
    }

-- "nearest to a ..; of two equally near, the clockwise one from a"
pub narrow_orders : (t : Table) (a y z : ℕ) → a < 2 ^ 32 → key t y < 2 ^ 32 → key t z < 2 ^ 32
    → ltb (narrow_rank_of a (key t y)) (narrow_rank_of a (key t z)) ≡ beats t a y z
narrow_orders t a y z h k l =
    ap₂ ltb (narrow_is_exact a (key t y) h k).ranked (narrow_is_exact a (key t z) h l).ranked ∙ sym (beats_rank t a y z)
