use mathlib.Core.Path.{◌≡◌}
use Prim.Native.Nat.{ℕ, ◌≤◌}
use lib.ListN.{length}
use Rattle.model.specs.Words.{pair_place}
use Rattle.model.specs.Short.{short_row, long_word}
use Rattle.ring_ranges.specs.Spans.{Patched}
use Rattle.ring_short.proofs.lengthen_rows.Given as goal

abbrev pub invariant-loop-x : goal.invariant-loop-x
invariant-loop-x l =
    (l.x ≤ l.n) × (l.at ≡ short_row l.n l.x) × (length l.words ≡ length l.initial.words)
    × ((m : ℕ) → Patched l.initial.words l.words (pair_place 0 0) (pair_place l.x 0) (long_word l.n m l.short))
