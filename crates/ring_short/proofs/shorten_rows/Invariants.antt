use mathlib.Core.Path.{◌≡◌}
use Prim.Native.Nat.{◌≤◌}
use lib.ListN.{length}
use Rattle.model.specs.Words.{at as word_of, size_in}
use Rattle.model.specs.Short.{short_row, shortened}
use Rattle.ring_ranges.specs.Spans.{Patched}
use Rattle.ring_short.proofs.shorten_rows.Given as goal

abbrev pub invariant-loop-x : goal.invariant-loop-x
invariant-loop-x l =
    (l.x ≤ l.n) × (l.at ≡ short_row l.n l.x) × (length l.short ≡ length l.initial.short)
    × (l.n ≡ size_in l.words → Patched l.initial.short l.short (short_row l.n 0) (short_row l.n l.x) (word_of (shortened l.words)))
