use Prim.Native.Nat.{◌≤◌}
use lib.ListN.{length, replicate}
use Rattle.model.specs.Words.{decode}
use Rattle.model.specs.Screens.{seen, shown_leafset}
use Rattle.ring_ranges.specs.Spans.{Patched}
use Rattle.call_screens.proofs.leafsets.Given as goal

abbrev pub invariant-loop-x : goal.invariant-loop-x
invariant-loop-x l = (l.x ≤ length l.keys) × Patched (replicate 64 0) l.leafsets 0 l.x (shown_leafset (seen (decode l.words)))
