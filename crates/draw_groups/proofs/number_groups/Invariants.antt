use mathlib.Core.Path.{◌≡◌}
use Prim.Native.Nat.{◌<◌, ◌^◌}
use lib.ListN.{length}
use Rattle.model.specs.Sets.{of_bits}
use Rattle.model.specs.Words.{decode}
use Rattle.ring_connection.proofs.Counting.{firsts, Counted}
use Rattle.draw_groups.proofs.number_groups.Given as goal

abbrev pub invariant-loop-left : goal.invariant-loop-left
invariant-loop-left l = (l.left < 2 ^ 64) × Counted (decode l.words) (of_bits l.left) l.count × (length l.numbers ≡ 64)

abbrev pub decreases-loop-left : goal.decreases-loop-left
decreases-loop-left l = firsts (decode l.words) (of_bits l.left)
