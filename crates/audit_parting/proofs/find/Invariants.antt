use Prim.Native.Nat.{◌<◌, ◌^◌}
use Rattle.model.specs.Sets.{of_bits}
use Rattle.model.specs.Words.{decode}
use Rattle.ring_connection.proofs.Counting.{firsts, Counted}
use Rattle.audit_parting.proofs.Finding.{Found}
use Rattle.audit_parting.proofs.find.Given as goal

abbrev pub invariant-loop-left : goal.invariant-loop-left
invariant-loop-left l = (l.left < 2 ^ 64) × Counted (decode l.words) (of_bits l.left) l.count × Found (decode l.words) (of_bits l.left) l.groups

abbrev pub decreases-loop-left : goal.decreases-loop-left
decreases-loop-left l = firsts (decode l.words) (of_bits l.left)
