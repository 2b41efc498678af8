use Prim.Native.Nat.{◌≤◌}
use Rattle.model.specs.Ring.{cleared}
use Rattle.ring_pairs.specs.Stored.{Stored}
use Rattle.ring_pairs.proofs.clear.Given as goal

abbrev pub invariant-loop-z : goal.invariant-loop-z
invariant-loop-z l = (l.a ≤ l.z) × (l.z ≤ l.b) × Stored l.initial.words l.words l.x l.a l.z cleared
