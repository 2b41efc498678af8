use Prim.Native.Nat.{ℕ, ◌+◌, ◌≤◌}
use Rattle.model.specs.Ring.{Ring}
use Rattle.call_reach.specs.Walks.{From}
use Rattle.call_reach.proofs.Turns.{Turn}
use Rattle.call_reach.proofs.hops_to_last.Given as goal

abbrev pub invariant-loop-i : goal.invariant-loop-i
invariant-loop-i l = (l.hops + l.i ≤ 24) × ((r : Ring) (a x : ℕ) → From r a x l.far l.distance → Turn r a x l.left l.hops l.i)
