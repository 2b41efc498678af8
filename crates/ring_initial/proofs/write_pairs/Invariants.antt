use Prim.Native.Nat.{◌≤◌}
use Rattle.ring_initial.specs.Rows.{Rows}
use Rattle.ring_initial.proofs.write_pairs.Given as goal

abbrev pub invariant-loop-x : goal.invariant-loop-x
invariant-loop-x l = (l.x ≤ l.n) × Rows l.initial.words l.words l.n l.x
