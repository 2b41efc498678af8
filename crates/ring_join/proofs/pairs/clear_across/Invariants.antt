-- Rows 0 up to x are cleared: each is a span beside its own node.
use Prim.Native.Nat.{◌≤◌}
use Rattle.model.specs.Ring.{cleared}
use Rattle.ring_join.specs.Parts.{Rows}
use Rattle.ring_join.proofs.pairs.clear_across.Given as goal

abbrev pub invariant-loop-x : goal.invariant-loop-x
invariant-loop-x l = (l.x ≤ l.n) × Rows l.initial.joined l.joined 0 l.x l.n l.end (λ y. cleared)
