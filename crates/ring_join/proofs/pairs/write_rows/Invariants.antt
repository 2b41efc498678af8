-- The rows of the second's nodes up to y are written.
use Prim.Native.Nat.{◌+◌, ◌-◌, ◌≤◌}
use Rattle.model.specs.Words.{decode_own}
use Rattle.model.specs.Join.{raised_own}
use Rattle.ring_join.specs.Parts.{Rows}
use Rattle.ring_join.proofs.pairs.write_rows.Given as goal

abbrev pub invariant-loop-y : goal.invariant-loop-y
invariant-loop-y l = (l.y ≤ l.k) × Rows l.initial.joined l.joined l.n (l.n + l.y) 0 (l.n + l.k) (λ x. raised_own l.n (decode_own l.second (x - l.n)))
