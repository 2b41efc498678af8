use mathlib.Core.Path.{◌≡◌}
use mathlib.Core.Bool.{true}
use Prim.Native.Nat.{ℕ, ◌+◌, ◌<◌, ◌^◌}
use Rattle.model.specs.Sets.{of_bits}
use Rattle.model.specs.Words.{decode}
use Rattle.ring_connection.proofs.Walk.{Walk}
use Rattle.ring_connection.proofs.apart.Given as goal

abbrev pub invariant-loop-todo : goal.invariant-loop-todo
invariant-loop-todo l =
    (l.unseen < 2 ^ 64) × (l.todo < 2 ^ 64)
    × ((a : ℕ) → of_bits l.initial.todo a ≡ true → Walk (decode l.words) (of_bits l.set) a (of_bits l.todo) (of_bits l.unseen))

abbrev pub decreases-loop-todo : goal.decreases-loop-todo
decreases-loop-todo l = l.unseen + l.todo
