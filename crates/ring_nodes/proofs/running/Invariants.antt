use mathlib.Core.Path.{◌≡◌}
use Prim.Native.Nat.{◌≤◌}
use Rattle.model.specs.Sets.{of_bits}
use Rattle.model.specs.Fields.{flag}
use Rattle.model.specs.Words.{at, node_place}
use Rattle.sets.proofs.UpTo.{up_to}
use Rattle.ring_nodes.proofs.running.Given as goal

abbrev pub invariant-loop-x : goal.invariant-loop-x
invariant-loop-x l = (l.x ≤ l.n) × (of_bits l.set ≡ up_to l.x (λ y. flag 24 (at l.words (node_place y))))
