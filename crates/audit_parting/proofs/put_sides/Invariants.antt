use mathlib.Core.Path.{◌≡◌}
use Prim.Native.Nat.{ℕ, ◌≤◌}
use Rattle.model.specs.Sets.{of_bits}
use Rattle.model.specs.Ring.{Ring}
use Rattle.audit_account.specs.Partings as partings
use Rattle.audit_parting.specs.Groups.{Around}
use Rattle.audit_parting.proofs.Rooms.{Roomy}
use Rattle.audit_parting.proofs.Sided.{Sided}
use Rattle.audit_parting.proofs.put_sides.Given as goal

abbrev pub invariant-loop-x : goal.invariant-loop-x
invariant-loop-x l =
    (l.x ≤ l.n) × Roomy l.initial.out l.out l.at l.end l.left l.x
    × ((r r' : Ring) (a : Around r r' l.old l.new) → ((y : ℕ) → of_bits l.torn y ≡ partings.torn r r' y)
    → Sided r r' a l.initial.out l.out l.at l.end l.torn l.left l.x)
