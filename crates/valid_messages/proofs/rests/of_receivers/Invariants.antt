use Prim.Native.Nat.{◌≤◌}
use Rattle.valid_messages.proofs.RestTests.{Filled}
use Rattle.valid_messages.proofs.rests.of_receivers.Given as goal

abbrev pub invariant-loop-b : goal.invariant-loop-b
invariant-loop-b l = (l.b ≤ 24) × Filled l.table l.b
