-- What was found below y, by one more test.
use mathlib.Core.Path.{◌≡◌}
use Prim.Native.Nat.{◌≤◌}
use Rattle.model.specs.Sets.{some}
use Rattle.call_join.proofs.Refused.{is_key}
use Rattle.call_join.proofs.has_key.Given as goal

abbrev pub invariant-loop-y : goal.invariant-loop-y
invariant-loop-y l = (l.y ≤ l.n) × (l.found ≡ some l.y (is_key l.words l.key.0))
