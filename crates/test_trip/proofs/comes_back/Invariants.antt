use mathlib.Core.Path.{◌≡◌}
use Prim.Native.Nat.{◌+◌, ◌*◌, ◌≤◌}
use lib.ListN.{length}
use Rattle.test_trip.specs.Trips.{Ready}
use Rattle.test_trip.proofs.comes_back.Given as goal

abbrev pub invariant-loop : goal.invariant-loop
invariant-loop l =
    (l.counter ≤ 5) × (l.at ≤ length l.script) × (length l.text ≡ 20000) × Ready (1 + 20000 * l.counter) l.trip.reader l.keys l.out
