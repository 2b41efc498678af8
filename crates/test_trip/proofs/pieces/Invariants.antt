use mathlib.Core.Path.{◌≡◌}
use Prim.Native.Nat.{◌+◌, ◌-◌, ◌≤◌}
use lib.ListN.{length}
use Rattle.std.specs.Slice.Iter.{chunks_rest, chunks_size}
use Rattle.test_trip.specs.Trips.{Ready}
use Rattle.test_trip.proofs.pieces.Given as goal

abbrev pub invariant-loop-part : goal.invariant-loop-part
invariant-loop-part l =
    (chunks_size l.part-iterator ≡ 1024) × (length (chunks_rest l.part-iterator) ≤ length l.text)
    × Ready (l.initial.after.reader.line + (length l.text - length (chunks_rest l.part-iterator))) l.after.reader l.keys l.out
