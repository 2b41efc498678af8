use Prim.Native.Nat.{◌≤◌}
use Rattle.valid_messages.proofs.RestTests.{Met}
use Rattle.valid_messages.proofs.rests.nothing_wrong.Given as goal

abbrev pub invariant-loop-k : goal.invariant-loop-k
invariant-loop-k l =
    (l.k ≤ l.m) × Met l.words l.base l.types l.receivers l.k 0 1879048192 l.stamp × Met l.words l.base l.types l.receivers l.k 1 2147483648 l.low
    × Met l.words l.base l.types l.receivers l.k 2 2147483648 l.middle × Met l.words l.base l.types l.receivers l.k 3 2147483648 l.high
