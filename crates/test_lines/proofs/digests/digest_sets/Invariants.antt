use Prim.Native.Nat.{◌<◌, ◌^◌}
use Rattle.test_lines.proofs.digests.digest_sets.Given as goal

abbrev pub invariant-loop-set : goal.invariant-loop-set
invariant-loop-set l = l.digest < 2 ^ 32
