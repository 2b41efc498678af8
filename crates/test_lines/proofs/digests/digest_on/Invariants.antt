use Prim.Native.Nat.{◌<◌, ◌^◌}
use Rattle.test_lines.proofs.digests.digest_on.Given as goal

abbrev pub invariant-loop-item : goal.invariant-loop-item
invariant-loop-item g l = l.digest < 2 ^ 32
