use Prim.Native.Nat.{◌+◌}
use lib.ListN.{get_or}
use Rattle.model.specs.Fields.{bits}
use Rattle.ring_head.proofs.Arrays.{Filled}
use Rattle.bench_open.proofs.keys.Given as goal

abbrev pub invariant-loop-s : goal.invariant-loop-s
invariant-loop-s l = Filled (λ k. k) l.keys 0 (λ k. bits 0 24 (get_or l.script (1 + k) 0)) l.s
