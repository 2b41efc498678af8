use mathlib.Core.Path.{◌≡◌}
use Prim.Native.Nat.{◌*◌, ◌≤◌}
use lib.ListN.{length}
use Rattle.bench_session.specs.Turns.{Ready}
use Rattle.test_vectors.proofs.compare.Given as goal

abbrev pub invariant-loop : goal.invariant-loop
invariant-loop g l =
    (l.counter ≤ 17592186044416) × Ready (1024 * l.counter) l.session l.words × (length l.bytes ≡ 4096) × (length l.out ≡ 160000)
    × (length l.room ≡ 160000)
