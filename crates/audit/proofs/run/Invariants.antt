use mathlib.Core.Path.{◌≡◌}
use Prim.Native.Nat.{◌*◌, ◌≤◌}
use lib.ListN.{length}
use Rattle.audit_session.specs.Sessions.{Ready}
use Rattle.audit.proofs.run.Given as goal

abbrev pub invariant-loop : goal.invariant-loop
invariant-loop g l =
    (l.counter ≤ 17592186044416) × Ready (1024 * l.counter) l.session l.words × (length l.bytes ≡ 4096)
    × (length l.out ≡ 3000000)
