use mathlib.Core.Path.{◌≡◌}
use Prim.Native.Nat.{ℕ}
use lib.Dec.{lit≤}
use lib.ListN.{length, replicate, length-replicate}
use Rattle.audit_session.proofs.Beginning.{ready_first, ready_within}
use Rattle.test_accounts.proofs.compare.Goals as goal

long : (n : ℕ) → length {A = ℕ} (replicate n 0) ≡ n
long n = length-replicate n 0

pub audit_next-requires-clause-session : goal.audit_next-requires-clause-session
audit_next-requires-clause-session g c = ready_within (ready_first c.new.ensures.session (long 13441)) (lit≤ tt)
