use Prim.Native.Nat.{ℕ}
use lib.ListN.{length-replicate}
use Rattle.audit_session.proofs.turn.room.Goals as goal

pub returns : goal.returns
returns c = record { long = length-replicate {A = ℕ} 3000000 0 }
