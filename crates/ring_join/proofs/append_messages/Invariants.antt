-- The first k of the second's messages stand after the m: each is loaded, has room to rise, and is put.
use mathlib.Core.Path.{◌≡◌}
use Prim.Native.Nat.{◌≤◌}
use lib.ListN.{length}
use Rattle.model.specs.Words.{decode}
use Rattle.ring_join.proofs.Messages.{Appended}
use Rattle.ring_join.proofs.append_messages.Given as goal

abbrev pub invariant-loop-k : goal.invariant-loop-k
invariant-loop-k l = (l.k ≤ l.k-end) × (l.k-end ≡ length (decode l.second).messages) ×
    (length l.joined ≡ 13441) × Appended l.initial.joined l.joined l.m l.n (decode l.second).messages l.k
