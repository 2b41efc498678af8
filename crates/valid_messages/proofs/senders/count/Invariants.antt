-- Each turn counts one message more of its sender.
use Prim.Native.Nat.{◌≤◌}
use Rattle.valid_messages.specs.Senders.{Counts}
use Rattle.valid_messages.proofs.senders.count.Given as goal

abbrev pub invariant-loop-k : goal.invariant-loop-k
invariant-loop-k l = (l.k ≤ l.to) × Counts l.words l.base l.k l.counts
