-- Each message counts where its sender is x.
use Rattle.ring_messages.proofs.Sent.{SentBefore}
use Rattle.ring_messages.proofs.sent_by.Given as goal

abbrev pub invariant-loop-k : goal.invariant-loop-k
invariant-loop-k l = SentBefore l.words l.x.0 l.sent l.k
