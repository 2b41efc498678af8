use Rattle.model.specs.Steps.{plain}
use Rattle.ring_messages.proofs.Sends.{Sending}
use Rattle.ring_messages.proofs.send_each.Given as goal

abbrev pub invariant-loop-y : goal.invariant-loop-y
invariant-loop-y l = Sending l.initial.words l.words l.m l.sent (plain l.tag l.me.0) l.to l.y-iterator.rest
