use Rattle.model.specs.Types.{ping_replace}
use Rattle.model.specs.Steps.{stamped}
use Rattle.model.specs.Structs.{spare_at}
use Rattle.ring_messages.proofs.Sends.{Sending}
use Rattle.ring_messages.proofs.send_requests.Given as goal

abbrev pub invariant-loop-z : goal.invariant-loop-z
invariant-loop-z l = Sending l.initial.words l.words l.m l.sent (λ z. stamped ping_replace l.me.0 (spare_at l.own z) z l.time.0) l.to l.z-iterator.rest
