use borrow.Author.Rules.{rules}
use Rattle.sets.proofs.Turns.{begins, turn, turn_below, no_more}
use Rattle.ring_messages.proofs.Sends.{sent_room, send_none, send_more, send_all}
use Rattle.ring_messages.proofs.send_each.Goals as goal

pub loop-y-init : goal.loop-y-init
loop-y-init c =
    send_none (begins c.members-y-items.ensures.all c.into_iter-y-iterator.ensures.into_iter_gives) c.requires.words.0 (search rules) c.requires.words.3

pub plain-requires : goal.plain-requires
plain-requires c = record {
  bounds =
      let h = turn_below c.loop-y.invariant.rising (turn c.loop-y.y-iterator c.next.new.self c.in-Some.ensures.steps) in
      search rules;
}

pub append-requires : goal.append-requires
append-requires c = record {
  words =
      let s = c.loop-y.invariant in
      (s.long, sent_room s (turn c.loop-y.y-iterator c.next.new.self c.in-Some.ensures.steps), c.plain.ensures.message.room);
}

pub loop-y-preserved : goal.loop-y-preserved
loop-y-preserved c =
    send_more c.loop-y.invariant (turn c.loop-y.y-iterator c.next.new.self c.in-Some.ensures.steps) _ _
    (search rules) c.plain.ensures.message.message c.append.ensures.ring

pub returns : goal.returns
returns c = record { ring = send_all c.loop-y.invariant (no_more c.loop-y.y-iterator c.in-None.ensures.steps) }
