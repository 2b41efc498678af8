use mathlib.Core.Path.{ap, ◌∙◌}
use Prim.Native.Nat.{ℕ, ◌<◌}
use native.Mathlib.Omega.{arith}
use lib.Dec.{lit<}
use borrow.Author.Rules.{rules}
use Rattle.model.specs.Types.{ping_replace}
use Rattle.model.specs.Steps.{stamped}
use Rattle.sets.proofs.Arrays.{spare_read}
use Rattle.sets.proofs.Turns.{begins, turn, turn_below, no_more}
use Rattle.ring_messages.proofs.Sends.{send_none, send_more, send_all, sent_member, sent_room}
use Rattle.ring_messages.proofs.send_requests.Goals as goal

pub loop-z-init : goal.loop-z-init
loop-z-init c =
    send_none (begins c.members-z-items.ensures.all c.into_iter-z-iterator.ensures.into_iter_gives) c.requires.words.0 (search rules) c.requires.words.3

pub bounds-own-index : goal.bounds-own-index
bounds-own-index c =
    rw c.index.ensures.value (turn_below c.loop-z.invariant.rising (turn c.loop-z.z-iterator c.next.new.self c.in-Some.ensures.steps))

pub stamped-requires : goal.stamped-requires
stamped-requires c = record {
  bounds =
      let s = c.loop-z.invariant in
      let t = turn c.loop-z.z-iterator c.next.new.self c.in-Some.ensures.steps in
      let z = c.in-Some.z.0 in
      let b : z < 64 = turn_below s.rising t in
      let asked = c.requires.record.1 z (s.part z (sent_member s t)) in
      rw c.index.ensures.value (lit< tt, c.requires.words.1, rw (spare_read c.args.own z c.requires.record.0 b) asked, omega arith, c.requires.words.2);
}

pub append-requires : goal.append-requires
append-requires c = record {
  words =
      let s = c.loop-z.invariant in
      (s.long, sent_room s (turn c.loop-z.z-iterator c.next.new.self c.in-Some.ensures.steps), c.stamped.ensures.message.room);
}

pub loop-z-preserved : goal.loop-z-preserved
loop-z-preserved c =
    let a = c.args in
    let s = c.loop-z.invariant in
    let t = turn c.loop-z.z-iterator c.next.new.self c.in-Some.ensures.steps in
    let z = c.in-Some.z.0 in
    let b : z < 64 = turn_below s.rising t in
    send_more s t _ _
    (search rules)
    ((rw c.index.ensures.value at c.stamped.ensures.message.message)
    ∙ ap (λ (y : ℕ). stamped ping_replace a.me.0 y z a.time.0) (spare_read a.own z c.requires.record.0 b))
    c.append.ensures.ring

pub returns : goal.returns
returns c = record { ring = send_all c.loop-z.invariant (no_more c.loop-z.z-iterator c.in-None.ensures.steps) }
