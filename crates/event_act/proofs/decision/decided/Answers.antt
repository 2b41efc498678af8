-- A change is refused with 11 or 17 where too many messages would be left, of all or of the node, and is taken over otherwise.
use mathlib.Core.Path.{refl, sym}
use native.Mathlib.Omega.{arith}
use Rattle.answers.proofs.Valid.{room}
use Rattle.event_act.proofs.Counted.{counted_eleven, counted_seventeen, counted_neither}
use Rattle.event_act.proofs.decision.decided.Goals as goal

pub overflow_add-all : goal.overflow_add-all
overflow_add-all c =
    omega (arith, c.count.ensures.bound, c.count-2.ensures.bound, c.left.ensures.bound, c.requires.counts.count, room _ c.requires.counts.reads)

pub returns-then-all-gt-MESSAGES : goal.returns-then-all-gt-MESSAGES
returns-then-all-gt-MESSAGES c = record {
  decided =
      let counted = counted_eleven c.requires.counts c.count.ensures.value c.count-2.ensures.value
      c.left.ensures.value c.if-all-gt-MESSAGES.true
      in
      record { answer = sym counted; change = tt };
}

pub returns-then-sender_full : goal.returns-then-sender_full
returns-then-sender_full c = record {
  decided =
      let counted = counted_seventeen c.requires.counts c.count.ensures.value c.count-2.ensures.value
      c.left.ensures.value c.if-all-gt-MESSAGES.false c.sender_full.ensures.full c.if-sender_full.true
      in
      record { answer = sym counted; change = tt };
}

pub returns : goal.returns
returns c = record {
  decided =
      let counted = counted_neither c.requires.counts c.count.ensures.value c.count-2.ensures.value
      c.left.ensures.value c.if-all-gt-MESSAGES.false c.sender_full.ensures.full c.if-sender_full.false
      in
      record { answer = sym counted; change = refl };
}
