use native.Mathlib.Omega.{arith}
use borrow.Author.Rules.{rules}
use Rattle.model.specs.Words.{decode}
use Rattle.sets.proofs.Bits.{none_left}
use Rattle.ring_connection.proofs.Linked.{running_low, running_closed}
use Rattle.ring_connection.proofs.Turn.{next}
use Rattle.ring_connection.proofs.Counting.{counted_none, counted_few, counted_next, counted_end, one_less}
use Rattle.ring_connection.proofs.groups.Goals as goal

pub loop-left-init : goal.loop-left-init
loop-left-init c =
    (search rules, counted_none _ (running_closed _ c.running-left.ensures.members) c.running-left.ensures.members)

pub apart-left-requires : goal.apart-left-requires
apart-left-requires c = record {
  words =
      let l = c.loop-left in
      (search rules, l.invariant.1.closed, (next l.left _ l.invariant.0 c.loop-left-test.true c.lowest.ensures.value).member);
}

pub overflow_add-groups : goal.overflow_add-groups
unfolding decode
overflow_add-groups c = omega (arith, counted_few _ c.loop-left.invariant.1)

pub loop-left-smaller : goal.loop-left-smaller
loop-left-smaller c =
    let l = c.loop-left in
    let ws = c.args.words.now in
    omega (
      arith,
      one_less (decode ws) (running_low ws) (next l.left _ l.invariant.0 c.loop-left-test.true c.lowest.ensures.value)
          c.apart-left.ensures.members l.invariant.1,
    )

pub loop-left-preserved : goal.loop-left-preserved
loop-left-preserved c =
    let l = c.loop-left in
    let ws = c.args.words.now in (
      search rules,
      counted_next (decode ws) (running_low ws) (next l.left _ l.invariant.0 c.loop-left-test.true c.lowest.ensures.value)
          c.apart-left.ensures.members l.invariant.1,
    )

pub returns : goal.returns
returns c = record { value = counted_end _ c.loop-left.invariant.1 (none_left c.loop-left-test.false) }
