use mathlib.Core.Path.{refl, sym, ◌∙◌}
use native.Mathlib.Omega.{arith}
use Rattle.model.proofs.Bits.{bit_below}
use Rattle.sets.proofs.Turns.{begins, turn, turn_below, turn_first, no_more}
use Rattle.sets.proofs.Collect.{collect_begins, turn_kept, turn_passed, collect_end}
use Rattle.audit_parting.proofs.Tearing.{torn_lost}
use Rattle.audit_parting.proofs.torn.Goals as goal

pub loop-x-init : goal.loop-x-init
loop-x-init c =
    collect_begins (begins c.members-x-items.ensures.all c.into_iter-x-iterator.ensures.into_iter_gives)
    c.ranges.running.fits (λ y. bit_below 64 c.args.running y c.ranges.running.fits)

pub bounds-old-index : goal.bounds-old-index
bounds-old-index c =
    let below = turn_below c.loop-x.invariant.rising (turn c.loop-x.x-iterator c.next.new.self c.in-Some.ensures.steps) in
    omega (arith, c.index.ensures.value, c.requires.groups)

pub bounds-new-index : goal.bounds-new-index
bounds-new-index c =
    let below = turn_below c.loop-x.invariant.rising (turn c.loop-x.x-iterator c.next.new.self c.in-Some.ensures.steps) in
    omega (arith, c.index-in-loop-x.ensures.value, c.requires.groups)

pub with-torn-requires : goal.with-torn-requires
with-torn-requires c = record {
  bounds = (turn_first c.loop-x.invariant.rising (turn c.loop-x.x-iterator c.next.new.self c.in-Some.ensures.steps)).below;
}

pub loop-x-preserved-then-is_torn : goal.loop-x-preserved-then-is_torn
loop-x-preserved-then-is_torn c =
    let lost = rw (c.index.ensures.value, c.index-in-loop-x.ensures.value) at c.is_torn.ensures.value in
    turn_kept c.loop-x.invariant (turn c.loop-x.x-iterator c.next.new.self c.in-Some.ensures.steps)
    c.with-torn.ensures.members (sym lost ∙ c.if-is_torn.true)

pub loop-x-preserved : goal.loop-x-preserved
loop-x-preserved c =
    let lost = rw (c.index.ensures.value, c.index-in-loop-x.ensures.value) at c.is_torn.ensures.value in
    turn_passed c.loop-x.invariant (turn c.loop-x.x-iterator c.next.new.self c.in-Some.ensures.steps)
    refl (sym lost ∙ c.if-is_torn.false)

pub returns : goal.returns
returns c = record {
  torn = λ r r' a is x.
      collect_end c.loop-x.invariant (no_more c.loop-x.x-iterator c.in-None.ensures.steps) x
      ∙ torn_lost r r' a c.args.running c.ranges.running.fits is x;
}
