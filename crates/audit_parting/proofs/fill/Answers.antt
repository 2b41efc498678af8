use native.Mathlib.Omega.{arith}
use Rattle.sets.proofs.Turns.{begins, turn, no_more}
use Rattle.audit_parting.proofs.Fills.{filling_none, filling_all, filling_below, filling_more}
use Rattle.audit_parting.proofs.fill.Goals as goal

pub loop-x-init : goal.loop-x-init
loop-x-init c =
    filling_none _ _ _ _ (begins c.members-x-items.ensures.all c.into_iter-x-iterator.ensures.into_iter_gives) c.ranges.set.fits

pub bounds-groups-index : goal.bounds-groups-index
bounds-groups-index c =
    let below = filling_below c.loop-x.invariant (turn c.loop-x.x-iterator c.next.new.self c.in-Some.ensures.steps) in
    omega (arith, c.index.ensures.value, c.loop-x.invariant.long, c.requires.room)

pub loop-x-preserved : goal.loop-x-preserved
loop-x-preserved c =
    rw c.index.ensures.value
    (filling_more c.loop-x.invariant (turn c.loop-x.x-iterator c.next.new.self c.in-Some.ensures.steps) c.requires.room)

pub returns : goal.returns
returns c = record { groups = filling_all c.loop-x.invariant (no_more c.loop-x.x-iterator c.in-None.ensures.steps) }
