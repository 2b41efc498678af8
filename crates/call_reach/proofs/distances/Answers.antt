use Rattle.sets.proofs.Turns.{begins, turn, turn_below, no_more}
use Rattle.call_reach.proofs.Passes.{filling_none, filling_place, filling_more, filling_end}
use Rattle.call_reach.proofs.distances.Goals as goal

pub loop-y-init : goal.loop-y-init
loop-y-init c = rw (begins c.members-y-items.ensures.all c.into_iter-y-iterator.ensures.into_iter_gives)
    (filling_none c.requires.table.0 c.requires.table.1 c.ranges.set.fits)

pub bounds-keys-index : goal.bounds-keys-index
bounds-keys-index c = rw c.index.ensures.value (turn_below c.loop-y.invariant.rising (turn c.loop-y.y-iterator c.next.new.self c.in-Some.ensures.steps))

pub bounds-far-index : goal.bounds-far-index
bounds-far-index c =
    let t = turn c.loop-y.y-iterator c.next.new.self c.in-Some.ensures.steps in
    rw c.index-in-loop-y.ensures.value (filling_place c.loop-y.invariant t.some _ t.is)

pub loop-y-preserved : goal.loop-y-preserved
loop-y-preserved c =
    let t = turn c.loop-y.y-iterator c.next.new.self c.in-Some.ensures.steps in
    rw c.index-in-loop-y.ensures.value (filling_more c.loop-y.invariant t.some _ t.is (rw c.index.ensures.value at c.clockwise.ensures.value) t.rest)

pub returns : goal.returns
returns c = record { far = filling_end c.loop-y.invariant (no_more c.loop-y.y-iterator c.in-None.ensures.steps) }
