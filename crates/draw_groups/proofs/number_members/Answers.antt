use native.Mathlib.Omega.{arith}
use lib.ListN.{length-set}
use borrow.Author.Rules.{rules}
use Rattle.model.proofs.Bits.{bit_below}
use Rattle.sets.proofs.Turns.{begins, turn, turn_below, turn_rising}
use Rattle.draw_groups.proofs.number_members.Goals as goal

pub loop-x-init : goal.loop-x-init
loop-x-init c =
    let whole = begins c.members-x-items.ensures.all c.into_iter-x-iterator.ensures.into_iter_gives in
    (rw whole (record { fits = c.ranges.group.fits; low = λ y. bit_below 64 c.args.group y c.ranges.group.fits }), search rules)

pub bounds-numbers-index : goal.bounds-numbers-index
bounds-numbers-index c =
    let below = turn_below c.loop-x.invariant.0 (turn c.loop-x.x-iterator c.next.new.self c.in-Some.ensures.steps) in
    omega (arith, c.index.ensures.value, c.loop-x.invariant.1)

pub loop-x-preserved : goal.loop-x-preserved
loop-x-preserved c =
    (turn_rising c.loop-x.invariant.0 (turn c.loop-x.x-iterator c.next.new.self c.in-Some.ensures.steps), simp length-set c.loop-x.invariant.1)
