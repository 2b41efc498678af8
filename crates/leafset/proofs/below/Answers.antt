use mathlib.Core.Path.{refl, sym, ap, ◌∙◌}
use Prim.Native.Nat.{ℕ}
use lib.Dec.{ltb}
use borrow.Author.Tests.{lt-ltb, le-ltb}
use Rattle.sets.proofs.Turns.{begins, turn, turn_below, turn_first, no_more}
use Rattle.sets.proofs.Collect.{collect_begins, turn_kept, turn_passed, collect_end}
use Rattle.leafset.proofs.below.Goals as goal

pub loop-y-init : goal.loop-y-init
loop-y-init c =
    collect_begins (begins c.members-y-items.ensures.all c.into_iter-y-iterator.ensures.into_iter_gives) c.ranges.set.fits c.requires.members

pub bounds-keys-index : goal.bounds-keys-index
bounds-keys-index c =
    rw c.index.ensures.value (turn_below c.loop-y.invariant.rising (turn c.loop-y.y-iterator c.next.new.self c.in-Some.ensures.steps))

pub with-out-requires : goal.with-out-requires
with-out-requires c = record {
  bounds = (turn_first c.loop-y.invariant.rising (turn c.loop-y.y-iterator c.next.new.self c.in-Some.ensures.steps)).below;
}

pub loop-y-preserved-then-span-limit : goal.loop-y-preserved-then-span-limit
loop-y-preserved-then-span-limit c =
    turn_kept c.loop-y.invariant (turn c.loop-y.y-iterator c.next.new.self c.in-Some.ensures.steps) c.with-out.ensures.members
    (ap (λ (far : ℕ). ltb far c.args.limit) (sym (rw c.index.ensures.value at c.span.ensures.value)) ∙ lt-ltb _ _ c.if-span-limit.true)

pub loop-y-preserved : goal.loop-y-preserved
loop-y-preserved c =
    turn_passed c.loop-y.invariant (turn c.loop-y.y-iterator c.next.new.self c.in-Some.ensures.steps) refl
    (ap (λ (far : ℕ). ltb far c.args.limit) (sym (rw c.index.ensures.value at c.span.ensures.value)) ∙ le-ltb _ _ c.if-span-limit.false)

pub returns : goal.returns
returns c = record { members = collect_end c.loop-y.invariant (no_more c.loop-y.y-iterator c.in-None.ensures.steps) }
