use mathlib.Core.Path.{refl, sym, ap₂, ◌∙◌}
use mathlib.Core.Bool.{◌||◌}
use borrow.Author.Rules.{rules}
use Rattle.model.proofs.Bits.{bit_below}
use Rattle.sets.proofs.Turns.{begins, turn, turn_below, no_more}
use Rattle.sets.proofs.Collect.{collect_begins, turn_kept, turn_passed, collect_end}
use Rattle.ring_connection.proofs.neighbours.Goals as goal

pub loop-z-init : goal.loop-z-init
loop-z-init c =
    collect_begins (begins c.members-z-items.ensures.all c.into_iter-z-iterator.ensures.into_iter_gives) c.ranges.set.fits
    (λ y. bit_below 64 c.args.set y c.ranges.set.fits)

pub holds-requires : goal.holds-requires
holds-requires c = record {
  words = (
    search rules,
    search rules,
    turn_below c.loop-z.invariant.rising (turn c.loop-z.z-iterator c.next.new.self c.in-Some.ensures.steps),
  );
}

pub holds-requires-in-loop-z : goal.holds-requires-in-loop-z
holds-requires-in-loop-z c = record {
  words = (
    search rules,
    turn_below c.loop-z.invariant.rising (turn c.loop-z.z-iterator c.next.new.self c.in-Some.ensures.steps),
    search rules,
  );
}

pub with-out-requires : goal.with-out-requires
with-out-requires c = record { bounds = turn_below c.loop-z.invariant.rising (turn c.loop-z.z-iterator c.next.new.self c.in-Some.ensures.steps) }

pub loop-z-preserved-then-holds : goal.loop-z-preserved-then-holds
loop-z-preserved-then-holds c =
    turn_kept c.loop-z.invariant (turn c.loop-z.z-iterator c.next.new.self c.in-Some.ensures.steps) c.with-out.ensures.members
    (sym (ap₂ ◌||◌ c.holds.ensures.value c.holds-in-loop-z.ensures.value) ∙ c.if-holds.true)

pub loop-z-preserved : goal.loop-z-preserved
loop-z-preserved c =
    turn_passed c.loop-z.invariant (turn c.loop-z.z-iterator c.next.new.self c.in-Some.ensures.steps) refl
    (sym (ap₂ ◌||◌ c.holds.ensures.value c.holds-in-loop-z.ensures.value) ∙ c.if-holds.false)

pub returns : goal.returns
returns c = record { members = collect_end c.loop-z.invariant (no_more c.loop-z.z-iterator c.in-None.ensures.steps) }
