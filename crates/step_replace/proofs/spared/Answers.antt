use mathlib.Core.Bool.{not}
use Prim.Native.Nat.{ℕ}
use lib.Dec.{eqb}
use Rattle.sets.proofs.Arrays.{spare_read}
use mathlib.Core.Path.{refl, sym, ap, ◌∙◌}
use Rattle.model.proofs.Bits.{bit_below}
use Rattle.sets.proofs.Turns.{begins, turn, turn_below, turn_first, no_more}
use Rattle.sets.proofs.Collect.{collect_begins, turn_kept, turn_passed, collect_end}
use Rattle.step_replace.proofs.spared.Goals as goal

pub loop-z-init : goal.loop-z-init
loop-z-init c =
    collect_begins (begins c.members-z-items.ensures.all c.into_iter-z-iterator.ensures.into_iter_gives) c.ranges.set.fits
    (λ y. bit_below 64 c.args.set y c.ranges.set.fits)

pub bounds-own-index : goal.bounds-own-index
bounds-own-index c =
    rw c.index.ensures.value (turn_below c.loop-z.invariant.rising (turn c.loop-z.z-iterator c.next.new.self c.in-Some.ensures.steps))

pub with-out-requires : goal.with-out-requires
with-out-requires c = record {
  bounds = (turn_first c.loop-z.invariant.rising (turn c.loop-z.z-iterator c.next.new.self c.in-Some.ensures.steps)).below;
}

pub loop-z-preserved-then-ne : goal.loop-z-preserved-then-ne
loop-z-preserved-then-ne c =
    let t = turn c.loop-z.z-iterator c.next.new.self c.in-Some.ensures.steps in
    turn_kept c.loop-z.invariant t c.with-out.ensures.members
    (ap (λ (s : ℕ). not (eqb s 64)) (sym (spare_read c.args.own.now _ c.requires.record (turn_below c.loop-z.invariant.rising t)))
    ∙ sym (rw c.index.ensures.value at c.ne.ensures) ∙ c.if-ne.true)

pub loop-z-preserved : goal.loop-z-preserved
loop-z-preserved c =
    let t = turn c.loop-z.z-iterator c.next.new.self c.in-Some.ensures.steps in
    turn_passed c.loop-z.invariant t refl
    (ap (λ (s : ℕ). not (eqb s 64)) (sym (spare_read c.args.own.now _ c.requires.record (turn_below c.loop-z.invariant.rising t)))
    ∙ sym (rw c.index.ensures.value at c.ne.ensures) ∙ c.if-ne.false)

pub returns : goal.returns
returns c = record { members = collect_end c.loop-z.invariant (no_more c.loop-z.z-iterator c.in-None.ensures.steps) }
