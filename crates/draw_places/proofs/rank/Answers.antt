use Rattle.std.proofs.Common.{◌≡◌, refl, rules, arith, ltb, length, get_or}
use Rattle.model.specs.Sets.{count}
use Rattle.draw_places.specs.Places.{rank_of}
use Rattle.draw_places.proofs.Laws.{counted_more, byte_low}
use Rattle.draw_places.proofs.rank.Goals as goal

pub loop-other-init : goal.loop-other-init
unfolding count
loop-other-init c = (search rules, refl)

pub overflow_add-rank : goal.overflow_add-rank
overflow_add-rank c =
    omega (arith, c.loop-other.invariant.0, c.loop-other-test.true, c.requires.few, byte_low _ _ c.from-rank.ensures)

pub loop-other-preserved : goal.loop-other-preserved
loop-other-preserved c =
    let i = c.loop-other.invariant in
    (omega (arith, i.0, byte_low _ _ c.from-rank.ensures), counted_more (λ z. ltb (get_or c.args.keys.now z 0) c.args.key) _ _ _ i.1 c.from-rank.ensures)

pub returns : goal.returns
unfolding rank_of
returns c =
    let i = c.loop-other.invariant in
    let e : c.loop-other.other-index ≡ length c.args.keys.now = omega (arith, c.loop-other.auto.other-index-end, c.loop-other-test.false) in
    record { value = rw e at i.1; bound = omega (arith, i.0, c.loop-other.auto.other-index-end) }
