use mathlib.Core.Path.{◌≡◌}
use native.Mathlib.Omega.{arith}
use lib.ListN.{get_or}
use Rattle.model.specs.Sets.{of_bits}
use Rattle.model.proofs.Bits.{bit_below}
use Rattle.leafset_nearest.proofs.Spans.{span<}
use Rattle.leafset.proofs.Limits.{taken_none, taken_some, taken_more, taken_limit}
use Rattle.leafset.proofs.limit.Goals as goal

pub loop-init : goal.loop-init
loop-init c = taken_none (of_bits c.args.set) _ (λ y e. bit_below 64 c.args.set y c.ranges.set.fits e)

pub nearest-requires : goal.nearest-requires
nearest-requires c = record { members = λ y e. c.requires.members y (c.loop.invariant.part y e) }

pub unwrap-y-requires : goal.unwrap-y-requires
unwrap-y-requires c = taken_some c.loop.invariant (omega (arith, c.loop-test.true, c.requires.enough)) c.nearest.result c.nearest.ensures.nearest

pub bounds-keys-index : goal.bounds-keys-index
bounds-keys-index c =
    let l = rw c.unwrap-y.ensures at c.nearest.ensures.nearest in
    rw c.index.ensures.value (c.requires.members _ (c.loop.invariant.part _ l.member))

pub overflow_add-limit : goal.overflow_add-limit
overflow_add-limit c =
    let a = c.args in
    omega (arith, c.span-limit.ensures.value, span< a.way a.from.0 (get_or a.keys.now c.index.result 0))

pub without-left-requires : goal.without-left-requires
without-left-requires c =
    let l = rw c.unwrap-y.ensures at c.nearest.ensures.nearest in
    record { bounds = c.loop.invariant.low _ (c.loop.invariant.part _ l.member) }

pub loop-preserved : goal.loop-preserved
loop-preserved c =
    let l = rw c.unwrap-y.ensures at c.nearest.ensures.nearest in
    rw (c.without-left.ensures.members, c.span-limit.ensures.value, c.index.ensures.value) (taken_more c.loop.invariant l)

pub returns : goal.returns
returns c = record {
  limit = let e : c.loop.counter ≡ c.args.many = omega (arith, c.loop-test.false, c.loop.auto.counter-end) in
      rw (← e) (taken_limit c.loop.invariant);
}
