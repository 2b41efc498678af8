use native.Mathlib.Omega.{arith}
use lib.ListN.{length, length-take}
use Rattle.leafset_nearest.specs.Span.{found}
use Rattle.call_reach.proofs.Reaching.{some_nearest, walk_stays, walk_goes}
use mathlib.Core.Path.{sym, ◌∙◌}
use borrow.Author.Tests.{eqb-true, eqb-false}
use Rattle.call_reach.proofs.walk.Goals as goal

pub unwrap-owner-requires : goal.unwrap-owner-requires
unwrap-owner-requires c = some_nearest _ _ c.args.start.0 c.requires.start.0 c.nearest.result c.nearest.ensures.nearest

pub returns-then-eq : goal.returns-then-eq
returns-then-eq c = record {
  walked =
      λ r in_ring.
      let first = rw c.unwrap-owner.ensures at c.nearest.ensures.nearest in
      walk_stays in_ring c.requires.start.1 (found first) c.args.start.0 c.requires.start.0 (eqb-true _ _ (sym c.eq.ensures ∙ c.if-eq.true));
}

pub unwrap-last-requires : goal.unwrap-last-requires
unwrap-last-requires c = some_nearest _ _ c.args.start.0 c.requires.start.0 c.nearest-2.result c.nearest-2.ensures.nearest

pub bounds-keys-index : goal.bounds-keys-index
bounds-keys-index c =
    let last = rw c.unwrap-last.ensures at c.nearest-2.ensures.nearest in
    rw c.index.ensures.value (c.requires.table.within _ last.member)

pub slice_bounds-hops_to_last-end : goal.slice_bounds-hops_to_last-end
slice_bounds-hops_to_last-end c =
    omega (arith, c.requires.table.few, length-take (length c.args.keys.now) c.distances-far.result, c.distances-far.ensures.far.room)

pub returns : goal.returns
returns c = record {
  walked =
      λ r in_ring.
      let first = rw c.unwrap-owner.ensures at c.nearest.ensures.nearest in
      let last = rw c.unwrap-last.ensures at c.nearest-2.ensures.nearest in
      let far = rw c.index.ensures.value at c.distances-far.ensures.far in
      let distance = rw (c.index-2.ensures.value, c.index.ensures.value) at c.clockwise.ensures.value in
      walk_goes in_ring c.requires.start.1 (found first) c.args.start.0 c.requires.start.0 (eqb-false _ _ (sym c.eq.ensures ∙ c.if-eq.false))
      (found last) far distance _ c.hops_to_last-hops.ensures.hops;
}
