use mathlib.Core.Path.{◌≡◌}
use Prim.Native.Nat.{◌<◌}
use native.Mathlib.Omega.{arith}
use lib.ListN.{length-set}
use Rattle.ring_pairs.proofs.Stores.{stored_none}
use Rattle.ring_join.proofs.Rows.{second_long, second_spare_high, second_spare_word, raise_more}
use borrow.Author.Rules.{rules}
use Rattle.ring_join.proofs.pairs.raise_pairs.Goals as goal

pub loop-z-init : goal.loop-z-init
loop-z-init c =
    (search rules, search rules, stored_none _ _ _ _, c.requires.second.1.room, second_long c.requires.second.1, c.requires.second.0)

pub raised_spare-requires : goal.raised_spare-requires
raised_spare-requires c = record {
  spare =
      let l = c.loop-z in
      let h : l.z < c.args.k = omega (arith, c.loop-z-test.true, c.requires.bounds.2) in
      let apart = c.requires.bounds.3 _ l.invariant.0 c.loop-z-test.true in (
        omega (arith, l.invariant.3),
        second_spare_high _ _ _ c.requires.second.1 _ _ c.requires.bounds.0 h apart,
        second_spare_word _ _ _ c.requires.second.1 _ _ c.requires.bounds.0 h apart,
      );
}

pub bounds-joined-at-in-loop-z : goal.bounds-joined-at-in-loop-z
bounds-joined-at-in-loop-z c = simp length-set (omega arith)

pub loop-z-preserved : goal.loop-z-preserved
loop-z-preserved c =
    let l = c.loop-z in
    let h : l.z < c.args.k = omega (arith, c.loop-z-test.true, c.requires.bounds.2) in (
      search rules,
      search rules,
      raise_more _ _ _ c.requires.second.1 _ _ c.requires.bounds.0 h
          (c.requires.bounds.3 _ l.invariant.0 c.loop-z-test.true) _ _ _ _ c.requires.second.0 l.invariant.0 c.raised_spare.ensures.value l.invariant.2,
      l.invariant.3,
      l.invariant.4,
      simp length-set l.invariant.5,
    )

pub shape_of-joined : goal.shape_of-joined
shape_of-joined c = c.loop-z.invariant.2.long

pub returns : goal.returns
returns c = record {
  value =
      let l = c.loop-z in
      let e : l.z ≡ c.args.b = omega arith in
      rw e at l.invariant.2;
}
