use mathlib.Core.Path.{◌≡◌, ◌∙◌}
use Prim.Native.Nat.{◌-◌}
use native.Mathlib.Omega.{arith}
use Rattle.model.specs.Words.{decode_own}
use Rattle.model.specs.Join.{raised_own}
use Rattle.ring_join.proofs.Rows.{rows_none, rows_raised}
use borrow.Author.Rules.{rules}
use Rattle.ring_join.proofs.pairs.write_rows.Goals as goal

pub loop-y-init : goal.loop-y-init
loop-y-init c =
    let a = c.args in
    (search rules, rows_none _ _ _ _ _ (λ x. raised_own a.n (decode_own a.second.now (x - a.n))) (omega arith))

pub write_row-requires : goal.write_row-requires
write_row-requires c = record { second = (c.loop-y.invariant.1.long ∙ c.requires.second.0, c.requires.second.1, c.loop-y-test.true) }

pub loop-y-preserved : goal.loop-y-preserved
loop-y-preserved c =
    (search rules, rows_raised _ _ _ _ _ _ (decode_own c.args.second.now) c.requires.second.1.room c.loop-y.invariant.1 c.write_row.ensures.row)

pub shape_of-joined : goal.shape_of-joined
shape_of-joined c = c.loop-y.invariant.1.long

pub returns : goal.returns
returns c = record {
  rows =
      let l = c.loop-y in
      let e : l.y ≡ c.args.k = omega arith in
      rw e at l.invariant.1;
}
