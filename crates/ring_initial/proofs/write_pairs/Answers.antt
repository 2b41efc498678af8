use mathlib.Core.Path.{◌≡◌}
use native.Mathlib.Omega.{arith}
use borrow.Author.Rules.{rules}
use Rattle.ring_initial.proofs.Opening.{rows_none, rows_more}
use Rattle.ring_initial.proofs.write_pairs.Goals as goal

pub loop-x-init : goal.loop-x-init
loop-x-init c = (search rules, rows_none _ _)

pub loop-x-preserved : goal.loop-x-preserved
loop-x-preserved c = (
  search rules,
  rows_more _ _ _ _ _ _ c.loop-x-test.true c.requires.bounds c.loop-x.invariant.1
      c.clear.ensures.value c.clear-in-loop-x.ensures.value,
)

pub returns : goal.returns
returns c = record {
  value =
      let l = c.loop-x in
      let e : l.x ≡ c.args.n = omega arith in
      rw e at l.invariant.1;
}
