use mathlib.Core.Path.{◌≡◌, refl, ◌∙◌}
use native.Mathlib.Omega.{arith}
use Rattle.model.specs.Ring.{cleared}
use Rattle.ring_join.proofs.Rows.{row_span, rows_none, rows_more}
use borrow.Author.Rules.{rules}
use Rattle.ring_join.proofs.pairs.clear_across.Goals as goal

pub loop-x-init : goal.loop-x-init
loop-x-init c = (search rules, rows_none _ _ _ _ _ _ (search rules))

pub clear-requires : goal.clear-requires
clear-requires c = record { words = (c.loop-x.invariant.1.long ∙ c.requires.words.0, search rules, c.requires.words.1, c.requires.words.2) }

pub loop-x-preserved : goal.loop-x-preserved
loop-x-preserved c = (
  search rules,
  rows_more _ _ _ _ _ _ _ _ _ (search rules) c.requires.words.2 refl c.loop-x.invariant.1
      (row_span _ _ _ _ _ cleared cleared c.clear.ensures.value (λ z h g e. absurd (omega arith)) (λ z h g. refl)),
)

pub shape_of-joined : goal.shape_of-joined
shape_of-joined c = c.loop-x.invariant.1.long

pub returns : goal.returns
returns c = record {
  rows =
      let l = c.loop-x in
      let e : l.x ≡ c.args.n = omega arith in
      rw e at l.invariant.1;
}
