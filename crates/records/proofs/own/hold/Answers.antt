use mathlib.Core.Path.{sym, ◌∙◌}
use Rattle.model.specs.Steps as steps
use Rattle.sets.proofs.Bits.{within_with}
use Rattle.records.proofs.Changes.{unchanged}
use Rattle.records.proofs.own.hold.Goals as goal

pub returns-then-has : goal.returns-then-has
unfolding steps.hold
returns-then-has c = record { «record» = λ n fits low. rw (sym c.has.ensures.value ∙ c.if-has.true) (unchanged fits) }

pub returns : goal.returns
unfolding steps.hold
returns c = record {
  «record» =
      let a = c.args in
      λ n fits low.
      rw (sym c.has.ensures.value ∙ c.if-has.false)
      (rw c.with.ensures.members at (c.set_held.ensures.record n fits (within_with n a.own.held a.y.0 _ c.with.ensures.members low fits.held_within)));
}
