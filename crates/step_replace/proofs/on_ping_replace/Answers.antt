use mathlib.Core.Path.{sym, ◌∙◌}
use Rattle.model.specs.Steps as steps
use Rattle.records.proofs.Changes.{unchanged}
use Rattle.step_replace.proofs.on_ping_replace.Goals as goal

pub returns-then-not-has : goal.returns-then-not-has
unfolding steps.on_ping_replace
returns-then-not-has c = record {
  effect =
      λ t n fits.
      rw (sym c.has.ensures.value ∙ c.if-not-has.true) (c.quiet.ensures.effect n _ _ _ (unchanged fits));
}

pub returns : goal.returns
unfolding steps.on_ping_replace
returns c = record {
  effect =
      λ t n fits.
      rw (sym c.has.ensures.value ∙ c.if-not-has.false)
      (c.replying.ensures.effect n _ _ _ _ (c.set_commit-next.ensures.record n fits) c.stamped-answer.ensures.message);
}
