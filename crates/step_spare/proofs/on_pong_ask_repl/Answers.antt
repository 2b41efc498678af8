use mathlib.Core.Path.{sym, ◌∙◌}
use Rattle.model.specs.Steps as steps
use Rattle.records.proofs.Changes.{unchanged}
use Rattle.step_spare.proofs.on_pong_ask_repl.Goals as goal

pub returns-then-not-has : goal.returns-then-not-has
unfolding steps.on_pong_ask_repl
returns-then-not-has c =
    record { effect = λ t me time n fits. rw (sym c.has.ensures.value ∙ c.if-not-has.true) (c.quiet.ensures.effect n _ _ _ (unchanged fits)) }

pub returns : goal.returns
unfolding steps.on_pong_ask_repl
returns c = record {
  effect =
      λ t me time n fits.
      rw (sym c.has.ensures.value ∙ c.if-not-has.false)
      (c.quiet-2.ensures.effect n _ _ _ (c.set_spare.ensures.record n fits));
}
