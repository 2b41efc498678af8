use Rattle.model.specs.Steps as steps
use Rattle.step_contact.proofs.notice.Goals as goal

pub returns : goal.returns
unfolding steps.notice
returns c = record { effect = λ t me time n fits. c.quiet.ensures.effect n _ _ _ (c.forget.ensures.record n fits) }
