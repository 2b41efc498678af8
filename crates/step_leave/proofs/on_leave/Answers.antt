use Rattle.model.specs.Steps as steps
use Rattle.step_leave.proofs.on_leave.Goals as goal

pub returns : goal.returns
unfolding steps.on_leave
returns c = record { effect = λ t me time n fits. c.quiet.ensures.effect n _ _ _ (c.forget.ensures.record n fits) }
