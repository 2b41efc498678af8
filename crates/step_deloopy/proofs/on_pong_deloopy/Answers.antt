use Rattle.model.specs.Steps as steps
use Rattle.step_deloopy.proofs.on_pong_deloopy.Goals as goal

pub returns : goal.returns
unfolding steps.on_pong_deloopy
returns c = record { effect = λ t me time n fits low. c.quiet.ensures.effect n _ _ _ (c.add_candidate.ensures.record n fits low) }
