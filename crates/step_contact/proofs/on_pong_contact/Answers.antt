use Rattle.model.specs.Steps as steps
use Rattle.step_contact.proofs.on_pong_contact.Goals as goal

pub returns : goal.returns
unfolding steps.on_pong_contact
returns c = record { effect = λ t me n fits low. c.quiet.ensures.effect n _ _ _ (c.hold.ensures.record n fits low) }
