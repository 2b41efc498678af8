use Rattle.model.specs.Steps as steps
use Rattle.records.proofs.Changes.{unchanged}
use Rattle.step_contact.proofs.contact.Goals as goal

pub returns : goal.returns
unfolding steps.contact
returns c = record { effect = λ t time n fits. c.replying.ensures.effect n _ _ _ _ (unchanged fits) c.plain.ensures.message }
