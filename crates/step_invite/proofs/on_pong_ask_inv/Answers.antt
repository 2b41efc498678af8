use Rattle.model.specs.Steps as steps
use Rattle.step_invite.proofs.on_pong_ask_inv.Goals as goal

pub returns : goal.returns
unfolding steps.on_pong_ask_inv
returns c = record { effect = λ t me time n fits low. c.quiet.ensures.effect n _ _ _ (c.add_candidates.ensures.record n fits low) }
