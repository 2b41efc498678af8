use Rattle.model.specs.Events.{write_event}
use Rattle.model.proofs.Given.{none_given, all_given}
use Rattle.word_event.proofs.write_event.Goals as goal

pub returns-in_err-check-clause-word : goal.returns-in_err-check-clause-word
unfolding write_event
returns-in_err-check-clause-word c = none_given 0 _ _ _ c.from_residual.ensures.0 c.in_err-check.ensures.answer

pub returns-clause-word : goal.returns-clause-word
unfolding write_event
returns-clause-word c = all_given 0 _ c.in_ok-check.ensures.answer c.new-word.ensures.value
