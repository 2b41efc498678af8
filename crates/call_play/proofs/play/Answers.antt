use mathlib.Core.Path.{◌∙◌}
use Rattle.model.proofs.Given.{passed_on}
use Rattle.answers.proofs.Answered.{refused_word}
use Rattle.call_play.proofs.play.Goals as goal

-- 1; 4 and 5; 6
pub returns-in_err-event : goal.returns-in_err-event
returns-in_err-event c = record {
  written = refused_word _ _ (passed_on c.from_residual.result _ c.from_residual.ensures.1) c.in_err-event.ensures.admitted;
}

pub play_event-requires : goal.play_event-requires
play_event-requires c = record { ring = c.in_ok-event.ensures.admitted.reads }

-- the event
pub returns : goal.returns
returns c = record { written = c.play_event.ensures.written ∙ c.in_ok-event.ensures.admitted.same }
