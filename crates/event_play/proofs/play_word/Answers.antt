use mathlib.Core.Path.{◌∙◌}
use borrow.Author.Tests.{eq-eqb}
use Rattle.model.proofs.Given.{passed_on}
use Rattle.answers.proofs.Answered.{refused_word}
use Rattle.answers.proofs.Valid.{long}
use Rattle.answers.proofs.Stages.{not_an_event, an_event}
use Rattle.event_play.proofs.play_word.Goals as goal

pub returns-in_err-e : goal.returns-in_err-e
returns-in_err-e c = record {
  written =
      refused_word _ _ (passed_on _ _ c.from_residual.ensures.1)
      (not_an_event _ _ (eq-eqb _ _ (long _ c.requires.ring)) c.read_event.ensures.value c.in_err-e.was);
}

pub returns : goal.returns
returns c = record {
  written =
      c.play_event.ensures.written
      ∙ an_event _ _ (eq-eqb _ _ (long _ c.requires.ring)) c.read_event.ensures.value c.in_ok-e.was c.requires.ring;
}
