use mathlib.Core.Path.{refl, sym, ap, ◌∙◌}
use Rattle.model.specs.Answers.{given_or}
use Rattle.model.specs.Screens.{empty_conductor}
use Rattle.model.proofs.Given.{passed_on, refuses_with}
use Rattle.call_refusals.proofs.Refused.{ring_reads}
use Rattle.call_screens.proofs.Shown.{conductor_refused, conductor_given}
use Rattle.call_screens.proofs.conductor.Goals as goal

pub returns-in_err-of_words-clause-screen : goal.returns-in_err-of_words-clause-screen
returns-in_err-of_words-clause-screen c = ap (given_or empty_conductor) (passed_on _ _ c.from_residual.ensures.1)
    ∙ conductor_refused _ (refuses_with _ c.in_err-of_words.ensures.answer) refl

pub conductor_of-requires : goal.conductor_of-requires
conductor_of-requires c = record { ring = ring_reads _ (sym c.in_ok-of_words.ensures.answer) }

pub returns-clause-screen : goal.returns-clause-screen
returns-clause-screen c = conductor_given _ (sym c.in_ok-of_words.ensures.answer) c.conductor_of.ensures.value
