use mathlib.Core.Path.{ap, ◌∙◌}
use Rattle.model.specs.Answers.{answer_number, given_or}
use Rattle.mekvalgs_event.specs.Parts.{numbers}
use Rattle.model.proofs.Given.{passed_on}
use Rattle.mekvalgs_event.proofs.Numbers.{read_given, read_refused}
use Rattle.mekvalgs_event.proofs.read.Goals as goal

pub returns-in_err-e : goal.returns-in_err-e
returns-in_err-e c =
    let q = read_refused c.args.word _ c.in_err-e.ensures.value in
    let is = passed_on c.from_residual.result _ c.from_residual.ensures.1 in
    record { answer = ap answer_number is ∙ q.0; parts = ap (given_or (numbers 0 0 0)) is ∙ q.1 }

pub returns : goal.returns
returns c =
    let q = read_given c.args.word _ c.in_ok-e.ensures.value in
    record { answer = q.0; parts = c.of_event.ensures.value ∙ q.1 }
