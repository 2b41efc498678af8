use mathlib.Core.Path.{sym, ◌∙◌}
use borrow.Author.Tests.{lt-ltb, le-ltb}
use Rattle.model.proofs.Answers.{here, next, no_more}
use Rattle.model.proofs.Given.{refuses_with}
use Rattle.call_refusals.proofs.Refused.{passed_answer}
use Rattle.call_reach.proofs.Refused.{of_start, after_start}
use Rattle.call_reach.proofs.refusal.Goals as goal

pub returns-in_err-of_nodes : goal.returns-in_err-of_nodes
returns-in_err-of_nodes c = record {
  answer =
      let a = c.args in
      let n = c.in_err-of_nodes.ensures.answer in
      of_start a.words.now a.start.0 a.key (passed_answer _ _ c.from_residual.ensures.1 n) (refuses_with _ n);
}

pub returns-then-key-gt-KEY : goal.returns-then-key-gt-KEY
returns-then-key-gt-KEY c = record {
  answer =
      let a = c.args in
      after_start a.words.now a.start.0 a.key
      (sym c.in_ok-of_nodes.ensures.answer)
      (sym (here _ _ (lt-ltb _ _ c.if-key-gt-KEY.true)));
}

pub returns : goal.returns
returns c = record {
  answer =
      let a = c.args in
      after_start a.words.now a.start.0 a.key
      (sym c.in_ok-of_nodes.ensures.answer)
      (sym (next _ _ (le-ltb _ _ c.if-key-gt-KEY.false) ∙ no_more));
}
