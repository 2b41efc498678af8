use mathlib.Core.Path.{sym, ap, ◌∙◌}
use Rattle.model.specs.Answers.{given_or}
use mathlib.Core.List.{List}
use Prim.Native.Nat.{ℕ}
use native.Mathlib.Omega.{arith}
use Rattle.answers.proofs.Valid.{long, few}
use Rattle.model.proofs.Given.{refuses_with, passed_on}
use Rattle.call_refusals.proofs.Refused.{passed_answer, ring_reads}
use Rattle.call_questions.proofs.Asked.{groups_refused, groups_given}
use Rattle.call_questions.proofs.groups.Goals as goal

pub returns-in_err-of_words : goal.returns-in_err-of_words
returns-in_err-of_words c =
    let ws : List ℕ = c.args.words.now in
    let n = c.in_err-of_words.ensures.answer in
    let passed = c.from_residual.ensures.1 in
    record {
      answer = passed_answer _ _ passed n;
      groups = ap (given_or 0) (passed_on _ _ passed) ∙ groups_refused ws (refuses_with _ n);
    }

pub nodes-n-requires : goal.nodes-n-requires
nodes-n-requires c = record {
  length =
      let ws : List ℕ = c.args.words.now in
      long ws (ring_reads ws (sym c.in_ok-of_words.ensures.answer));
}

pub groups-requires : goal.groups-requires
groups-requires c = record {
  words =
      let ws : List ℕ = c.args.words.now in
      let reads = ring_reads ws (sym c.in_ok-of_words.ensures.answer) in
      (long ws reads, c.nodes-n.ensures.value, omega (arith, few ws reads, c.nodes-n.ensures.value));
}

pub returns : goal.returns
returns c =
    let ws : List ℕ = c.args.words.now in
    let read = sym c.in_ok-of_words.ensures.answer in
    record {
      answer = c.in_ok-of_words.ensures.answer;
      groups = groups_given ws read c.groups.ensures.value;
    }
