use mathlib.Core.Path.{sym, ap, ◌∙◌}
use Rattle.model.specs.Answers.{given_or}
use mathlib.Core.List.{List}
use Prim.Native.Nat.{ℕ}
use Rattle.model.proofs.Given.{refuses_with, passed_on}
use Rattle.call_refusals.proofs.Refused.{passed_answer}
use Rattle.call_refusals.proofs.Passed.{connection_reads, connection_from, node_twice}
use Rattle.call_questions.proofs.Asked.{leafset_refused, leafset_given}
use Rattle.call_questions.proofs.leafset_of.Goals as goal

pub returns-in_err-of_nodes : goal.returns-in_err-of_nodes
returns-in_err-of_nodes c =
    let ws : List ℕ = c.args.words.now in
    let x : ℕ = c.args.x.0 in
    let n = c.in_err-of_nodes.ensures.answer in
    let passed = c.from_residual.ensures.1 in
    record {
      answer = passed_answer _ _ passed n ∙ node_twice ws x;
      set = ap (given_or 0) (passed_on _ _ passed) ∙ leafset_refused ws x (refuses_with _ n);
    }

pub held_leafset-requires : goal.held_leafset-requires
held_leafset-requires c =
    let ws : List ℕ = c.args.words.now in
    let x : ℕ = c.args.x.0 in
    let a = sym c.in_ok-of_nodes.ensures.answer in
    record {
      ring = connection_reads ws x x a;
      bounds = connection_from ws x x a;
    }

pub returns : goal.returns
returns c =
    let ws : List ℕ = c.args.words.now in
    let x : ℕ = c.args.x.0 in
    let a = sym c.in_ok-of_nodes.ensures.answer in
    record {
      answer = c.in_ok-of_nodes.ensures.answer ∙ node_twice ws x;
      set = leafset_given ws x a c.held_leafset.ensures.value;
    }
