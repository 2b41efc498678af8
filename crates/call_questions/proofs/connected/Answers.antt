use mathlib.Core.Path.{sym, ap, ◌∙◌}
use mathlib.Core.Bool.{false}
use Rattle.std.specs.Prelude.{Ok}
use Rattle.model.specs.Answers.{given_or}
use mathlib.Core.List.{List}
use Prim.Native.Nat.{ℕ}
use native.Mathlib.Omega.{arith}
use Rattle.answers.proofs.Valid.{long, few}
use Rattle.model.proofs.Given.{refuses_with, passed_on}
use Rattle.call_refusals.proofs.Refused.{passed_answer}
use Rattle.call_refusals.proofs.Passed.{connection_reads, connection_from, connection_to}
use Rattle.call_questions.proofs.Asked.{connection_refused, connection_given, yes_chain, no_chain}
use Rattle.call_questions.proofs.connected.Goals as goal

pub returns-in_err-of_nodes : goal.returns-in_err-of_nodes
returns-in_err-of_nodes c =
    let ws : List ℕ = c.args.words.now in
    let x : ℕ = c.args.a.0 in
    let y : ℕ = c.args.b.0 in
    let n = c.in_err-of_nodes.ensures.answer in
    let passed = c.from_residual.ensures.1 in
    let answer = passed_answer _ _ passed n in
    let value = ap (given_or false) (passed_on _ _ passed) ∙ connection_refused ws x y (refuses_with _ n) in
    record {
      answer = answer;
      connected = value;
      yes = yes_chain ws x y answer value;
      no = no_chain ws x y answer value;
    }

pub nodes-n-requires : goal.nodes-n-requires
nodes-n-requires c = record {
  length =
      let ws : List ℕ = c.args.words.now in
      let a = sym c.in_ok-of_nodes.ensures.answer in
      long ws (connection_reads ws c.args.a.0 c.args.b.0 a);
}

pub connected-requires : goal.connected-requires
connected-requires c = record {
  words =
      let ws : List ℕ = c.args.words.now in
      let x : ℕ = c.args.a.0 in
      let y : ℕ = c.args.b.0 in
      let a = sym c.in_ok-of_nodes.ensures.answer in
      let reads = connection_reads ws x y a in (
        long ws reads,
        c.nodes-n.ensures.value,
        omega (arith, few ws reads, c.nodes-n.ensures.value),
        omega (arith, connection_from ws x y a, c.nodes-n.ensures.value),
        omega (arith, connection_to ws x y a, c.nodes-n.ensures.value),
      );
}

pub returns : goal.returns
returns c =
    let ws : List ℕ = c.args.words.now in
    let x : ℕ = c.args.a.0 in
    let y : ℕ = c.args.b.0 in
    let a = sym c.in_ok-of_nodes.ensures.answer in
    let value = connection_given ws x y a c.connected.ensures.value in
    record {
      answer = c.in_ok-of_nodes.ensures.answer;
      connected = value;
      yes = yes_chain ws x y {r = Ok c.connected.result} c.in_ok-of_nodes.ensures.answer value;
      no = no_chain ws x y {r = Ok c.connected.result} c.in_ok-of_nodes.ensures.answer value;
    }
