use mathlib.Core.Path.{sym, ap, ◌∙◌}
use native.Mathlib.Omega.{arith}
use lib.ListN.{length-take}
use Rattle.std.specs.Prelude.{Result}
use Rattle.model.proofs.Given.{refuses_with, passed_on}
use Rattle.call_route.specs.Walks.{routed}
use Rattle.answers.proofs.Valid.{long, few}
use Rattle.model.proofs.Routes.{route_reads, path_few, path_fits}
use Rattle.call_route.proofs.Given.{route_refused, ready, start_in, route_given}
use Rattle.call_route.proofs.route.Goals as goal

pub returns-in_err-refusal : goal.returns-in_err-refusal
returns-in_err-refusal c = record {
  routed =
      let a = c.args in
      let n = c.in_err-refusal.ensures.answer in
      ap (λ (q : Result _ _). routed q a.list.now) (passed_on c.from_residual.result _ c.from_residual.ensures.1)
      ∙ route_refused a.words.now a.start.0 a.key a.list.now n (refuses_with _ n);
}

pub nodes-n-requires : goal.nodes-n-requires
nodes-n-requires c = record {
  length =
      let a = c.args in
      let ok = sym c.in_ok-refusal.ensures.answer in
      long _ (route_reads a.words.now a.start.0 a.key a.list.now ok);
}

pub keys-keys-requires : goal.keys-keys-requires
keys-keys-requires c = record {
  words =
      let a = c.args in
      let ok = sym c.in_ok-refusal.ensures.answer in
      let reads = route_reads a.words.now a.start.0 a.key a.list.now ok in
      let n = c.nodes-n.ensures.value in
      (long _ reads, n, omega (arith, few _ reads));
}

pub running-running-requires : goal.running-running-requires
running-running-requires c = record {
  words =
      let a = c.args in
      let ok = sym c.in_ok-refusal.ensures.answer in
      let reads = route_reads a.words.now a.start.0 a.key a.list.now ok in
      let n = c.nodes-n.ensures.value in
      (long _ reads, n, omega (arith, few _ reads));
}

pub slice_bounds-keys-end : goal.slice_bounds-keys-end
slice_bounds-keys-end c =
    let a = c.args in
    let ok = sym c.in_ok-refusal.ensures.answer in
    let reads = route_reads a.words.now a.start.0 a.key a.list.now ok in
    omega (arith, few _ reads, c.nodes-n.ensures.value, c.keys-keys.ensures.places)

pub slice_bounds-walk-end : goal.slice_bounds-walk-end
slice_bounds-walk-end c =
    let a = c.args in
    let ok = sym c.in_ok-refusal.ensures.answer in
    let reads = route_reads a.words.now a.start.0 a.key a.list.now ok in
    sym (simp length-take (omega (arith, few _ reads, c.nodes-n.ensures.value, c.keys-keys.ensures.places)))

pub walk-last-requires : goal.walk-last-requires
walk-last-requires c =
    let a = c.args in
    let ok = sym c.in_ok-refusal.ensures.answer in
    let keys = c.keys-keys.ensures.keys.0 in record {
      ready = ready a.words.now a.start.0 a.key a.list.now ok keys c.running-running.ensures.members;
      room = (
        start_in a.words.now a.start.0 a.key a.list.now ok keys,
        omega (arith, path_fits a.words.now a.start.0 a.key a.list.now ok),
      );
    }

pub overflow_cast-result : goal.overflow_cast-result
overflow_cast-result c =
    let a = c.args in
    let ok = sym c.in_ok-refusal.ensures.answer in
    let few = path_few a.words.now a.start.0 a.key a.list.now ok in
    record { fits = omega (arith, c.walk-last.ensures.walked.last) }

pub shape_of-list : goal.shape_of-list
shape_of-list c = c.walk-last.auto.list

pub returns : goal.returns
returns c = record {
  routed =
      let a = c.args in
      let ok = sym c.in_ok-refusal.ensures.answer in
      route_given a.words.now a.start.0 a.key a.list.now ok c.in_ok-refusal.ensures.answer c.walk-last.ensures.walked;
}
