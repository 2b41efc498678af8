use mathlib.Core.Path.{sym, ap, ◌∙◌}
use native.Mathlib.Omega.{arith}
use lib.ListN.{length-take}
use Rattle.model.proofs.Reaches.{reach_reads, start_runs, key_fits_lem}
use Rattle.model.proofs.Given.{refuses_with, passed_on}
use Rattle.call_reach.specs.Walks.{reached}
use Rattle.answers.proofs.Valid.{long, few}
use Rattle.call_reach.proofs.Reaching.{reach_refused, in_ring, in_table, reach_given}
use Rattle.call_reach.proofs.reach.Goals as goal

pub returns-in_err-refusal : goal.returns-in_err-refusal
returns-in_err-refusal c = record {
  reach =
      let a = c.args in
      let n = c.in_err-refusal.ensures.answer in
      ap reached (passed_on c.from_residual.result _ c.from_residual.ensures.1) ∙ reach_refused a.words.now a.start.0 a.key n (refuses_with _ n);
}

pub nodes-n-requires : goal.nodes-n-requires
nodes-n-requires c = record {
  length =
      let a = c.args in
      let ok = sym c.in_ok-refusal.ensures.answer in
      long _ (reach_reads a.words.now a.start.0 a.key ok);
}

pub keys-keys-requires : goal.keys-keys-requires
keys-keys-requires c = record {
  words =
      let a = c.args in
      let ok = sym c.in_ok-refusal.ensures.answer in
      let reads = reach_reads a.words.now a.start.0 a.key ok in
      let n = c.nodes-n.ensures.value in
      (long _ reads, n, omega (arith, few _ reads));
}

pub running-running-requires : goal.running-running-requires
running-running-requires c = record {
  words =
      let a = c.args in
      let ok = sym c.in_ok-refusal.ensures.answer in
      let reads = reach_reads a.words.now a.start.0 a.key ok in
      let n = c.nodes-n.ensures.value in
      (long _ reads, n, omega (arith, few _ reads));
}

pub slice_bounds-keys-end : goal.slice_bounds-keys-end
slice_bounds-keys-end c =
    let a = c.args in
    let ok = sym c.in_ok-refusal.ensures.answer in
    let reads = reach_reads a.words.now a.start.0 a.key ok in
    omega (arith, few _ reads, c.nodes-n.ensures.value, c.keys-keys.ensures.places)

pub slice_bounds-walk-end : goal.slice_bounds-walk-end
slice_bounds-walk-end c =
    let a = c.args in
    let ok = sym c.in_ok-refusal.ensures.answer in
    let reads = reach_reads a.words.now a.start.0 a.key ok in
    sym (simp length-take (omega (arith, few _ reads, c.nodes-n.ensures.value, c.keys-keys.ensures.places)))

pub walk-requires : goal.walk-requires
walk-requires c =
    let a = c.args in
    let ok = sym c.in_ok-refusal.ensures.answer in
    let keys = c.keys-keys.ensures.keys.0 in
    record {
      table = in_table a.words.now a.start.0 a.key ok keys _ c.running-running.ensures.members;
      start = (c.running-running.ensures.members _ ∙ start_runs a.words.now a.start.0 a.key ok, key_fits_lem a.words.now a.start.0 a.key ok);
    }

pub returns : goal.returns
returns c = record {
  reach =
      let a = c.args in
      let ok = sym c.in_ok-refusal.ensures.answer in
      reach_given a.words.now a.start.0 a.key ok c.in_ok-refusal.ensures.answer
      (c.walk.ensures.walked _ (in_ring a.words.now a.start.0 a.key ok c.keys-keys.ensures.keys.0 _ c.running-running.ensures.members));
}
