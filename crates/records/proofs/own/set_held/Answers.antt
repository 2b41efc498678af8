use native.Mathlib.Omega.{arith}
use Rattle.model.specs.Steps.{set_spare}
use Rattle.records.proofs.Changes.{then, sets_changed, commit_changed, spare_changed}
use Rattle.records.proofs.own.set_held.Goals as goal

pub returns : goal.returns
returns c = record {
  «record» =
      let a = c.args in
      let p = c.requires.«record» in
      λ n fits low.
      let held = sets_changed fits a.held a.own.candidates low fits.candidates_within in
      let commit = commit_changed held.fits a.z.0 p.0 a.commit p.1 in
      rw (c.index.ensures.value, c.index-2.ensures.value)
      (then (set_spare a.z.0 64) commit (spare_changed commit.fits a.z.0 p.0 (record { 0 = 64 }) (omega arith)));
}
