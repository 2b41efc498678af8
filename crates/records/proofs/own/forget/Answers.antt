use mathlib.Core.Path.{sym, ◌∙◌}
use Rattle.model.specs.Sets.{of_bits}
use Rattle.model.specs.Steps as steps
use Rattle.sets.proofs.Bits.{within_without}
use Rattle.records.proofs.Changes.{then}
use Rattle.records.proofs.own.forget.Goals as goal

pub returns-then-not-has : goal.returns-then-not-has
unfolding steps.forget
returns-then-not-has c = record {
  «record» =
      let a = c.args in
      λ n fits.
      let low = within_without n a.own.candidates a.z.0 _ c.without-candidates.ensures.members fits.candidates_within in
      rw (sym c.has.ensures.value ∙ c.if-not-has.true)
      (rw c.without-candidates.ensures.members at (c.set_candidates.ensures.record n fits low));
}

pub returns : goal.returns
unfolding steps.forget
returns c = record {
  «record» =
      let a = c.args in
      λ n fits.
      let low = within_without n a.own.candidates a.z.0 _ c.without-candidates.ensures.members fits.candidates_within in
      let released = c.release.ensures.record n fits in
      rw (sym c.has.ensures.value ∙ c.if-not-has.false)
      (rw c.without-candidates.ensures.members at (then (steps.set_candidates (of_bits c.without-candidates.result)) released (c.set_candidates-2.ensures.record n released.fits low)));
}
