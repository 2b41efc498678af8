use mathlib.Core.Path.{sym, ◌∙◌}
use Rattle.model.specs.Steps as steps
use Rattle.records.proofs.Changes.{then}
use Rattle.step_replace.proofs.replaced.Goals as goal

pub release-requires : goal.release-requires
release-requires c =
    record {
      bounds = c.requires.record.2;
      «record» = (c.hold-next.ensures.record 64 c.requires.record.3 c.requires.record.1).fits.room;
    }

pub set_commit-requires : goal.set_commit-requires
set_commit-requires c =
    record {
      «record» = (
        c.requires.record.1,
        c.requires.record.0,
        (c.release.ensures.record 64 (c.hold-next.ensures.record 64 c.requires.record.3 c.requires.record.1).fits).fits.room,
      );
    }

pub returns-then-is_before : goal.returns-then-is_before
returns-then-is_before c = record {
  «record» =
      let a = c.args in
      λ n fits low.
      let held = c.hold-next.ensures.record n fits low in
      let free = then (steps.release a.z.0) held (c.release.ensures.record n held.fits) in
      rw (sym (rw c.index.ensures.value at c.is_before.ensures.value) ∙ c.if-is_before.true)
      (then (steps.set_commit a.y.0 a.time.0) free (c.set_commit.ensures.record n free.fits));
}

pub returns-else-is_before : goal.returns-else-is_before
returns-else-is_before c = record {
  «record» =
      λ n fits low.
      rw (sym (rw c.index.ensures.value at c.is_before.ensures.value) ∙ c.if-is_before.false) (c.hold-next.ensures.record n fits low);
}
