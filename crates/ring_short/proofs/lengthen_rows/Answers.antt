use mathlib.Core.Path.{◌≡◌, refl, ap, ◌∙◌}
use native.Mathlib.Omega.{arith}
use borrow.Author.Rules.{rules}
use Rattle.model.specs.Short.{short_row}
use Rattle.ring_ranges.proofs.Patches.{patched_none, patched_join}
use Rattle.ring_short.proofs.Spans.{row_first, row_fits, row_after}
use Rattle.ring_short.proofs.lengthen_rows.Goals as goal

pub loop-x-init : goal.loop-x-init
loop-x-init c =
    (search rules, row_first c.args.n, refl, λ m. patched_none _ _ _)

pub lengthen_row-requires : goal.lengthen_row-requires
lengthen_row-requires c = record {
  words =
      let l = c.loop-x in
      (search rules, search rules, search rules, row_fits c.args.n l.x l.invariant.1 (search rules) c.requires.words.3);
}

pub overflow_add-at-in-loop-x : goal.overflow_add-at-in-loop-x
overflow_add-at-in-loop-x c =
    let l = c.loop-x in
    let fits = row_fits c.args.n l.x l.invariant.1 (search rules) c.requires.words.3 in
    search rules

pub loop-x-preserved : goal.loop-x-preserved
loop-x-preserved c =
    let l = c.loop-x in (
      search rules,
      row_after c.args.n l.x l.invariant.1,
      search rules,
      λ m. patched_join (omega arith) (omega arith) (l.invariant.3 m) (c.lengthen_row.ensures.row m l.invariant.1) (λ i h k. refl),
    )

pub returns : goal.returns
returns c =
    let l = c.loop-x in
    let e : l.x ≡ c.args.n = omega arith in
    let end : l.at ≡ short_row c.args.n c.args.n = l.invariant.1 ∙ ap (short_row c.args.n) e in
    record {
      rows = (λ m. rw e at (l.invariant.3 m));
      end = end;
    }
