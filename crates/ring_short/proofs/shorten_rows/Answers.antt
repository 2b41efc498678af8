use mathlib.Core.Path.{◌≡◌, refl, sym, ap, ◌∙◌}
use native.Mathlib.Omega.{arith}
use borrow.Author.Rules.{rules}
use Rattle.model.specs.Short.{short_row}
use Rattle.ring_ranges.proofs.Patches.{patched_none}
use Rattle.ring_short.proofs.Spans.{row_first, row_fits, row_after, rows_more}
use Rattle.ring_short.proofs.shorten_rows.Goals as goal

pub loop-x-init : goal.loop-x-init
loop-x-init c =
    (search rules, row_first c.args.n, refl, λ size. patched_none _ _ _)

pub shorten_row-requires : goal.shorten_row-requires
shorten_row-requires c = record {
  words =
      let l = c.loop-x in
      (search rules, search rules, search rules, row_fits c.args.n l.x l.invariant.1 (search rules) (rw l.invariant.2 c.requires.words.3));
}

pub overflow_add-at-in-loop-x : goal.overflow_add-at-in-loop-x
overflow_add-at-in-loop-x c =
    let l = c.loop-x in
    let fits = row_fits c.args.n l.x l.invariant.1 (search rules) c.requires.words.3 in
    search rules

pub loop-x-preserved : goal.loop-x-preserved
loop-x-preserved c =
    let l = c.loop-x in (
      search rules,
      row_after c.args.n l.x l.invariant.1,
      search rules,
      λ size. rows_more c.args.n l.x l.invariant.1 (l.invariant.3 size) (c.shorten_row.ensures.row size l.invariant.1),
    )

pub returns : goal.returns
returns c =
    let l = c.loop-x in
    let e : l.x ≡ c.args.n = omega arith in
    let end : l.at ≡ short_row c.args.n c.args.n = l.invariant.1 ∙ ap (short_row c.args.n) e in
    record {
      rows = (λ size. rw (sym l.invariant.1) at (l.invariant.3 size));
      end = end;
    }
