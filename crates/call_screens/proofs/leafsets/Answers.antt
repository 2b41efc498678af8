use mathlib.Core.Path.{refl, ap}
use native.Mathlib.Omega.{arith}
use lib.ListN.{length}
use borrow.Author.Rules.{rules}
use Rattle.ring_ranges.proofs.Patches.{patched_none, patched_more}
use Rattle.answers.proofs.Valid.{few}
use Rattle.call_screens.proofs.Shown.{leafsets_all}
use Rattle.call_screens.proofs.leafsets.Goals as goal

pub loop-x-init : goal.loop-x-init
loop-x-init c = (search rules, patched_none _ _ _)

pub overflow_cast-x : goal.overflow_cast-x
overflow_cast-x c =
    let h = few _ c.requires.ring in
    let n = ap length c.requires.table.0 in
    search rules

pub node_leafset-requires : goal.node_leafset-requires
node_leafset-requires c =
    record {
      ring = c.requires.ring;
      table = (c.requires.table.0, c.requires.table.1, omega (arith, ap length c.requires.table.0));
    }

pub offset_bounds-leafsets-x : goal.offset_bounds-leafsets-x
offset_bounds-leafsets-x c =
    let h = few _ c.requires.ring in
    let n = ap length c.requires.table.0 in
    search rules

pub bounds-leafsets-x : goal.bounds-leafsets-x
bounds-leafsets-x c =
    omega (arith, few _ c.requires.ring, ap length c.requires.table.0)

pub loop-x-preserved : goal.loop-x-preserved
loop-x-preserved c =
    let l = c.loop-x in (
      search rules,
      patched_more _ _ _ _ _ _ _ l.invariant.1 (omega arith)
          (omega (arith, few _ c.requires.ring, ap length c.requires.table.0)) c.node_leafset.ensures.value refl,
    )

pub returns : goal.returns
returns c = record {
  value =
      let l = c.loop-x in
      leafsets_all _ c.requires.ring l.invariant.1 (omega (arith, ap length c.requires.table.0));
}
