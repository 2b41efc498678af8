use mathlib.Core.Path.{◌≡◌, sym, ap, ◌∙◌}
use mathlib.Core.Bool.{not, ◌&&◌}
use Prim.Native.Nat.{ℕ, ◌*◌}
use native.Mathlib.Nat.{add-zero, add-sub_cancel_left}
use native.Mathlib.Omega.{arith}
use lib.Dec.{ltb, eqb}
use borrow.Author.Rules.{rules}
use Rattle.std.specs.Prelude.{if◌then◌else◌}
use Rattle.model.specs.Structs.{stamp_at}
use Rattle.sets.proofs.Arrays.{spare_read}
use Rattle.ring_ranges.proofs.Patches.{patched_none, patched_more}
use Rattle.call_screens.specs.Rows.{spare_in}
use Rattle.call_screens.proofs.put_row.Goals as goal

pub loop-z-init : goal.loop-z-init
loop-z-init c =
    let e = add-zero (64 * c.args.x) in
    (search rules, rw e (patched_none _ _ _), rw e (patched_none _ _ _))

pub bounds-stamps-at : goal.bounds-stamps-at
bounds-stamps-at c = let e = c.loop-z.invariant.1.long in search rules

pub bounds-spares-at : goal.bounds-spares-at
bounds-spares-at c = let e = c.loop-z.invariant.2.long in search rules

pub loop-z-preserved : goal.loop-z-preserved
loop-z-preserved c =
    let l = c.loop-z in
    let a = c.args in
    let here = sym (add-sub_cancel_left (64 * a.x) l.z) in
    let spare = ap (λ (v : ℕ). if ltb l.z a.n && not (eqb a.x l.z) then v else 0) (spare_read a.own l.z c.requires.lengths.3 (search rules)) in (
      search rules,
      patched_more _ _ _ _ _ _ _ l.invariant.1 (omega arith) (search rules) (ap (stamp_at a.own) here) (omega arith),
      patched_more _ _ _ _ _ _ _ l.invariant.2 (omega arith) (search rules)
          (c.shown_spare.ensures.value ∙ spare ∙ ap (spare_in a.n a.x a.own) here) (omega arith),
    )

pub shape_of-stamps : goal.shape_of-stamps
shape_of-stamps c = c.loop-z.invariant.1.long

pub shape_of-spares : goal.shape_of-spares
shape_of-spares c = c.loop-z.invariant.2.long

pub returns : goal.returns
returns c =
    let l = c.loop-z in
    let e : l.z ≡ 64 = omega arith in
    record {
      stamps = rw e at l.invariant.1;
      spares = rw e at l.invariant.2;
    }
