use mathlib.Core.Path.{◌≡◌, refl, ap, ◌∙◌}
use mathlib.Core.List.{List}
use Prim.Native.Nat.{ℕ, ◌+◌, ◌*◌, ◌<◌}
use native.Mathlib.Omega.{arith}
use lib.ListN.{length}
use borrow.Author.Rules.{rules}
use Rattle.ring_head.proofs.ReadRing.{table_sides_room}
use Rattle.ring_ranges.proofs.Patches.{patched_none, patched_more, patched_join}
use Rattle.answers.proofs.Valid.{long, few}
use Rattle.call_questions.proofs.Held.{held_in_table, held_leafset}
use Rattle.call_screens.proofs.Shown.{stamp_shown, spare_shown, candidates_shown, leafset_shown, leafsets_all, candidates_all}
use Rattle.call_screens.proofs.put_rows.Goals as goal

pub loop-x-init : goal.loop-x-init
loop-x-init c = (search rules, patched_none _ _ _, patched_none _ _ _, patched_none _ _ _, patched_none _ _ _)

pub overflow_cast-node : goal.overflow_cast-node
overflow_cast-node c =
    let h = few _ c.requires.ring in
    let n = ap length c.requires.lent.0 in
    search rules

pub load-own-requires : goal.load-own-requires
load-own-requires c = record {
  words =
      let n = ap length c.requires.lent.0 in
      (long _ c.requires.ring, n, omega (arith, few _ c.requires.ring, n), search rules);
}

pub leafset-requires : goal.leafset-requires
leafset-requires c =
    let ws : List ℕ = c.args.words.now in record {
      table = held_in_table ws c.requires.ring c.loop-x.x c.requires.lent.0 c.load-own.ensures.loaded (omega (arith, ap length c.requires.lent.0));
      sides = rw c.requires.lent.1 (table_sides_room ws);
    }

pub offset_bounds-leafsets-x : goal.offset_bounds-leafsets-x
offset_bounds-leafsets-x c =
    let h = few _ c.requires.ring in
    let n = ap length c.requires.lent.0 in
    search rules

pub bounds-leafsets-x : goal.bounds-leafsets-x
bounds-leafsets-x c =
    omega (arith, few _ c.requires.ring, ap length c.requires.lent.0)

pub offset_bounds-candidates-x : goal.offset_bounds-candidates-x
offset_bounds-candidates-x c =
    let h = few _ c.requires.ring in
    let n = ap length c.requires.lent.0 in
    search rules

pub bounds-candidates-x : goal.bounds-candidates-x
bounds-candidates-x c =
    omega (arith, few _ c.requires.ring, ap length c.requires.lent.0)

pub put_row-requires : goal.put_row-requires
put_row-requires c = record {
  lengths =
      let l = c.loop-x in (
        omega (arith, l.invariant.3.long),
        omega (arith, l.invariant.4.long),
        omega (arith, few _ c.requires.ring, ap length c.requires.lent.0),
        c.load-own.ensures.loaded.room,
      );
}

pub loop-x-preserved : goal.loop-x-preserved
loop-x-preserved c =
    let l = c.loop-x in
    let x : ℕ = l.x in
    let ws : List ℕ = c.args.words.now in
    let in_array : x < 64 = omega (arith, few _ c.requires.ring, ap length c.requires.lent.0) in
    let row : 64 * (x + 1) ≡ 64 * x + 64 = omega arith in (
      search rules,
      patched_more _ _ _ _ _ _ _ l.invariant.1 (omega arith) in_array
          (leafset_shown ws c.requires.ring x
          (held_leafset ws c.requires.ring x c.requires.lent.0 c.load-own.ensures.loaded c.requires.lent.1 c.leafset.ensures.value)) refl,
      patched_more _ _ _ _ _ _ _ l.invariant.2 (omega arith) in_array (candidates_shown ws x c.load-own.ensures.loaded) refl,
      rw row (patched_join (omega arith) (omega arith) l.invariant.3 c.put_row.ensures.stamps (stamp_shown ws x c.load-own.ensures.loaded)),
      rw row (patched_join (omega arith) (omega arith) l.invariant.4 c.put_row.ensures.spares
          (spare_shown ws x c.load-own.ensures.loaded _ (ap length c.requires.lent.0) (search rules))),
    )

pub shape_of-stamps : goal.shape_of-stamps
shape_of-stamps c = c.loop-x.invariant.3.long

pub shape_of-spares : goal.shape_of-spares
shape_of-spares c = c.loop-x.invariant.4.long

pub returns : goal.returns
returns c =
    let l = c.loop-x in
    let n = ap length c.requires.lent.0 in
    let e : l.x ≡ length c.args.keys.now = omega arith in
    let rows = ap (λ (k : ℕ). 64 * k) (e ∙ n) in record {
      sets = (leafsets_all _ c.requires.ring l.invariant.1 (e ∙ n), candidates_all _ c.requires.ring l.invariant.2 (e ∙ n));
      arrays = (rw rows at l.invariant.3, rw rows at l.invariant.4);
    }
