use mathlib.Core.Path.{sym, ◌∙◌}
use Prim.Native.Nat.{◌≤◌}
use native.Mathlib.Omega.{arith}
use lib.ListN.{length-take}
use Rattle.model.specs.Screens.{technician_screen, shown_stamps, shown_spares}
use Rattle.answers.proofs.Valid.{long, few}
use Rattle.call_screens.proofs.Shown.{rows_all}
use Rattle.call_screens.proofs.technician_of.Goals as goal

pub nodes-n-requires : goal.nodes-n-requires
nodes-n-requires c = record { length = long _ c.requires.ring }

pub keys-keys-requires : goal.keys-keys-requires
keys-keys-requires c = record {
  words =
      let n = c.nodes-n.ensures.value in
      (long _ c.requires.ring, n, omega (arith, few _ c.requires.ring));
}

pub sides-sides-requires : goal.sides-sides-requires
sides-sides-requires c = record { length = long _ c.requires.ring }

pub slice_bounds-keys-end : goal.slice_bounds-keys-end
slice_bounds-keys-end c =
    omega (arith, few _ c.requires.ring, c.nodes-n.ensures.value, c.keys-keys.ensures.places)

pub slice_bounds-put_rows-end : goal.slice_bounds-put_rows-end
slice_bounds-put_rows-end c =
    sym (simp length-take (omega (arith, few _ c.requires.ring, c.nodes-n.ensures.value, c.keys-keys.ensures.places)))

pub put_rows-sets-requires : goal.put_rows-sets-requires
put_rows-sets-requires c =
    record {
      ring = c.requires.ring;
      lent = (c.keys-keys.ensures.keys.0, c.sides-sides.ensures.value, c.requires.lengths.0, c.requires.lengths.1);
    }

pub clear-requires : goal.clear-requires
clear-requires c = record {
  lengths =
      let rows = c.put_rows-sets.ensures.arrays in
      (rows.0.long ∙ c.requires.lengths.0, rows.1.long ∙ c.requires.lengths.1, omega (arith, few _ c.requires.ring, c.nodes-n.ensures.value));
}

pub with_leafsets-requires : goal.with_leafsets-requires
with_leafsets-requires c =
    let n = c.nodes-n.ensures.value in
    record {
      ring = c.requires.ring;
      parts = (n, c.keys-keys.ensures.keys.1, c.put_rows-sets.ensures.sets.0);
    }

pub shape_of-stamps : goal.shape_of-stamps
shape_of-stamps c =
    c.clear.ensures.stamps.long ∙ c.put_rows-sets.ensures.arrays.0.long

pub shape_of-spares : goal.shape_of-spares
shape_of-spares c =
    c.clear.ensures.spares.long ∙ c.put_rows-sets.ensures.arrays.1.long

pub returns : goal.returns
unfolding technician_screen shown_stamps shown_spares
returns c =
    let n = c.nodes-n.ensures.value in
    let low : c.nodes-n.result ≤ 64 = omega (arith, few _ c.requires.ring, n) in record {
      screen = λ i. record { conductor = c.with_leafsets.ensures.value i; candidates = c.put_rows-sets.ensures.sets.1 i };
      arrays = (
        rows_all _ (λ o. o.commit) _ n low c.requires.lengths.0 c.put_rows-sets.ensures.arrays.0 c.clear.ensures.stamps,
        rows_all _ (λ o. o.spare) _ n low c.requires.lengths.1 c.put_rows-sets.ensures.arrays.1 c.clear.ensures.spares,
      );
    }
