use mathlib.Core.Path.{sym}
use native.Mathlib.Omega.{arith}
use lib.ListN.{length-take}
use Rattle.draw_ring.proofs.put_keyed.Goals as goal

pub slice_bounds-put_figure-end : goal.slice_bounds-put_figure-end
slice_bounds-put_figure-end c =
    sym (simp length-take (omega (arith, c.requires.scene.0.few, c.discs-discs.ensures.places)))

pub put_figure-figure-requires : goal.put_figure-figure-requires
put_figure-figure-requires c = record {
  scene = (
    c.requires.scene.0,
    simp length-take (omega (arith, c.requires.scene.0.few, c.discs-discs.ensures.places)),
    c.number_groups-count.ensures.places,
    omega (arith, c.requires.scene.1),
  );
}
