use mathlib.Core.Path.{sym}
use native.Mathlib.Omega.{arith}
use lib.ListN.{length-take}
use Rattle.draw_stored.proofs.draw_bytes.Goals as goal

pub slice_bounds-draw_short-end : goal.slice_bounds-draw_short-end
slice_bounds-draw_short-end c = sym (simp length-take (omega (arith, c.load-n.ensures.loaded)))
