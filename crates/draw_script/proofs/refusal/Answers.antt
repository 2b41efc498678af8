use mathlib.Core.Path.{sym}
use native.Mathlib.Omega.{arith}
use lib.ListN.{length-take}
use Rattle.draw_script.proofs.refusal.Goals as goal

pub slice_bounds-open_script-end : goal.slice_bounds-open_script-end
slice_bounds-open_script-end c = sym (simp length-take (omega (arith, c.load-n.ensures.loaded)))
