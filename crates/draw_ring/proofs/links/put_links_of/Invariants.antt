use mathlib.Core.Path.{◌≡◌}
use Prim.Native.Nat.{◌+◌, ◌*◌, ◌≤◌}
use lib.ListN.{length}
use Rattle.draw_ring.proofs.links.put_links_of.Given as goal

abbrev pub invariant-loop-z : goal.invariant-loop-z
invariant-loop-z l = (l.z ≤ length l.discs) × (l.end ≤ l.at + 412 * l.z) × (length l.out ≡ length l.initial.out)
