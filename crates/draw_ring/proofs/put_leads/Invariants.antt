use mathlib.Core.Path.{◌≡◌}
use Prim.Native.Nat.{◌+◌, ◌*◌, ◌≤◌}
use lib.ListN.{length}
use Rattle.draw_ring.proofs.put_leads.Given as goal

abbrev pub invariant-loop-disc : goal.invariant-loop-disc
invariant-loop-disc l = (l.end ≤ l.at + 225 * length l.yielded) × (length l.out ≡ length l.initial.out)
