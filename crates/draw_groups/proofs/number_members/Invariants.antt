use mathlib.Core.Path.{◌≡◌}
use lib.ListN.{length}
use Rattle.sets.proofs.Bits.{Rising}
use Rattle.draw_groups.proofs.number_members.Given as goal

abbrev pub invariant-loop-x : goal.invariant-loop-x
invariant-loop-x l = Rising 64 l.x-iterator.rest × (length l.numbers ≡ 64)
