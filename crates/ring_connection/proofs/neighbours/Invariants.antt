use mathlib.Core.Bool.{◌||◌}
use Rattle.sets.proofs.Collect.{Collecting}
use Rattle.ring_connection.specs.Links.{held_at}
use Rattle.ring_connection.proofs.neighbours.Given as goal

abbrev pub invariant-loop-z : goal.invariant-loop-z
invariant-loop-z l = Collecting 64 l.set (λ z. held_at l.words l.x.0 z || held_at l.words z l.x.0) l.out l.z-iterator.rest
