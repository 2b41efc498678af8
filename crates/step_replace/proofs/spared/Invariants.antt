use mathlib.Core.Bool.{not}
use lib.Dec.{eqb}
use Rattle.model.specs.Sets.{none_node}
use Rattle.model.specs.Structs.{spare_at}
use Rattle.sets.proofs.Collect.{Collecting}
use Rattle.step_replace.proofs.spared.Given as goal

abbrev pub invariant-loop-z : goal.invariant-loop-z
invariant-loop-z l = Collecting 64 l.set (λ y. not (eqb (spare_at l.own y) none_node)) l.out l.z-iterator.rest
