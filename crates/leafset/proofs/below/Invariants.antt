use lib.Dec.{ltb}
use lib.ListN.{length}
use Rattle.leafset_nearest.specs.Span.{span_to}
use Rattle.sets.proofs.Collect.{Collecting}
use Rattle.leafset.proofs.below.Given as goal

abbrev pub invariant-loop-y : goal.invariant-loop-y
invariant-loop-y l = Collecting (length l.keys) l.set (λ y. ltb (span_to l.way l.from.0 l.keys y) l.limit) l.out l.y-iterator.rest
