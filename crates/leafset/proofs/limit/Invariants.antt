use Rattle.model.specs.Sets.{of_bits}
use Rattle.leafset_nearest.specs.Span.{span_to}
use Rattle.leafset.proofs.Limits.{Taken}
use Rattle.leafset.proofs.limit.Given as goal

abbrev pub invariant-loop : goal.invariant-loop
invariant-loop l = Taken (of_bits l.set) (span_to l.way l.from.0 l.keys) (of_bits l.left) l.limit l.counter
