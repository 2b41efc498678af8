use Rattle.call_reach.proofs.Passes.{Filling}
use Rattle.call_reach.proofs.distances.Given as goal

abbrev pub invariant-loop-y : goal.invariant-loop-y
invariant-loop-y l = Filling l.keys l.set l.to.0 l.far l.y-iterator.rest
