use Rattle.call_reach.specs.Walks.{Greatest}
use Rattle.call_reach.proofs.farthest.Given as goal

abbrev pub invariant-loop-d : goal.invariant-loop-d
invariant-loop-d l = Greatest l.far l.d-index l.limit l.best
