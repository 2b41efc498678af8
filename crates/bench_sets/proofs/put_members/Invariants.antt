use Rattle.bench_sets.proofs.Listing.{Listing}
use Rattle.bench_sets.proofs.put_members.Given as goal

abbrev pub invariant-loop-y : goal.invariant-loop-y
invariant-loop-y l = Listing l.initial.out l.out l.at l.end l.set l.y-iterator.rest
