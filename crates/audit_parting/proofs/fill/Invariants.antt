use Rattle.audit_parting.proofs.Fills.{Filling}
use Rattle.audit_parting.proofs.fill.Given as goal

abbrev pub invariant-loop-x : goal.invariant-loop-x
invariant-loop-x l = Filling l.initial.groups l.groups l.set l.value l.x-iterator.rest
