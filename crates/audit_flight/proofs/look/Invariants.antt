use Rattle.audit_flight.proofs.Flights.{Looked}
use Rattle.audit_flight.proofs.look.Given as goal

abbrev pub invariant-loop-i : goal.invariant-loop-i
invariant-loop-i l = Looked l.words l.acknowledgements l.leaves l.i
