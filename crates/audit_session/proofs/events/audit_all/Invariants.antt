use Rattle.audit_session.specs.Sessions.{standing_of}
use Rattle.audit_session.proofs.Auditing.{AuditedTo}
use Rattle.audit_session.proofs.events.audit_all.Given as goal

abbrev pub invariant-loop-word : goal.invariant-loop-word
invariant-loop-word l = AuditedTo (standing_of l.initial.words l.initial.log) l.script l.words l.log l.initial.out l.out l.end l.word-index
