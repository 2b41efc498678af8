use Rattle.audit_event.proofs.Notes.{begun_few}
use Rattle.audit_event.proofs.note.settled.Goals as goal

pub returns-then-point-clause-bounds : goal.returns-then-point-clause-bounds
returns-then-point-clause-bounds c = begun_few c.begun.ensures.value c.requires.bounds
