use mathlib.Core.Path.{◌≡◌}
use lib.ListN.{length}
use Rattle.audit_lines.proofs.Lines.{PutTo}
use Rattle.audit_lines.proofs.put_entries.Given as goal

abbrev pub invariant-loop-entry : goal.invariant-loop-entry
invariant-loop-entry l = PutTo l.initial.out l.out l.at l.end l.entries l.entry-index × (length l.out ≡ length l.initial.out)
