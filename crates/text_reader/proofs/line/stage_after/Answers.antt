-- `stage_after` meets its contract: each arm is a case of the definition.
use Rattle.text_form.specs.Assemble.{stage_after}
use Rattle.text_reader.proofs.Readers.{other_stage}
use Rattle.text_reader.proofs.line.stage_after.Goals as goal

pub returns-in-Sides : goal.returns-in-Sides
unfolding stage_after
returns-in-Sides c = record { value = rw c.in-Sides.is }

pub returns-in-Keys : goal.returns-in-Keys
unfolding stage_after
returns-in-Keys c = record { value = rw c.in-Keys.is }

pub returns-in-Tail : goal.returns-in-Tail
unfolding stage_after
returns-in-Tail c = record { value = rw c.in-Tail.is }

pub returns-in_default : goal.returns-in_default
returns-in_default c = record { value = other_stage _ c.in_default.not-Sides c.in_default.not-Keys c.in_default.not-Tail }
