-- `closed` meets its contract: each stage is a case of the definition.
use mathlib.Core.Path.{ap, ◌∙◌}
use Rattle.text_form.specs.Assemble.{silent}
use Rattle.text_reader.proofs.Readers.{closed_at_fault, closed_silent, closed_sides, closed_keys}
use Rattle.text_reader.proofs.closed.Goals as goal

pub returns-then-reader : goal.returns-then-reader
returns-then-reader c = record { value = c.silent.ensures.value ∙ closed_at_fault _ c.if-reader.true }

pub returns-in-Start : goal.returns-in-Start
returns-in-Start c = record { value = c.silent-in-Start.ensures.value ∙ closed_silent _ c.if-reader.false c.in-Start.is }

pub returns-in-Sides : goal.returns-in-Sides
returns-in-Sides c = record { value = c.silent-in-Sides.ensures.value ∙ ap silent c.stopped.ensures.value ∙ closed_sides _ c.if-reader.false c.in-Sides.is }

pub returns-in-Keys : goal.returns-in-Keys
returns-in-Keys c = record { value = closed_keys _ c.if-reader.false c.in-Keys.is }
