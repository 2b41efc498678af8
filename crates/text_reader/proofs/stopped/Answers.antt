-- `stopped` meets its contract: one field is set, by definition.
use mathlib.Core.Path.{refl}
use Rattle.text_form.specs.Assemble.{stopped}
use Rattle.text_reader.proofs.stopped.Goals as goal

pub returns : goal.returns
unfolding stopped
returns c = record { value = refl }
