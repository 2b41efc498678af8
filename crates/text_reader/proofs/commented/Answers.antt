-- `commented` meets its contract: one field is set, by definition.
use mathlib.Core.Path.{refl}
use Rattle.text_form.specs.Assemble.{commented}
use Rattle.text_reader.proofs.commented.Goals as goal

pub returns : goal.returns
unfolding commented
returns c = record { value = refl }
