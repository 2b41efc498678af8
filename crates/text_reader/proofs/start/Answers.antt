-- `start` meets its contract: by definition.
use mathlib.Core.Path.{refl}
use Rattle.text_form.specs.Assemble.{start}
use Rattle.text_reader.proofs.start.Goals as goal

pub returns : goal.returns
unfolding start
returns c = record { value = refl }
