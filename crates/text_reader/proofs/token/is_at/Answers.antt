-- `is_at` meets its contract: the name computes to its token.
use mathlib.Core.Path.{refl}
use Rattle.text_form.specs.Assemble.{packed, grown}
use Rattle.text_reader.proofs.token.is_at.Goals as goal

pub returns : goal.returns
unfolding packed grown
returns c = record { value = refl }
