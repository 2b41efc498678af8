use mathlib.Core.Path.{◌∙◌}
use Rattle.text_describe.proofs.Openings.{opens_as}
use Rattle.text_describe.proofs.opening.opens.Goals as goal

pub returns : goal.returns
returns c = record { value = c.is_ok.ensures.value ∙ opens_as c.open_script.result _ _ c.open_script.ensures.written }
