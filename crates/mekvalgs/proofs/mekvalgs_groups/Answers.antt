use mathlib.Core.Path.{◌∙◌}
use Rattle.mekvalgs.proofs.Unwrapped.{unwrapped}
use Rattle.mekvalgs.proofs.mekvalgs_groups.Goals as goal

pub returns : goal.returns
returns c = record {
  answer = c.number.ensures.answer ∙ c.groups-asked.ensures.answer;
  groups = c.unwrap_or.ensures ∙ unwrapped c.groups-asked.result 0 ∙ c.groups-asked.ensures.groups;
}
