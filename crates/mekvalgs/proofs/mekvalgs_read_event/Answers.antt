use mathlib.Core.Path.{refl, ◌∙◌}
use Rattle.mekvalgs.proofs.Unwrapped.{unwrapped}
use Rattle.mekvalgs.proofs.mekvalgs_read_event.Goals as goal

pub returns : goal.returns
returns c = record {
  answer = c.number.ensures.answer ∙ c.read-read.ensures.answer;
  parts = c.unwrap_or-p.ensures ∙ unwrapped c.read-read.result c.make.result ∙ rw c.make.ensures.value refl ∙ c.read-read.ensures.parts;
}
