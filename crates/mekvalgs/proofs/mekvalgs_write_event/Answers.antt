use mathlib.Core.Path.{ap, ◌∙◌}
use Rattle.mekvalgs_event.specs.Parts.{parts_answer, write_parts}
use Rattle.mekvalgs.proofs.Unwrapped.{unwrapped}
use Rattle.mekvalgs.proofs.mekvalgs_write_event.Goals as goal

pub returns : goal.returns
returns c = record {
  answer = c.number.ensures.answer ∙ (c.write-written.ensures.answer ∙ ap parts_answer c.make.ensures.value);
  word = c.unwrap_or.ensures ∙ unwrapped c.write-written.result 0 ∙ c.write-written.ensures.word ∙ ap write_parts c.make.ensures.value;
}
