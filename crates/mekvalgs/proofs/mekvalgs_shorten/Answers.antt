-- The call gives the definition's answer, length and place; the answer here is its number.
use mathlib.Core.Path.{refl, ◌∙◌}
use Rattle.mekvalgs.proofs.Unwrapped.{unwrapped}
use Rattle.mekvalgs.proofs.mekvalgs_shorten.Goals as goal

pub returns : goal.returns
returns c = record {
  edition = rw (c.number.ensures.answer, c.unwrap_or.ensures ∙ unwrapped c.shorten-shortened.result 0) c.shorten-shortened.ensures.short;
  ring = refl;
}
