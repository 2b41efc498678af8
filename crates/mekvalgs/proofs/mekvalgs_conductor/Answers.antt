use mathlib.Core.Path.{refl, ◌∙◌}
use Rattle.mekvalgs.proofs.Unwrapped.{unwrapped}
use Rattle.mekvalgs.proofs.mekvalgs_conductor.Goals as goal

pub returns : goal.returns
returns c =
    record {
      answer = c.number.ensures.answer ∙ c.conductor-shown.ensures.answer;
      screen = c.put_screen.ensures.value ∙ c.unwrap_or-screen.ensures ∙ unwrapped c.conductor-shown.result c.empty_conductor.result
          ∙ rw c.empty_conductor.ensures.value refl ∙ c.conductor-shown.ensures.screen;
    }
