use mathlib.Core.Path.{refl, ap, ◌∙◌}
use Rattle.model.specs.Screens.{empty_technician}
use Rattle.model.specs.declared.screen.ConductorScreen.{ConductorScreen}
use Rattle.model.specs.declared.screen.TechnicianScreen.{TechnicianScreen}
use Rattle.mekvalgs.proofs.Unwrapped.{unwrapped}
use Rattle.mekvalgs.proofs.mekvalgs_technician.Goals as goal

pub returns : goal.returns
unfolding empty_technician
returns c =
    let shown = c.technician-shown.ensures.shown in
    let screen : ConductorScreen → TechnicianScreen = λ s. record { conductor = s; candidates = c.unwrap_or-screen.result.candidates } in
    record {
      answer = c.number.ensures.answer ∙ c.technician-shown.ensures.answer;
      shown = (
        ap screen c.put_screen.ensures.value ∙ c.unwrap_or-screen.ensures ∙ unwrapped c.technician-shown.result _
            ∙ rw c.empty_conductor.ensures.value refl ∙ shown.0,
        shown.1,
        shown.2,
      );
    }
