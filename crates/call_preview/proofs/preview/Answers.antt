use mathlib.Core.Path.{refl, sym, ◌∙◌}
use borrow.Author.Tests.{eqb-true}
use Rattle.model.proofs.Given.{passed_on}
use Rattle.call_preview.proofs.Shown.{not_as_long, refused_shown, event_shown}
use Rattle.call_preview.proofs.preview.Goals as goal

-- 1 of the second buffer
pub returns-then-not-as_long : goal.returns-then-not-as_long
returns-then-not-as_long c = record {
  written = not_as_long _ _ _ (sym c.as_long.ensures.value ∙ c.if-not-as_long.true);
  ring = refl;
}

-- 1 of the ring; 4 and 5; 6
pub returns-in_err-event : goal.returns-in_err-event
returns-in_err-event c =
    let long = sym c.as_long.ensures.value ∙ c.if-not-as_long.false in
    record {
      written = refused_shown _ _ _ long (passed_on c.from_residual.result _ c.from_residual.ensures.1) c.in_err-event.ensures.admitted;
      ring = refl;
    }

pub preview_event-requires : goal.preview_event-requires
preview_event-requires c =
    record {
      ring = c.in_ok-event.ensures.admitted.reads;
      length = eqb-true _ _ (sym c.as_long.ensures.value ∙ c.if-not-as_long.false);
    }

-- the event
pub returns : goal.returns
returns c =
    let long = sym c.as_long.ensures.value ∙ c.if-not-as_long.false in
    record {
      written = c.preview_event.ensures.written ∙ event_shown _ _ _ long c.in_ok-event.ensures.admitted;
      ring = refl;
    }
