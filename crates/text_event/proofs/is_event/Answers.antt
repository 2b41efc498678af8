use mathlib.Core.Path.{sym, ap, ◌∙◌}
use Rattle.model.specs.Events.{read_event, reading_of}
use Rattle.text_event.proofs.Texts.{not_an_event, read_as_event}
use Rattle.text_event.proofs.is_event.Goals as goal

pub returns-in-Ok : goal.returns-in-Ok
unfolding read_event
returns-in-Ok c = record {
  value = read_as_event _ 0 (ap (λ r. (reading_of r).answer) (sym c.in-Ok.is) ∙ ap (λ r. r.answer) c.read_event.ensures.value);
}

pub returns-in-Err : goal.returns-in-Err
unfolding read_event
returns-in-Err c = record {
  value =
      c.ne.ensures ∙ not_an_event c.in-Err.refusal
      ∙ read_as_event _ _ (ap (λ r. (reading_of r).answer) (sym c.in-Err.is) ∙ ap (λ r. r.answer) c.read_event.ensures.value);
}
