use mathlib.Core.Path.{sym, ap, ◌∙◌}
use Rattle.model.specs.Events.{event_answer, write_event}
use Rattle.mekvalgs_event.proofs.Numbers.{write_refused, write_given}
use Rattle.mekvalgs_event.proofs.write.Goals as goal

pub returns-then-not-fit : goal.returns-then-not-fit
returns-then-not-fit c =
    let p = c.args.p in
    let q = write_refused p.kind p.first p.second (sym c.fit.ensures.value ∙ c.if-not-fit.true) in record {
      answer = q.0;
      word = q.1;
    }

pub event-requires : goal.event-requires
event-requires c = record { parts = sym c.fit.ensures.value ∙ c.if-not-fit.false }

pub returns : goal.returns
returns c =
    let q = write_given c.args.p.kind c.args.p.first c.args.p.second (sym c.fit.ensures.value ∙ c.if-not-fit.false) in record {
      answer = c.write_event.ensures.answer ∙ ap event_answer c.event.ensures.value ∙ q.0;
      word = c.write_event.ensures.word ∙ ap write_event c.event.ensures.value ∙ q.1;
    }
