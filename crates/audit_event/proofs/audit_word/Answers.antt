use mathlib.Core.Path.{sym, subst}
use Rattle.audit_event.specs.Kept.{Grouped}
use Rattle.audit_event.proofs.audit_word.Goals as goal

pub returns : goal.returns
returns c =
    record {
      audits = λ s k g. c.report.ensures.audits s (c.play-answer.ensures.noted s k) (subst (Grouped s) (sym c.play-answer.ensures.lists.1) g);
      end = c.report.ensures.end;
    }
