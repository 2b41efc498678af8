-- `line_ended` meets its contract: each early return is a case of the definition, by its test.
use mathlib.Core.Path.{sym, ◌∙◌}
use Rattle.text_reader.proofs.Readers.{line_at_fault, line_stopped, line_ended_lem}
use Rattle.text_reader.proofs.line_ended.Goals as goal

pub returns-then-reader : goal.returns-then-reader
returns-then-reader c = record { value = line_at_fault _ c.if-reader.true }

pub returns-then-not-complete : goal.returns-then-not-complete
returns-then-not-complete c = record {
  value =
      c.stopped.ensures.value ∙ line_stopped _ c.if-reader.false
      (sym c.complete.ensures.value ∙ c.if-not-complete.true);
}

pub returns : goal.returns
returns c = record { value = line_ended_lem _ c.if-reader.false (sym c.complete.ensures.value ∙ c.if-not-complete.false) }
