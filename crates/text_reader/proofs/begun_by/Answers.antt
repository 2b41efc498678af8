-- `begun_by` meets its contract: a line that may not come stops the reader; else the calls give the parts of the new one.
use mathlib.Core.Path.{sym, ap, ◌∙◌}
use Rattle.text_form.specs.Assemble.{silent, begun_by}
use Rattle.text_reader.proofs.begun_by.Goals as goal

pub returns-then-not-allowed : goal.returns-then-not-allowed
unfolding begun_by
returns-then-not-allowed c = record {
  value = rw (sym c.allowed.ensures.value ∙ c.if-not-allowed.true) (c.silent.ensures.value ∙ ap silent c.stopped.ensures.value);
}

pub returns : goal.returns
unfolding begun_by
returns c = record {
  value =
      rw (sym c.allowed.ensures.value ∙ c.if-not-allowed.false)
      (rw (c.stage_after.ensures.value, c.opening-given.ensures.value, c.opens.ensures.value));
}
