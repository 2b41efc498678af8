-- `begun` meets its contract: the token names a command, or not.
use mathlib.Core.Path.{sym, ap, ◌∙◌}
use Rattle.text_form.specs.Assemble.{silent, begun}
use Rattle.text_reader.proofs.begun.Goals as goal

pub returns-in-Some : goal.returns-in-Some
unfolding begun
returns-in-Some c = record { value = rw (sym c.command_of.ensures.value, c.in-Some.is) c.begun_by.ensures.value }

pub returns-in-None : goal.returns-in-None
unfolding begun
returns-in-None c = record {
  value = rw (sym c.command_of.ensures.value, c.in-None.is) (c.silent.ensures.value ∙ ap silent c.stopped.ensures.value);
}
