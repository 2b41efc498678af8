-- `continued` meets its contract: a token that fits gives its value, and with the last part the line gives; else the reader stops.
use mathlib.Core.Path.{sym, ap, ◌∙◌}
use native.Mathlib.Omega.{arith}
use Rattle.text_form.specs.Assemble.{silent, part_read}
use Rattle.text_reader.proofs.Readers.{misfit, fitted, unfitted, midway, at_last}
use Rattle.text_reader.proofs.Bounded.{parts_bounded}
use Rattle.text_reader.proofs.continued.Goals as goal

pub returns-in_default : goal.returns-in_default
returns-in_default c = record {
  value =
      let no = misfit _ _ (sym c.in_default.is ∙ c.value.ensures.value) in
      c.silent.ensures.value ∙ ap silent c.stopped.ensures.value ∙ unfitted c.args.reader c.args.token (rw c.expected.ensures.value at no);
}

pub returns-then-reader-arity : goal.returns-then-reader-arity
returns-then-reader-arity c = record {
  value =
      let fit = rw c.expected.ensures.value at (fitted _ (sym c.in-Some.is ∙ c.value.ensures.value)) in
      c.silent-then-reader-arity.ensures.value ∙ ap silent (c.part_read-after.ensures.value ∙ ap (part_read c.args.reader) fit.1)
      ∙ midway c.args.reader c.args.token fit.0 (omega (arith, c.if-reader-arity.true, c.arity.ensures.value));
}

pub given-requires : goal.given-requires
given-requires c = record {
  parts =
      let fit = rw c.expected.ensures.value at (fitted _ (sym c.in-Some.is ∙ c.value.ensures.value)) in
      rw fit.1 (parts_bounded c.args.reader c.requires.bounds.0 c.requires.bounds.1 c.args.token fit.0
      (omega (arith, c.if-reader-arity.false, c.arity.ensures.value)));
}

pub returns : goal.returns
returns c = record {
  value =
      let fit = rw c.expected.ensures.value at (fitted _ (sym c.in-Some.is ∙ c.value.ensures.value)) in
      rw (c.part_read-after.ensures.value, c.given.ensures.value)
      (rw fit.1 (at_last c.args.reader c.args.token fit.0 (omega (arith, c.if-reader-arity.false, c.arity.ensures.value))));
}
