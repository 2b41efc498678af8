use mathlib.Core.Path.{refl, sym}
use borrow.Author.Rules.{rules}
use Rattle.model.proofs.Given.{refuses_with}
use Rattle.call_refusals.proofs.Refused.{ring_reads}
use Rattle.call_screens.proofs.Shown.{all_cleared, technician_refused, stamps_refused, spares_refused, technician_given, stamps_given, spares_given}
use Rattle.call_screens.proofs.technician.Goals as goal

pub returns-in-Err : goal.returns-in-Err
returns-in-Err c =
    let number = c.in-Err.ensures.answer in
    let no = refuses_with _ number in
    let cleared = c.clear.ensures in
    record {
      answer = number;
      shown = (
        technician_refused _ no refl,
        stamps_refused _ no (all_cleared (search rules) cleared.stamps),
        spares_refused _ no (all_cleared (search rules) cleared.spares),
      );
    }

pub technician_of-requires-clause-ring : goal.technician_of-requires-clause-ring
technician_of-requires-clause-ring c = ring_reads _ (sym c.in_default.ensures.answer)

pub returns : goal.returns
returns c =
    let ok = sym c.in_default.ensures.answer in
    record {
      answer = c.in_default.ensures.answer;
      shown = (
        technician_given _ ok c.technician_of.ensures.screen,
        stamps_given _ ok c.technician_of.ensures.arrays.0,
        spares_given _ ok c.technician_of.ensures.arrays.1,
      );
    }
