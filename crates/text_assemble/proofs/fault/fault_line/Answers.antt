-- `fault_line` meets its contract: each return is a case of the definition, by its test.
use native.Mathlib.Omega.{arith}
use mathlib.Core.Bool.{◌&&◌}
use lib.Dec.{eqb, ltb}
use borrow.Author.Tests.{ltb-true}
use Rattle.model.proofs.Laws.{and_right}
use Rattle.text_assemble.specs.Faults.{fault_line}
use Rattle.text_assemble.proofs.fault.fault_line.Goals as goal

pub overflow_sub-result : goal.overflow_sub-result
overflow_sub-result c =
    omega (
      arith,
      ltb-true 1 c.args.reader.line
          (and_right (eqb c.args.reader.place 0 && eqb c.args.reader.token 0) (ltb 1 c.args.reader.line)
          c.if-reader.true),
    )

pub returns-then-reader : goal.returns-then-reader
unfolding fault_line
returns-then-reader c = record { value = rw c.if-reader.true }

pub returns : goal.returns
unfolding fault_line
returns c = record { value = rw c.if-reader.false }
