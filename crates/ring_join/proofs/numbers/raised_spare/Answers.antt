-- None stays, a node rises: by the test on the whole word, whose other bits are known.
use native.Mathlib.Omega.{arith}
use Rattle.ring_join.proofs.Raises.{spare_stays, spare_rises, spare_low}
use Rattle.ring_join.proofs.numbers.raised_spare.Goals as goal

pub returns-then-word-eq-NONE : goal.returns-then-word-eq-NONE
returns-then-word-eq-NONE c = record { value = spare_stays _ _ c.requires.spare.2 c.if-word-eq-NONE.true }

pub overflow_add-result : goal.overflow_add-result
overflow_add-result c =
    omega (arith, spare_low c.args.n c.args.word c.requires.spare.2 c.requires.spare.1, c.requires.spare.0)

pub returns : goal.returns
returns c = record { value = spare_rises _ _ c.requires.spare.2 c.if-word-eq-NONE.false }
