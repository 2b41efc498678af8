-- None stays, a node rises: by the test.
use mathlib.Core.Path.{sym, ◌∙◌}
use borrow.Author.Tests.{eqb-true, eqb-false}
use Rattle.ring_join.proofs.Raises.{none_stays, node_rises}
use Rattle.ring_join.proofs.numbers.raised.Goals as goal

pub returns-then-eq : goal.returns-then-eq
returns-then-eq c = record { value = none_stays _ _ (eqb-true _ _ (sym c.eq.ensures ∙ c.if-eq.true)) }

pub returns : goal.returns
returns c = record { value = node_rises _ _ (eqb-false _ _ (sym c.eq.ensures ∙ c.if-eq.false)) }
