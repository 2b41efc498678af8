use mathlib.Core.Path.{sym, ◌∙◌}
use borrow.Author.Tests.{le-ltb}
use native.Mathlib.Omega.{arith}
use Rattle.model.proofs.Laws.{is_false}
use Rattle.model.proofs.Bits.{bit_below}
use Rattle.audit_event.proofs.cause.is_member.Goals as goal

pub returns-else-z-lt64 : goal.returns-else-z-lt64
returns-else-z-lt64 c = record { value = le-ltb _ 64 c.if-z-lt64.false ∙ sym (is_false _ (λ t. absurd (omega (arith, bit_below 64 _ _ c.ranges.set.fits t)))) }
