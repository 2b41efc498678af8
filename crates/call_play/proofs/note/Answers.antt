use mathlib.Core.Path.{sym, ap}
use native.Mathlib.Omega.{arith}
use lib.ListN.{set}
use lib.Seq.{set_out}
use Rattle.model.proofs.Cases.{answer_low}
use Rattle.call_play.proofs.note.Goals as goal

pub overflow_cast-answers : goal.overflow_cast-answers
overflow_cast-answers c = omega (arith, answer_low c.args.answer, c.number.ensures.answer)

pub returns-then-i-answers : goal.returns-then-i-answers
returns-then-i-answers c = record { answer = ap (set c.args.answers.now c.args.i) c.number.ensures.answer }

pub returns-else-i-answers : goal.returns-else-i-answers
returns-else-i-answers c = record { answer = sym (set_out _ _ _ c.if-i-answers.false) }
