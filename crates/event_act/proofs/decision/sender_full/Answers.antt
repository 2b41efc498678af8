-- Nothing sent and few messages need no count; otherwise the count decides.
use mathlib.Core.Path.{refl}
use Prim.Native.Nat.{ℕ, ◌+◌}
use native.Mathlib.Omega.{arith}
use borrow.Author.Tests.{ltb-true, ltb-false}
use Rattle.model.proofs.Laws.{clash}
use Rattle.answers.proofs.Valid.{long, room}
use Rattle.event_act.proofs.decision.sender_full.Goals as goal

pub returns-then-sent-eq0 : goal.returns-then-sent-eq0
returns-then-sent-eq0 c = record { full = record { over = λ e. clash e refl; within = λ e some more. absurd (omega (arith, c.if-sent-eq0.true)) } }

pub returns-then-all-le-SENDER : goal.returns-then-all-le-SENDER
returns-then-all-le-SENDER c = record { full = record { over = λ e. clash e refl; within = λ e some more. absurd (omega (arith, c.if-all-le-SENDER.true)) } }

pub sent_by-requires : goal.sent_by-requires
sent_by-requires c = record { words = (long _ c.requires.ring.0, omega (arith, c.requires.ring.1, room _ c.requires.ring.0), c.requires.ring.1) }

pub overflow_add-result : goal.overflow_add-result
overflow_add-result c =
    omega (arith, c.sent_by.ensures.bound, c.requires.ring.1, room _ c.requires.ring.0, c.requires.bounds)

pub returns : goal.returns
returns c = record {
  full =
      let counted = c.sent_by.ensures.value in
      let then : ℕ = c.sent_by.result + c.args.sent in
      record { over = λ e. omega (arith, counted, ltb-true 256 then e); within = λ e some more. omega (arith, counted, ltb-false 256 then e) };
}
