use mathlib.Core.Path.{refl}
use native.Mathlib.Omega.{arith}
use borrow.Author.Rules.{rules}
use Rattle.model.specs.Reach as model
use Rattle.call_reach.proofs.Turns.{turn_first, turn_past, turn_over, turn_end}
use Rattle.call_reach.proofs.hops_to_last.Goals as goal

pub loop-i-init : goal.loop-i-init
loop-i-init c = (search rules, λ r a x from. turn_first from)

pub bounds-spans-i : goal.bounds-spans-i
bounds-spans-i c = omega (arith, c.loop-i.invariant.0, c.loop-i-test.true)

pub overflow_add-hops : goal.overflow_add-hops
overflow_add-hops c = record { fits = omega (arith, c.loop-i.invariant.0) }

pub loop-i-preserved-then-span-left : goal.loop-i-preserved-then-span-left
unfolding model.spans
loop-i-preserved-then-span-left c = (
  omega (arith, c.loop-i.invariant.0, c.loop-i-test.true),
  λ r a x from.
      turn_over from (c.loop-i.invariant.1 r a x from) (omega (arith, c.loop-i.invariant.0, c.loop-i-test.true)) (omega (arith, c.loop-i-test.true))
      c.if-span-left.true refl c.farthest-left.ensures.value,
)

pub loop-i-preserved : goal.loop-i-preserved
unfolding model.spans
loop-i-preserved c = (
  omega (arith, c.loop-i.invariant.0, c.loop-i-test.true),
  λ r a x from.
      turn_past from (c.loop-i.invariant.1 r a x from) (omega (arith, c.loop-i.invariant.0, c.loop-i-test.true))
      (omega (arith, c.loop-i-test.true)) c.if-span-left.false refl,
)

pub returns : goal.returns
returns c =
    let l = c.loop-i in
    record {
      hops = λ r a x from. turn_end from (l.invariant.1 r a x from) (omega (arith, c.loop-i-test.false));
      bound = omega (arith, l.invariant.0);
    }
