use mathlib.Core.Path.{◌≡◌}
use Prim.Native.Nat.{zero-le}
use native.Mathlib.Omega.{arith}
use borrow.Author.Rules.{rules}
use Rattle.valid_messages.proofs.RestTests.{none_met, more_met, met_joined}
use Rattle.valid_messages.proofs.rests.nothing_wrong.Goals as goal

pub loop-k-init : goal.loop-k-init
loop-k-init c = (zero-le, none_met _ _ _ _ 0 1879048192, none_met _ _ _ _ 1 2147483648, none_met _ _ _ _ 2 2147483648, none_met _ _ _ _ 3 2147483648)

pub loop-k-preserved : goal.loop-k-preserved
loop-k-preserved c =
    let l = c.loop-k in (
      search rules,
      more_met _ _ _ _ l.k 0 1879048192 l.stamp _ l.invariant.1 (c.wrong-stamp.ensures.value, c.wrong-stamp.ensures.small),
      more_met _ _ _ _ l.k 1 2147483648 l.low _ l.invariant.2 (c.wrong-low.ensures.value, c.wrong-low.ensures.small),
      more_met _ _ _ _ l.k 2 2147483648 l.middle _ l.invariant.3 (c.wrong-middle.ensures.value, c.wrong-middle.ensures.small),
      more_met _ _ _ _ l.k 3 2147483648 l.high _ l.invariant.4 (c.wrong-high.ensures.value, c.wrong-high.ensures.small),
    )

pub returns : goal.returns
returns c =
    let l = c.loop-k in
    let a = c.args in
    let e : l.k ≡ a.m = omega arith in
    let all_met = rw e at (met_joined a.words.now a.base a.types.now a.receivers.now l.k l.stamp l.low l.middle l.high
    l.invariant.1 l.invariant.2 l.invariant.3 l.invariant.4) in
    record { value = all_met.0; small = all_met.1 }
