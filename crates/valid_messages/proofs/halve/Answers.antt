use mathlib.Core.Path.{◌≡◌}
use Prim.Native.Nat.{zero-le}
use native.Mathlib.Omega.{arith}
use lib.ListN.{length-set}
use borrow.Author.Rules.{rules}
use Rattle.valid_messages.proofs.MessageTests.{no_halves, more_halves}
use Rattle.valid_messages.proofs.halve.Goals as goal

pub loop-k-init : goal.loop-k-init
loop-k-init c = (zero-le, search rules, search rules, no_halves _ _ _ _ _)

pub loop-k-preserved : goal.loop-k-preserved
loop-k-preserved c =
    let l = c.loop-k in
    let a = c.args in (
      search rules,
      simp length-set l.invariant.1,
      simp length-set l.invariant.2,
      rw c.upper.ensures.value (more_halves a.words.now a.base a.from l.lows l.highs l.k (omega arith) (omega arith) l.invariant.3),
    )

pub returns : goal.returns
returns c = record {
  halves =
      let l = c.loop-k in
      let done : l.k ≡ c.args.count = omega arith in
      rw done at l.invariant.3;
}
