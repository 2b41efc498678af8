use mathlib.Core.Path.{◌≡◌}
use native.Mathlib.Omega.{arith}
use borrow.Author.Rules.{rules}
use Rattle.valid_messages.proofs.RestTests.{one_shifted, nothing_filled, more_filled, filled}
use Rattle.valid_messages.proofs.rests.of_receivers.Goals as goal

pub loop-b-init : goal.loop-b-init
loop-b-init c = (search rules, nothing_filled)

pub loop-b-preserved : goal.loop-b-preserved
loop-b-preserved c =
    let l = c.loop-b in (search rules, more_filled l.table l.b _ (omega arith) (one_shifted l.b (omega arith)) l.invariant.1)

pub returns : goal.returns
returns c = record {
  table =
      let l = c.loop-b in
      let e : l.b ≡ 24 = omega arith in
      filled l.table (rw e at l.invariant.1);
}
