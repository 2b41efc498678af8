use mathlib.Core.Logic.{inl, inr}
use native.Mathlib.Omega.{arith}
use native.Mathlib.Decide.{dec_lt}
use Rattle.call_reach.proofs.Passes.{greatest_none, greatest_more}
use Rattle.call_reach.proofs.farthest.Goals as goal
use Rattle.call_reach.proofs.farthest.Goals.{then-d-limit, else-d-limit}

pub loop-d-init : goal.loop-d-init
loop-d-init c = greatest_none _ _

pub loop-d-preserved : goal.loop-d-preserved
loop-d-preserved c =
    greatest_more c.loop-d.invariant
    (elim c.if-d-limit.branch [
      | then-d-limit w ↦ inl (w.if-d-limit.true, w.near-is)
      | else-d-limit w ↦ inr (w.if-d-limit.false, w.near-is)
    ])
    (elim (dec_lt c.loop-d.best c.if-d-limit.near) [
      | yes more ↦ inl (more, grind (arith, c.max-best.ensures))
      | no less ↦ inr (omega arith, grind (arith, c.max-best.ensures))
    ])
