use mathlib.Core.Path.{sym}
use Prim.Native.Nat.{ℕ, ◌-◌, ◌<◌}
use native.Mathlib.Omega.{arith}
use lib.ListN.{length-take}
use borrow.Author.Rules.{rules}
use Rattle.valid_nodes.proofs.Gather.{clear_none, clear_more}
use Rattle.valid_nodes.proofs.clear.clear.Goals as goal

pub loop-word-init : goal.loop-word-init
loop-word-init c = (search rules, sym (clear_none _ _))

pub loop-word-preserved : goal.loop-word-preserved
loop-word-preserved c =
    let l = c.loop-word in
    let h : l.word-index < c.args.to - c.args.from = omega (arith, length-take {A = ℕ}) in
    (omega arith, clear_more _ _ _ l.word-index l.met h l.invariant.1)
