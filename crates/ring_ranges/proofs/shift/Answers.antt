use mathlib.Core.Path.{◌≡◌, refl}
use Prim.Native.Nat.{◌+◌, ◌-◌}
use native.Mathlib.Omega.{arith}
use lib.ListN.{length}
use borrow.Author.Rules.{rules}
use Rattle.ring_ranges.proofs.Patches.{patched_none, patched_more}
use Rattle.ring_ranges.proofs.shift.Goals as goal

pub loop-i-init : goal.loop-i-init
loop-i-init c = (search rules, search rules, search rules, patched_none _ _ _)

pub loop-i-preserved : goal.loop-i-preserved
loop-i-preserved c =
    let l = c.loop-i in
    (search rules, l.invariant.1, l.invariant.2, patched_more _ _ _ _ _ _ _ l.invariant.3 (search rules) (search rules) (l.invariant.3.high (l.i + 5) (omega arith)) refl)

pub returns : goal.returns
returns c = record {
  value =
      let l = c.loop-i in
      let e : l.i ≡ length c.args.part.now - 5 = omega (arith, l.invariant.1) in
      rw e at l.invariant.3;
}
