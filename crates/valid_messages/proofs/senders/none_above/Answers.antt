use mathlib.Core.Path.{refl, ap}
use Prim.Native.Nat.{ℕ, zero-le, ◌<◌}
use native.Mathlib.Omega.{arith}
use lib.Dec.{leb}
use lib.ListN.{get_or, length-take}
use lib.Seq.{get_or-take}
use Rattle.model.specs.Sets.{all}
use Rattle.valid_nodes.proofs.Gather.{all_more}
use Rattle.valid_messages.proofs.senders.none_above.Goals as goal

pub loop-count-init : goal.loop-count-init
unfolding all
loop-count-init c = (zero-le, refl)

pub loop-count-preserved : goal.loop-count-preserved
loop-count-preserved c =
    let l = c.loop-count in
    let h : l.count-index < c.args.n = omega (arith, length-take {A = ℕ}) in (
      omega arith,
      all_more (λ y. leb (get_or c.args.counts.now y 0) c.args.most) l.count-index l.ok _ l.invariant.1
          (ap (λ (k : ℕ). leb k c.args.most) (get_or-take c.args.n c.args.counts.now l.count-index 0 h)),
    )
