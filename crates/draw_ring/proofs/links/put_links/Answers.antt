use mathlib.Core.Path.{◌≡◌, ap}
use native.Mathlib.Omega.{arith}
use lib.ListN.{length, take, length-take}
use Rattle.model.specs.declared.values.NodeNumber.{NodeNumber}
use Rattle.draw_ring.proofs.links.put_links.Goals as goal

pub put_links_of-end-requires : goal.put_links_of-end-requires
put_links_of-end-requires c = record {
  nodes =
      let i = c.loop-x.invariant in
      let e = ap (λ (x : NodeNumber). x.0) c.as_holder-holder.ensures.node in
      let keys = length c.args.keys.now in
      let few : length (take keys c.args.groups.now) ≡ keys = simp length-take (omega (arith, c.requires.scene.0.few, c.requires.scene.2)) in (
        c.requires.scene.0.long,
        omega (arith, c.requires.scene.0.few, c.requires.scene.1),
        omega (arith, e, few, c.requires.scene.1, c.loop-x-test.true),
        omega (arith, i.1, i.2, few, c.requires.scene.3, c.loop-x-test.true),
      );
}
