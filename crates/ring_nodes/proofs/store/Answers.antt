use Rattle.model.specs.Structs.{own_of}
use Rattle.ring_head.specs.Parts.{set_clock, set_own, update}
use Rattle.ring_nodes.proofs.Updates.{is_twice, own_set}
use Rattle.ring_nodes.proofs.store.Goals as goal

pub returns : goal.returns
returns c = record {
  ring =
      λ ρ m is.
      let x = c.args.x.0 in
      let f = set_clock c.args.time.0 in
      let o = own_of c.args.own in
      let clock = c.set_clock.ensures.ring ρ _ m is c.requires.words.2 in
      is_twice x f (set_own o) ρ
      (own_set (update x f ρ) _ _ m _ clock c.requires.words.2 o _ _ (rw c.index-me.ensures.value at c.store.ensures.value)
      (rw c.index-me.ensures.value at c.store-2.ensures.value));
}
