use mathlib.Core.Bool.{false}
use Rattle.model.specs.Ring.{cleared}
use Rattle.ring_head.specs.Parts.{set_running, set_own, update}
use Rattle.ring_nodes.proofs.Updates.{is_twice, own_set}
use Rattle.ring_nodes.proofs.stop.Goals as goal

pub returns : goal.returns
returns c = record {
  ring =
      λ ρ m is.
      let x = c.args.x.0 in
      let f = set_running false in
      let running = c.set_running.ensures.ring ρ _ m is c.requires.words.2 in
      is_twice x f (set_own cleared) ρ
      (own_set (update x f ρ) _ _ m _ running c.requires.words.2 cleared _ _ (rw c.index-me.ensures.value at c.clear.ensures.value)
      (rw c.index-me.ensures.value at c.clear-2.ensures.value));
}
