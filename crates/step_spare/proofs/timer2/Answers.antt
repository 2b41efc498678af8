use lib.Dec.{lit<}
use Rattle.model.specs.Sets.{of_bits}
use Rattle.model.specs.Steps as steps
use Rattle.sets.proofs.Bits.{within_part}
use Rattle.records.proofs.Changes.{unchanged}
use Rattle.records.proofs.Calls.{calls}
use Rattle.step_spare.proofs.timer2.Goals as goal

pub returns : goal.returns
unfolding steps.timer2
returns c = record {
  effect =
      let node = c.args.node.now in
      λ time.
      c.sending.ensures.effect _ _ time _ _ (unchanged c.requires.lent.own_fits)
      (calls node.me.0 time _ _ _ c.requires.lent.table.few
      (within_part _ _ (of_bits node.own.now.held) _ c.requires.lent.table.within c.outside-outside.ensures.members)
      c.outside-outside.ensures.members 7 (lit< tt));
}
