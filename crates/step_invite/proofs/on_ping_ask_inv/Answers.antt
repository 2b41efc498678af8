use mathlib.Core.Path.{ap, ◌∙◌}
use Rattle.model.specs.Steps as steps
use Rattle.leafset.proofs.Leaves.{leafset_back}
use Rattle.step_invite.proofs.Invited.{other_table}
use Rattle.step_invite.proofs.on_ping_ask_inv.Goals as goal

pub leafset-view-requires : goal.leafset-view-requires
leafset-view-requires c = record {
  table = other_table c.requires.lent.table c.requires.sender;
  sides = c.requires.lent.sides_room;
}

pub returns : goal.returns
unfolding steps.on_ping_ask_inv
returns c = record {
  effect =
      let a = c.args in
      let node = c.args.node.now in
      let table = other_table c.requires.lent.table c.requires.sender in
      λ time. c.replying.ensures.effect _ _ _ _ _ (c.add_candidate-next.ensures.record _ c.requires.lent.own_fits c.requires.sender)
      (record {
        message = c.viewing.ensures.message.message
            ∙ ap (steps.viewing 4 node.me.0 a.message.sender.0) (leafset_back node.sides table c.leafset-view.ensures.value);
        room = c.viewing.ensures.message.room;
      });
}
