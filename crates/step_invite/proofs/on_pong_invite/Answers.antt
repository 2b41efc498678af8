use mathlib.Core.Path.{sym, ◌∙◌}
use Rattle.model.specs.Steps as steps
use Rattle.records.proofs.Changes.{unchanged}
use Rattle.step_invite.proofs.Invited.{with_table, near_test}
use Rattle.step_invite.proofs.on_pong_invite.Goals as goal

pub leafset-near-requires : goal.leafset-near-requires
leafset-near-requires c =
    let a = c.args in record {
      table = with_table a.node.now.sides c.requires.lent.table a.message.sender.0 _ c.with.ensures.members c.requires.message.1;
      sides = c.requires.lent.sides_room;
    }

pub returns-then-not-has : goal.returns-then-not-has
unfolding steps.on_pong_invite
returns-then-not-has c = record {
  effect =
      let a = c.args in
      let near = near_test a.node.now.sides c.requires.lent.table a.message.sender.0 _
      c.with.ensures.members c.requires.message.1 _ c.leafset-near.ensures.value
      in
      rw (sym near ∙ sym c.has.ensures.value ∙ c.if-not-has.true)
      (c.quiet.ensures.effect _ _ _ _ (unchanged c.requires.lent.own_fits));
}

pub returns : goal.returns
unfolding steps.on_pong_invite
returns c = record {
  effect =
      let a = c.args in
      let near = near_test a.node.now.sides c.requires.lent.table a.message.sender.0 _
      c.with.ensures.members c.requires.message.1 _ c.leafset-near.ensures.value
      in
      rw (sym near ∙ sym c.has.ensures.value ∙ c.if-not-has.false)
      (c.quiet-2.ensures.effect _ _ _ _ (c.hold.ensures.record _ c.requires.lent.own_fits c.requires.message.1));
}
