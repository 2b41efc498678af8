use mathlib.Core.Path.{sym}
use Rattle.model.specs.Steps as steps
use Rattle.model.specs.Structs.{own_of, message_of}
use Rattle.records.specs.Effects.{Leaves}
use Rattle.answers.proofs.Valid.{long}
use Rattle.event_act.proofs.Lent.{keys_many, of_table, lent}
use Rattle.event_message.proofs.step.Goals as goal

pub sides-sides-requires : goal.sides-sides-requires
sides-sides-requires c = record { length = long _ c.requires.ring.0 }

pub keys-keys-requires : goal.keys-keys-requires
keys-keys-requires c = record {
  words =
      let is = c.requires.ring.1 in
      (long _ c.requires.ring.0, is.nodes, is.few);
}

pub slice_bounds-node-end : goal.slice_bounds-node-end
slice_bounds-node-end c = sym (keys_many c.requires.ring.1 _ c.keys-keys.ensures.keys.0)

pub deliver-requires : goal.deliver-requires
deliver-requires c =
    let is = c.requires.ring.1 in
    let keys = c.keys-keys.ensures.keys.0 in
    record {
      lent = lent is _ keys c.sides-sides.ensures.value;
      message = (is.time_room, rw (keys_many is _ keys) c.requires.ring.2);
    }

pub returns : goal.returns
returns c = record {
  effect =
      let a = c.args in
      of_table c.requires.ring.1 _ c.keys-keys.ensures.keys.0
      (λ n t.
      Leaves n a.message.receiver.0 a.actor.time.0 c.deliver.result
      (steps.deliver t a.message.receiver.0 a.actor.time.0 (own_of a.actor.own) (message_of a.message)))
      c.sides-sides.ensures.value c.deliver.ensures.effect;
}
