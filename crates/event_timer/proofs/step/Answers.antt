use mathlib.Core.Path.{sym}
use Rattle.model.specs.Steps as steps
use Rattle.model.specs.Structs.{own_of}
use Rattle.records.specs.Effects.{Leaves}
use Rattle.answers.proofs.Valid.{long}
use Rattle.event_act.proofs.Lent.{keys_many, of_table, lent}
use Rattle.event_timer.proofs.step.Goals as goal

pub sides-sides-requires : goal.sides-sides-requires
sides-sides-requires c = record { length = long _ c.requires.ring }

pub keys-keys-requires : goal.keys-keys-requires
keys-keys-requires c = record { words = (long _ c.requires.ring, c.requires.actor.nodes, c.requires.actor.few) }

pub slice_bounds-node-end : goal.slice_bounds-node-end
slice_bounds-node-end c = sym (keys_many c.requires.actor _ c.keys-keys.ensures.keys.0)

pub timer-requires : goal.timer-requires
timer-requires c = record {
  lent =
      let keys = c.keys-keys.ensures.keys.0 in
      lent c.requires.actor _ keys c.sides-sides.ensures.value;
}

pub returns : goal.returns
returns c = record {
  effect =
      let a = c.args in
      of_table c.requires.actor _ c.keys-keys.ensures.keys.0
      (λ n t. Leaves n a.x.0 a.actor.time.0 c.timer.result (steps.timer t a.x.0 a.actor.time.0 (own_of a.actor.own) a.k))
      c.sides-sides.ensures.value (c.timer.ensures.effect a.actor.time.0);
}
