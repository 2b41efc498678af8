use mathlib.Core.Path.{ap, ◌∙◌}
use Prim.Native.Nat.{◌^◌, ◌<◌}
use native.Mathlib.Omega.{arith}
use Rattle.model.specs.Leafset.{closest}
use Rattle.model.specs.Structs.{table_of}
use Rattle.model.specs.Sets.{of_bits}
use Rattle.model.specs.Steps as steps
use Rattle.records.proofs.Changes.{unchanged}
use Rattle.leafset_choice.proofs.Spare.{closest_room}
use Rattle.model.specs.declared.values.NodeNumber.{NodeNumber}
use Rattle.sets.proofs.Numbers.{unwrapped}
use Rattle.step_spare.proofs.on_ping_ask_repl.Goals as goal

pub naming-requires : goal.naming-requires
naming-requires c = record {
  bounds =
      let a = c.args in
      let node = c.args.node.now in
      let held = of_bits node.own.now.held in
      let room : closest (table_of node.sides node.keys.now) node.me.0 held a.message.sender.0 < 2 ^ 7 =
      closest_room node.sides node.keys.now node.me.0 held a.message.sender.0 c.requires.lent.table.few
      in (
        omega arith,
        omega arith,
        omega arith,
        omega (arith, ap (λ (y : NodeNumber). y.0) c.unwrap_or-spare.ensures ∙ unwrapped c.closest.result ∙ c.closest.ensures.value),
      );
}

pub returns : goal.returns
unfolding steps.on_ping_ask_repl
returns c = record {
  effect =
      let a = c.args in
      let node = c.args.node.now in
      λ time. c.replying.ensures.effect _ _ _ _ _ (unchanged c.requires.lent.own_fits) (record {
        message = c.naming.ensures.message.message ∙ ap (steps.naming 8 node.me.0 a.message.sender.0)
            (ap (λ (y : NodeNumber). y.0) c.unwrap_or-spare.ensures ∙ unwrapped c.closest.result ∙ c.closest.ensures.value);
        room = c.naming.ensures.message.room;
      });
}
