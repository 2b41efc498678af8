use mathlib.Core.Path.{◌≡◌, ap}
use mathlib.Core.List.{List}
use Prim.Native.Nat.{ℕ, ◌+◌}
use native.Mathlib.Omega.{arith}
use Rattle.model.specs.Words.{decode_node, decode}
use Rattle.answers.proofs.Valid.{long, few, room, clock_high}
use Rattle.event_act.proofs.Actors.{acts_in_table, acts_below_last, loaded_fits, loaded_spare}
use Rattle.event_act.proofs.load.Goals as goal

pub nodes-n-requires : goal.nodes-n-requires
nodes-n-requires c = record { length = long _ c.requires.ring }

pub messages-m-requires : goal.messages-m-requires
messages-m-requires c = record { length = long _ c.requires.ring }

pub clock-clock-requires : goal.clock-clock-requires
clock-clock-requires c =
    record {
      length = long _ c.requires.ring;
      bounds = acts_in_table _ _ c.requires.actor;
    }

pub load-own-requires : goal.load-own-requires
load-own-requires c = record {
  words =
      let nodes = c.nodes-n.ensures.value in
      (long _ c.requires.ring, nodes, omega (arith, nodes, few _ c.requires.ring), omega (arith, nodes, acts_in_table _ _ c.requires.actor));
}

pub overflow_add-result : goal.overflow_add-result
overflow_add-result c =
    omega (arith, c.clock-clock.ensures.value, clock_high _ c.requires.ring c.args.x.0)

pub returns : goal.returns
unfolding decode decode_node
returns c = record {
  actor =
      let ws : List ℕ = c.args.words.now in
      let x : ℕ = c.args.x.0 in
      let n = c.nodes-n.ensures.value in
      let m = c.messages-m.ensures.value in
      let time : c.clock-clock.result.0 + 1 ≡ ((decode ws).node x).clock + 1 = ap (λ (k : ℕ). k + 1) c.clock-clock.ensures.value in
      record {
        nodes = n;
        few = omega (arith, n, few ws c.requires.ring);
        member = omega (arith, n, acts_in_table ws x c.requires.actor);
        count = m;
        room = omega (arith, m, room ws c.requires.ring);
        time = time;
        time_room = omega (arith, time, acts_below_last ws x c.requires.ring c.requires.actor);
        own = c.load-own.ensures.loaded.own;
        fits = rw n (loaded_fits ws x c.requires.ring _ c.load-own.ensures.loaded);
        spare_high = loaded_spare ws x c.requires.ring _ c.load-own.ensures.loaded;
      };
}
