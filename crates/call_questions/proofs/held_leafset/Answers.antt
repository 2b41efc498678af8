use mathlib.Core.Path.{sym}
use mathlib.Core.List.{List}
use Prim.Native.Nat.{ℕ}
use native.Mathlib.Omega.{arith}
use lib.ListN.{length-take}
use Rattle.ring_head.proofs.ReadRing.{table_sides_room}
use Rattle.answers.proofs.Valid.{long, few}
use Rattle.call_questions.proofs.Held.{held_in_table, held_leafset}
use Rattle.call_questions.proofs.held_leafset.Goals as goal

pub nodes-n-requires : goal.nodes-n-requires
nodes-n-requires c = record { length = long c.args.words.now c.requires.ring }

pub keys-keys-requires : goal.keys-keys-requires
keys-keys-requires c = record {
  words =
      let ws : List ℕ = c.args.words.now in
      let e = c.nodes-n.ensures.value in
      (long ws c.requires.ring, e, omega (arith, few ws c.requires.ring));
}

pub sides-sides-requires : goal.sides-sides-requires
sides-sides-requires c = record { length = long c.args.words.now c.requires.ring }

pub load-own-requires : goal.load-own-requires
load-own-requires c = record {
  words =
      let ws : List ℕ = c.args.words.now in
      let e = c.nodes-n.ensures.value in
      (long ws c.requires.ring, e, omega (arith, few ws c.requires.ring), omega (arith, c.requires.bounds));
}

pub slice_bounds-keys-end : goal.slice_bounds-keys-end
slice_bounds-keys-end c =
    omega (arith, few c.args.words.now c.requires.ring, c.keys-keys.ensures.places, c.nodes-n.ensures.value)

pub slice_bounds-leafset-end : goal.slice_bounds-leafset-end
slice_bounds-leafset-end c =
    let few_nodes = few c.args.words.now c.requires.ring in
    sym (simp length-take (omega (arith, few_nodes, c.keys-keys.ensures.places, c.nodes-n.ensures.value)))

pub leafset-requires : goal.leafset-requires
leafset-requires c =
    let ws : List ℕ = c.args.words.now in
    record {
      table = held_in_table ws c.requires.ring c.args.x.0 c.keys-keys.ensures.keys.0 c.load-own.ensures.loaded c.requires.bounds;
      sides = rw c.sides-sides.ensures.value (table_sides_room ws);
    }

pub returns : goal.returns
returns c = record {
  value =
      held_leafset c.args.words.now c.requires.ring c.args.x.0
      c.keys-keys.ensures.keys.0 c.load-own.ensures.loaded
      c.sides-sides.ensures.value c.leafset.ensures.value;
}
