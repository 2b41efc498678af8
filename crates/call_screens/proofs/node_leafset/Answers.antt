use mathlib.Core.Path.{ap}
use mathlib.Core.List.{List}
use Prim.Native.Nat.{ℕ}
use native.Mathlib.Omega.{arith}
use lib.ListN.{length}
use Rattle.ring_head.proofs.ReadRing.{table_sides_room}
use Rattle.answers.proofs.Valid.{long, few}
use Rattle.call_questions.proofs.Held.{held_in_table, held_leafset}
use Rattle.call_screens.proofs.Shown.{leafset_off, leafset_shown}
use Rattle.call_screens.proofs.node_leafset.Goals as goal

pub is_running-requires : goal.is_running-requires
is_running-requires c = record {
  length = long _ c.requires.ring;
  bounds = c.requires.table.2;
}

pub returns-then-not-is_running : goal.returns-then-not-is_running
returns-then-not-is_running c = record { value = leafset_off _ _ c.is_running.ensures.value c.if-not-is_running.true }

pub load-own-requires : goal.load-own-requires
load-own-requires c = record {
  words =
      let n = ap length c.requires.table.0 in
      (long _ c.requires.ring, n, omega (arith, few _ c.requires.ring, n), omega (arith, c.requires.table.2, n));
}

pub leafset-requires : goal.leafset-requires
leafset-requires c =
    let ws : List ℕ = c.args.words.now in
    record {
      table = held_in_table ws c.requires.ring c.args.x.0 c.requires.table.0 c.load-own.ensures.loaded c.requires.table.2;
      sides = rw c.requires.table.1 (table_sides_room ws);
    }

pub returns : goal.returns
returns c = record {
  value =
      let ws : List ℕ = c.args.words.now in
      leafset_shown ws c.requires.ring c.args.x.0
      (held_leafset ws c.requires.ring c.args.x.0 c.requires.table.0 c.load-own.ensures.loaded c.requires.table.1 c.leafset.ensures.value);
}
