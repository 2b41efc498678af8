-- Words that read as a ring are the words of the ring that they decode to: where the parts of an event start.
use mathlib.Core.Path.{◌≡◌, refl, sym}
use mathlib.Core.Bool.{true}
use mathlib.Core.List.{List}
use Prim.Native.Nat.{ℕ, ◌^◌, ◌≤◌, ◌<◌}
use native.Mathlib.Omega.{arith}
use native.Mathlib.Decide.{dec_lt}
use lib.Dec.{lit<}
use lib.ListN.{length, get_or}
use Rattle.model.specs.Leafset.{size, key}
use Rattle.model.specs.Ring.{Ring, blank, message_at}
use Rattle.model.specs.Fields.{bits}
use Rattle.model.specs.Structs.{RoomSides}
use Rattle.model.specs.Words.{reads_as_ring, node_place, decode_table, decode_node, decode_message, decode}
use Rattle.model.proofs.Fields.{bits<}
use Rattle.model.proofs.Laws.{get_d_tabulate, beyond_tabulate}
use Rattle.model.proofs.Words.{decoded_back, sides_room}
use Rattle.model.proofs.Decoded.{reads_well}
use Rattle.ring_head.specs.Parts.{Encodes}
use Rattle.ring_head.proofs.Decoded.{count_read}

-- what words that read as a ring have of its sizes
pub record Sizes (r : Ring) : Type 0 where
  pub nodes_high : size r.table ≤ 64
  pub count_high : length r.messages ≤ 1024

pub table_sides_room : (ws : List ℕ) → RoomSides (decode_table ws).sides
unfolding decode_table
table_sides_room ws = sides_room (get_or ws 0 0)

key_high : (ws : List ℕ) (s : ℕ) → key (decode_table ws) s < 2 ^ 24
unfolding decode_table
key_high ws s =
    let f : ℕ → ℕ = λ x. bits 0 24 (get_or ws (node_place x) 0) in
    elim (dec_lt s (bits 4 7 (get_or ws 0 0))) [
      | yes h ↦ rw (get_d_tabulate f 0 (bits 4 7 (get_or ws 0 0)) s h) (bits< 0 24 (get_or ws (node_place s) 0))
      | no h ↦ rw (beyond_tabulate f 0 (bits 4 7 (get_or ws 0 0)) s (omega arith)) (lit< tt)
    ]

module _ (ws : List ℕ) (e : reads_as_ring ws ≡ true) where
  pub read_sizes : Sizes (decode ws)
  read_sizes =
      let w = reads_well ws e in
      record { nodes_high = w.table_well.size_high; count_high = w.count_high }

  -- with the numbers that the code reads
  pub read_is : (n m : ℕ) → n ≡ size (decode_table ws) → m ≡ length (decode ws).messages → Encodes ws n m (decode ws)
  unfolding decode
  read_is n m p q =
      record {
        room = record { sides_room = table_sides_room ws; size_room = read_sizes.nodes_high; key_room = key_high ws };
        nodes = sym p;
        count = sym q;
        words = decoded_back ws e;
      }

-- a node and a message of the ring are those that are loaded
pub read_node : (ws : List ℕ) (x : ℕ) → (decode ws).node x ≡ decode_node ws x
unfolding decode
read_node ws x = refl

pub read_message : (ws : List ℕ) (k : ℕ) → k < length (decode ws).messages → message_at (decode ws) k ≡ decode_message ws k
unfolding decode
read_message ws k h = get_d_tabulate (decode_message ws) blank (bits 11 11 (get_or ws 0 0)) k (omega (arith, count_read ws))
