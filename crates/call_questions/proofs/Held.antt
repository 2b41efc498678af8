-- The leafset of a node in its held set, from the parts that are loaded of words that read as a ring.
use mathlib.Core.Path.{◌≡◌, sym, ap, ◌∙◌}
use mathlib.Core.Bool.{true}
use mathlib.Core.List.{List}
use Prim.Native.Nat.{ℕ, ◌<◌}
use Rattle.model.specs.Sets.{Set, of_bits, to_bits}
use Rattle.model.specs.Leafset.{size, leafset}
use Rattle.model.specs.Ring.{Own, holds}
use Rattle.model.specs.Words.{decode_table, decode_node, decode, reads_as_ring}
use Rattle.model.specs.Structs.{table_of}
use Rattle.model.specs.declared.values.Sides.{Sides}
use Rattle.model.specs.declared.node.NodeRecord.{NodeRecord}
use Rattle.model.proofs.Decoded.{reads_well}
use Rattle.sets.specs.Within.{InTable}
use Rattle.ring_pairs.specs.Loaded.{LoadedNode}
use Rattle.answers.proofs.Valid.{few}

module _ (ws : List ℕ) (reads : reads_as_ring ws ≡ true) where
  module _ (x : ℕ) {keys : List ℕ} {own : NodeRecord} (table : keys ≡ (decode_table ws).keys) (loaded : LoadedNode ws x own) where
    held_is : of_bits own.held ≡ holds (decode ws) x
    unfolding decode decode_node
    held_is = ap (λ (o : Own). o.held) loaded.own

    pub held_in_table : x < size (decode_table ws) → InTable keys x own.held
    unfolding decode
    held_in_table low =
        record {
          few = rw table (few ws reads);
          node = rw table low;
          within = λ y h. rw table (((reads_well ws reads).node_well x).own_well.held_other y (sym (ap (λ (S : Set). S y) held_is) ∙ h)).low;
        }

    pub held_leafset : {r : ℕ} {sides : Sides} → sides ≡ (decode_table ws).sides
        → r ≡ to_bits 64 (leafset (table_of sides keys) x (of_bits own.held))
        → r ≡ to_bits 64 (leafset (decode ws).table x (holds (decode ws) x))
    unfolding decode
    held_leafset l e = rw (e, l, table, held_is)
