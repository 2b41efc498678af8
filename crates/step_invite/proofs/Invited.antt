-- Whom timer 0 invites, and whether a node lies in the leafset of held plus that node, as the code asks it.
use mathlib.Core.Path.{◌≡◌, ap, ap₂, ◌∙◌}
use mathlib.Core.Bool.{not, ◌&&◌}
use mathlib.Core.List.{List}
use Prim.Native.Nat.{ℕ, ◌<◌}
use lib.ListN.{length}
use lib.Bits.{bit_and, bit_or}
use Rattle.model.specs.Sets.{Set, with, union, of_bits, to_bits}
use Rattle.model.specs.Leafset.{leafset}
use Rattle.model.specs.Structs.{table_of}
use Rattle.model.specs.declared.values.Sides.{Sides}
use Rattle.model.proofs.Laws.{and_left}
use Rattle.leafset.proofs.Leaves.{leafset_back}
use Rattle.sets.specs.Within.{Within, InTable}
use Rattle.sets.proofs.Bits.{within_with, or_union, and_both, within_union, within_part}

-- the same table and set, seen from another node
pub other_table : {keys : List ℕ} {x y held : ℕ} → InTable keys x held → y < length keys → InTable keys y held
other_table q h = record { few = q.few; node = h; within = q.within }

module _ (sides : Sides) {keys : List ℕ} {x held : ℕ} (q : InTable keys x held) where
  -- held plus y: whether y lies in the leafset
  module _ (y more : ℕ) (e : of_bits more ≡ with (of_bits held) y) (h : y < length keys) where
    pub with_table : InTable keys x more
    with_table = record { few = q.few; node = q.node; within = within_with (length keys) held y more e h q.within }

    pub near_test : (near : ℕ) → near ≡ to_bits 64 (leafset (table_of sides keys) x (of_bits more))
        → of_bits near y ≡ leafset (table_of sides keys) x (with (of_bits held) y) y
    near_test near is = ap (λ (S : Set). S y) (leafset_back sides with_table is ∙ ap (leafset (table_of sides keys) x) e)

-- "each candidate not held that is in my leafset of candidates and held together"
module _ (sides : Sides) {keys : List ℕ} {x held : ℕ} (q : InTable keys x held) (candidates : ℕ) (low : Within (length keys) candidates) where
  pub union_table : InTable keys x (bit_or candidates held)
  union_table =
      record {
        few = q.few;
        node = q.node;
        within = within_union (length keys) candidates held (bit_or candidates held) (or_union candidates held) q.within low;
      }

  abbrev invited : Set
  invited y = of_bits candidates y && not (of_bits held y) && leafset (table_of sides keys) x (union (of_bits candidates) (of_bits held)) y

  module _ (free near : ℕ) (f : of_bits free ≡ (λ (y : ℕ). of_bits candidates y && not (of_bits held y)))
      (g : near ≡ to_bits 64 (leafset (table_of sides keys) x (of_bits (bit_or candidates held)))) where
    pub invited_set : of_bits (bit_and free near) ≡ invited
    invited_set =
        and_both free near
        ∙ ap₂ {C = Set} (λ (S R : Set). λ y. S y && R y) f (leafset_back sides union_table g ∙ ap (leafset (table_of sides keys) x) (or_union candidates held))

    pub invited_low : Within (length keys) (bit_and free near)
    invited_low =
        within_part (length keys) (bit_and free near) (λ y. of_bits candidates y && not (of_bits held y))
        (leafset (table_of sides keys) x (union (of_bits candidates) (of_bits held)))
        (λ y e. low y (and_left (of_bits candidates y) (not (of_bits held y)) e)) invited_set
