-- A hop: the nearest of the running nodes that are held, where it is nearer.
use mathlib.Core.Path.{◌≡◌, sym, ap, ap₂, ◌∙◌, fun_ext}
use mathlib.Core.Bool.{true, false, ◌&&◌}
use mathlib.Core.List.{List}
use Prim.Native.Nat.{ℕ, ◌<◌}
use lib.Bits.{bit_and}
use lib.Dec.{ltb}
use lib.ListN.{length, get_or}
use Rattle.model.specs.Sets.{Set, some, of_bits}
use Rattle.model.specs.Leafset.{Table, size, nearest}
use Rattle.model.specs.Ring.{Own, Ring, holds}
use Rattle.model.specs.Words.{decode_node, decode}
use Rattle.model.specs.Route.{held_running, next_of, goes_on}
use Rattle.model.specs.declared.node.NodeRecord.{NodeRecord}
use Rattle.model.proofs.Laws.{clash, is_false, and_left, some_in, some_out}
use Rattle.model.proofs.Decoded.{reads_well}
use Rattle.sets.specs.Within.{Within}
use Rattle.sets.proofs.Bits.{and_both}
use Rattle.ring_pairs.specs.Loaded.{LoadedNode}
use Rattle.leafset_nearest.specs.Span.{rank_of, span_to, Least, found}
use Rattle.leafset_nearest.specs.declared.Way.TheVariants.{Either}
use Rattle.leafset_nearest.proofs.Spans.{beats_rank}
use Rattle.leafset_nearest.proofs.Firsts.{nearest_found}
use Rattle.call_route.specs.Walks.{Ready}

module _ {ws keys : List ℕ} {running : ℕ} (ready : Ready ws keys running) (key x : ℕ) {q : NodeRecord} (loaded : LoadedNode ws x q) where
  abbrev ρ : Ring
  ρ = decode ws

  abbrev t : Table
  t = ρ.table

  abbrev there : ℕ
  there = bit_and q.held running

  keys_table : keys ≡ t.keys
  unfolding decode
  keys_table = ready.keys_are

  held_is : of_bits q.held ≡ holds ρ x
  unfolding decode decode_node
  held_is = ap (λ (o : Own). o.held) loaded.own

  there_is : of_bits there ≡ held_running ρ key x
  there_is = and_both q.held running ∙ fun_ext (λ z. ap₂ ◌&&◌ (ap (λ (S : Set). S z) held_is) (ready.running_are z))

  there_low : (z : ℕ) → of_bits there z ≡ true → z < size t
  there_low z e =
      (((reads_well ws ready.reads).node_well x).own_well.held_other z (and_left (holds ρ x z) _ (sym (ap (λ (S : Set). S z) there_is) ∙ e))).low

  pub there_within : Within (length keys) there
  there_within z e = rw keys_table (there_low z e)

  pub nobody_there : ((z : ℕ) → of_bits there z ≡ false) → goes_on ρ key x ≡ false
  unfolding goes_on
  nobody_there none =
      rw (is_false (some (size t) (held_running ρ key x))
      (λ s. let p = some_out (size t) (held_running ρ key x) s in clash p.2 (sym (ap (λ (S : Set). S p.0) there_is) ∙ none p.0)))

  module _ {y u v : ℕ} (nearest_lem : Least (of_bits there) (span_to Either key keys) y)
      (far : u ≡ rank_of key (get_or keys y 0)) (own : v ≡ rank_of key (get_or keys x 0)) where
    pub next_is : y ≡ next_of ρ key x
    unfolding next_of
    next_is =
        nearest_found t key (of_bits there) there_low (rw keys_table at (found nearest_lem))
        ∙ ap (nearest t key) there_is

    pub goes_on_is : goes_on ρ key x ≡ ltb u v
    unfolding goes_on
    goes_on_is =
        rw (
          some_in (size t) (held_running ρ key x) y (there_low y nearest_lem.member) (sym (ap (λ (S : Set). S y) there_is) ∙ nearest_lem.member),
          ← next_is,
          beats_rank t key y x,
          far,
          own,
          keys_table,
        )
