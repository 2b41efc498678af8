-- The words of a node, one of them written.
use mathlib.Core.Path.{◌≡◌, refl, sym, ap, ◌∙◌}
use mathlib.Core.Logic.{◌≢◌}
use mathlib.Core.Bool.{Bool}
use mathlib.Core.List.{List}
use Prim.Native.Nat.{ℕ, zero, suc, ◌+◌, ◌^◌, ◌<◌, ◌≤◌}
use native.Mathlib.Omega.{arith}
use native.Mathlib.Nat.{add-zero}
use native.Mathlib.Decide.{ℕ_discrete}
use lib.Dec.{lit<}
use lib.ListN.{get_or, set, length-set}
use lib.Seq.{get_or-set_same, get_or-set_other}
use borrow.Author.Tests.{lt-ltb}
use Rattle.model.specs.Leafset.{size, key}
use Rattle.model.specs.Ring.{Own, Node, Ring}
use Rattle.model.specs.Fields.{bits, bit}
use Rattle.model.specs.Words.{key_word, clock_word, node_words, pair_words, node_place, pair_place, encode}
use Rattle.model.specs.Play.{set_node}
use Rattle.model.proofs.Fields.{field}
use Rattle.model.proofs.Words.{node_at, pair_at}
use Rattle.ring_head.specs.Parts.{Encodes, update, set_running, set_clock}
use Rattle.ring_head.proofs.Holds.{Holds, holds, pair_yes, node_written}

module _ (ρ : Ring) (ws : List ℕ) (n m x : ℕ) (is : Encodes ws n m ρ) (hx : x < n) where
  h : Holds ρ ws
  h = holds ρ ws is.words

  hs : x < size ρ.table
  hs = omega (arith, is.nodes)

  hn : size ρ.table ≤ 64
  hn = is.room.size_room

  pub node_word : (i : ℕ) → i < 2 → get_or ws (node_place x + i) 0 ≡ get_or (node_words (key ρ.table x) (ρ.node x)) i 0
  node_word i hi =
      h.word (node_place x + i) (omega (arith, hs, hn)) ∙ node_at ρ x i (omega (arith, hs, hn)) hi ∙ rw (lt-ltb x (size ρ.table) hs)

  pair_word_lem : (z i : ℕ) → z < size ρ.table → z ≢ x → i < 2 → get_or ws (pair_place x z + i) 0 ≡ get_or (pair_words (ρ.node x).own z) i 0
  pair_word_lem z i hz d hi =
      h.word (pair_place x z + i) (omega (arith, hs, hn)) ∙ pair_at ρ x z i (omega (arith, hs, hn)) (omega (arith, hn)) hi
      ∙ rw (pair_yes ρ.table x z hs hz d)

  -- word j of the node
  module _ (s : Node) (own : s.own ≡ (ρ.node x).own) (j : ℕ) (hj : j < 2) (v : ℕ) (e : v ≡ get_or (node_words (key ρ.table x) s) j 0)
      (kept : (i : ℕ) → i < 2 → i ≢ j → get_or (node_words (key ρ.table x) (ρ.node x)) i 0 ≡ get_or (node_words (key ρ.table x) s) i 0) where
    abbrev ws' : List ℕ
    ws' = set ws (node_place x + j) v

    node_set : (i : ℕ) → i < 2 → get_or ws' (node_place x + i) 0 ≡ get_or (node_words (key ρ.table x) s) i 0
    node_set i hi =
        elim (ℕ_discrete i j) [
          | yes q ↦ rw q (get_or-set_same ws (node_place x + j) v 0 (omega (arith, hs, hn, h.long)) ∙ e)
          | no d ↦ get_or-set_other ws (node_place x + j) (node_place x + i) v 0 (omega arith) ∙ node_word i hi ∙ kept i hi d
        ]

    word_set : ws' ≡ encode (set_node x s ρ)
    word_set =
        node_written ρ x s ws ws' h hs hn (length-set ws (node_place x + j) v) node_set
        (λ z i hz d hi.
        get_or-set_other ws (node_place x + j) (pair_place x z + i) v 0 (omega (arith, hs, hn))
        ∙ pair_word_lem z i hz d hi
        ∙ ap (λ (o : Own). get_or (pair_words o z) i 0) (sym own))
        (λ i a b o. get_or-set_other ws (node_place x + j) i v 0 (omega arith))

  key_kept : bits 0 24 (get_or ws (node_place x) 0) ≡ key ρ.table x
  unfolding key_word
  key_kept =
      let w : get_or ws (node_place x) 0 ≡ key_word (key ρ.table x) (ρ.node x).running =
      ap (λ (i : ℕ). get_or ws i 0) (sym (add-zero (node_place x))) ∙ node_word 0 (lit< tt) in
      field 0 24 (2 ^ 5 + bit (ρ.node x).running) (key ρ.table x) 0 (w ∙ omega arith) (lit< tt) (is.room.key_room x)

  pub running_set : (b : Bool) (v : ℕ) → v ≡ key_word (bits 0 24 (get_or ws (node_place x) 0)) b
      → Encodes (set ws (node_place x) v) n m (update x (set_running b) ρ)
  running_set b v e =
      record {
        room = is.room;
        nodes = is.nodes;
        count = is.count;
        words = ap (λ (i : ℕ). set ws i v) (sym (add-zero (node_place x)))
            ∙ word_set (set_running b (ρ.node x)) refl 0 (lit< tt) v (e ∙ ap (λ (k : ℕ). key_word k b) key_kept) kept;
      }
    where
      kept : (i : ℕ) → i < 2 → i ≢ 0 → get_or (node_words (key ρ.table x) (ρ.node x)) i 0 ≡ get_or (node_words (key ρ.table x) (set_running b (ρ.node x))) i 0
      kept zero l d = absurd (d refl)
      kept (suc i) l d = refl

  pub clock_set : (time v : ℕ) → v ≡ clock_word time → Encodes (set ws (node_place x + 1) v) n m (update x (set_clock time) ρ)
  clock_set time v e =
      record {
        room = is.room;
        nodes = is.nodes;
        count = is.count;
        words = word_set (set_clock time (ρ.node x)) refl 1 (lit< tt) v e kept;
      }
    where
      kept : (i : ℕ) → i < 2 → i ≢ 1 → get_or (node_words (key ρ.table x) (ρ.node x)) i 0 ≡ get_or (node_words (key ρ.table x) (set_clock time (ρ.node x))) i 0
      kept zero l d = refl
      kept (suc zero) l d = absurd (d refl)
      kept (suc (suc i)) l d = refl
