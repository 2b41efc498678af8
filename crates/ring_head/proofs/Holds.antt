-- The words of a ring, place by place: what writing a node, and writing the messages, leaves.
use mathlib.Core.Path.{◌≡◌, refl, sym, ap, ◌∙◌}
use mathlib.Core.Logic.{◌≢◌}
use mathlib.Core.Bool.{Bool, true, false, ◌&&◌, and-false}
use mathlib.Core.List.{List}
use Prim.Native.Nat.{ℕ, ◌+◌, ◌<◌, ◌≤◌}
use native.Mathlib.Omega.{arith}
use native.Mathlib.Decide.{dec_lt, ℕ_discrete}
use lib.Dec.{ltb}
use lib.ListN.{length, get_or}
use lib.Seq.{ext_get_or}
use borrow.Author.Tests.{lt-ltb, le-ltb, eq-eqb, ltb-true, ltb-false}
use Rattle.std.specs.Prelude.{if◌then◌else◌}
use Rattle.model.specs.Leafset.{Table, size, key}
use Rattle.model.specs.Ring.{Node, Message, Ring, blank}
use Rattle.model.specs.Words.{is_pair, head_word, node_words, pair_words, message_words, node_place, pair_place, message_place, ring_length, belongs, word_at}
use Rattle.model.specs.Words.{encode}
use Rattle.model.specs.Play.{set_node, set_messages}
use Rattle.model.proofs.Words.{length_encode, encode_at, node_at, pair_at, message_at_lem, every_place, pair_in, of_node, of_pair}
use Rattle.model.proofs.Laws.{put_each}

-- ---- words that are a ring's, place by place

pub record Holds (ρ : Ring) (ws : List ℕ) : Type 0 where
  pub long : length ws ≡ ring_length
  pub word : (i : ℕ) → i < ring_length → get_or ws i 0 ≡ word_at ρ i

pub holds : (ρ : Ring) (ws : List ℕ) → ws ≡ encode ρ → Holds ρ ws
holds ρ ws e = record { long = ap length e ∙ length_encode ρ; word = λ i h. ap (λ l. get_or l i 0) e ∙ encode_at ρ i h }

pub encoded : (ρ : Ring) (ws : List ℕ) → Holds ρ ws → ws ≡ encode ρ
encoded ρ ws h =
    ext_get_or 0 ws (encode ρ) (h.long ∙ sym (length_encode ρ))
    (λ i l. let k : i < ring_length = omega (arith, h.long) in h.word i k ∙ sym (encode_at ρ i k))

pub head_at : (ρ : Ring) → word_at ρ 0 ≡ head_word ρ.table.sides (size ρ.table) (length ρ.messages)
unfolding belongs word_at
head_at ρ = refl

-- ---- what is a pair, and what is none

module _ (t : Table) (x z : ℕ) where
  pub pair_yes : x < size t → z < size t → z ≢ x → is_pair t x z ≡ true
  pair_yes hx hz d = pair_in t x z hx (record { low = hz; differs = d })

  pub pair_high : size t ≤ z → is_pair t x z ≡ false
  pair_high h = rw (le-ltb z (size t) h, and-false (ltb x (size t)))

  pub pair_same : z ≡ x → is_pair t x z ≡ false
  pair_same e = rw (eq-eqb x z (sym e), and-false (ltb x (size t) && ltb z (size t)))

-- ---- a node written: its own places anew, the others kept

module _ (ρ : Ring) (x : ℕ) (s : Node) (ws ws' : List ℕ) (h : Holds ρ ws) (hx : x < size ρ.table) (hn : size ρ.table ≤ 64)
    (long : length ws' ≡ length ws)
    (node : (i : ℕ) → i < 2 → get_or ws' (node_place x + i) 0 ≡ get_or (node_words (key ρ.table x) s) i 0)
    (pair : (z i : ℕ) → z < size ρ.table → z ≢ x → i < 2 → get_or ws' (pair_place x z + i) 0 ≡ get_or (pair_words s.own z) i 0)
    (other : (i : ℕ) → i ≢ node_place x → i ≢ node_place x + 1
    → ((z : ℕ) → z < size ρ.table → z ≢ x → (i ≢ pair_place x z) × (i ≢ pair_place x z + 1)) → get_or ws' i 0 ≡ get_or ws i 0) where
  abbrev ρ' : Ring
  ρ' = set_node x s ρ

  at_node : (i : ℕ) → i < 2 → (y : ℕ) → y < 64 → get_or ws' (node_place y + i) 0 ≡ of_node ρ' y i
  at_node i hi =
      put_each (λ y v. y < 64 → get_or ws' (node_place y + i) 0 ≡ (if ltb y (size ρ.table) then get_or (node_words (key ρ.table y) v) i 0 else 0)) ρ.node x s
      (λ l. rw (lt-ltb x (size ρ.table) hx) (node i hi))
      (λ y d hy.
      other (node_place y + i) (omega arith) (omega arith) (λ z l g. (omega arith, omega arith))
      ∙ h.word (node_place y + i) (omega arith) ∙ node_at ρ y i hy hi)

  at_pair : (z i : ℕ) → z < 64 → i < 2 → (y : ℕ) → y < 64 → get_or ws' (pair_place y z + i) 0 ≡ of_pair ρ' y z i
  at_pair z i hz hi =
      put_each (λ y v. y < 64 → get_or ws' (pair_place y z + i) 0 ≡ (if is_pair ρ.table y z then get_or (pair_words v.own z) i 0 else 0)) ρ.node x s
      (λ l.
      elim (ℕ_discrete z x) [
        | yes e ↦ none (pair_same ρ.table x z e) (λ k a g. (omega arith, omega arith))
        | no d ↦ elim (dec_lt z (size ρ.table)) [
          | yes l ↦ rw (pair_yes ρ.table x z hx l d) (pair z i l d hi)
          | no l ↦ none (pair_high ρ.table x z (omega arith)) (λ k a g. (omega arith, omega arith))
        ]
      ])
      (λ y d hy. other (pair_place y z + i) (omega arith) (omega arith) (λ k l g. (omega arith, omega arith)) ∙ was y hy)
    where
      was : (y : ℕ) → y < 64 → get_or ws (pair_place y z + i) 0 ≡ of_pair ρ y z i
      was y hy = h.word (pair_place y z + i) (omega arith) ∙ pair_at ρ y z i hy hz hi

      none : is_pair ρ.table x z ≡ false
          → ((k : ℕ) → k < size ρ.table → k ≢ x → (pair_place x z + i ≢ pair_place x k) × (pair_place x z + i ≢ pair_place x k + 1))
          → get_or ws' (pair_place x z + i) 0 ≡ (if is_pair ρ.table x z then get_or (pair_words s.own z) i 0 else 0)
      none p o = rw p (other (pair_place x z + i) (omega arith) (omega arith) o ∙ was x (omega arith) ∙ rw p)

  pub node_written : ws' ≡ encode (set_node x s ρ)
  node_written =
      encoded ρ' ws'
      (record {
        long = long ∙ h.long;
        word = every_place (λ i. get_or ws' i 0 ≡ word_at ρ' i)
            (other 0 (omega arith) (omega arith) (λ z l g. (omega arith, omega arith)) ∙ h.word 0 (omega arith) ∙ head_at ρ ∙ sym (head_at ρ'))
            (λ y i hy hi. at_node i hi y hy ∙ sym (node_at ρ' y i hy hi))
            (λ y z i hy hz hi. at_pair z i hz hi y hy ∙ sym (pair_at ρ' y z i hy hz hi))
            (λ k i hk hi.
            other (message_place k + i) (omega arith) (omega arith) (λ z l g. (omega arith, omega arith))
            ∙ h.word (message_place k + i) (omega arith) ∙ message_at_lem ρ k i hi ∙ sym (message_at_lem ρ' k i hi));
      })

-- ---- the messages written, and the head: the words between are kept

module _ (ρ : Ring) (ms : List Message) (ws ws' : List ℕ) (h : Holds ρ ws)
    (long : length ws' ≡ length ws)
    (head : get_or ws' 0 0 ≡ head_word ρ.table.sides (size ρ.table) (length ms))
    (below : (i : ℕ) → 0 < i → i < 8321 → get_or ws' i 0 ≡ get_or ws i 0)
    (message : (k i : ℕ) → k < length ms → i < 5 → get_or ws' (message_place k + i) 0 ≡ get_or (message_words (get_or ms k blank)) i 0)
    (rest : (k i : ℕ) → length ms ≤ k → k < 1024 → i < 5 → get_or ws' (message_place k + i) 0 ≡ 0) where
  pub messages_written : ws' ≡ encode (set_messages ms ρ)
  messages_written =
      encoded (set_messages ms ρ) ws'
      (record {
        long = long ∙ h.long;
        word = every_place (λ i. get_or ws' i 0 ≡ word_at (set_messages ms ρ) i)
            (head ∙ sym (head_at (set_messages ms ρ)))
            (λ s i hs hi.
            below (node_place s + i) (omega arith) (omega arith) ∙ h.word (node_place s + i) (omega arith)
            ∙ node_at ρ s i hs hi ∙ sym (node_at (set_messages ms ρ) s i hs hi))
            (λ x z i hx hz hi.
            below (pair_place x z + i) (omega arith) (omega arith) ∙ h.word (pair_place x z + i) (omega arith)
            ∙ pair_at ρ x z i hx hz hi ∙ sym (pair_at (set_messages ms ρ) x z i hx hz hi))
            (λ k i hk hi. go k i hk hi (ltb k (length ms)) refl ∙ sym (message_at_lem (set_messages ms ρ) k i hi));
      })
    where
      go : (k i : ℕ) → k < 1024 → i < 5 → (b : Bool) → ltb k (length ms) ≡ b
          → get_or ws' (message_place k + i) 0 ≡ (if b then get_or (message_words (get_or ms k blank)) i 0 else 0)
      go k i hk hi true e = message k i (ltb-true k (length ms) e) hi
      go k i hk hi false e = rest k i (ltb-false k (length ms) e) hk hi
