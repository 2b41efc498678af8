-- The join of two rings, place by place: word 0, the nodes and the pairs of both, and across; so the words are those of the join.
use mathlib.Core.Path.{◌≡◌, refl, sym, ap, ap₂, ◌∙◌}
use mathlib.Core.Logic.{◌≢◌}
use mathlib.Core.Bool.{true, false}
use mathlib.Core.List.{List}
use Prim.Native.Nat.{ℕ, ◌+◌, ◌-◌, ◌*◌, ◌<◌, ◌≤◌}
use native.Mathlib.Omega.{arith}
use native.Mathlib.Decide.{dec_lt}
use lib.Dec.{lit<}
use lib.ListN.{length, get_or, set, length-set}
use lib.Seq.{get_or-set_same, get_or-set_other}
use borrow.Author.Tests.{lt-ltb, le-ltb}
use Rattle.model.specs.Fields.{bits}
use Rattle.model.specs.Leafset.{size, key}
use Rattle.model.specs.Ring.{Node, Message, Ring, cleared}
use Rattle.model.specs.Words.{sides_of, head_word, node_words, pair_words, is_pair, node_place, pair_place, message_place, word_at, encode}
use Rattle.model.specs.Words.{decode_table, decode_own, decode_node, decode}
use Rattle.model.specs.Play.{set_messages}
use Rattle.model.specs.Join.{raised_own, raised_node, join}
use Rattle.model.specs.declared.values.Sides.{Sides}
use Rattle.model.proofs.Laws.{clash, is_false, decide}
use Rattle.model.proofs.Joins as joins
use Rattle.model.proofs.Words.{decoded_back, head_reads_lem, node_at, pair_at, message_at_lem, every_place, pair_low, pair_other, of_node, of_pair, of_message}
use Rattle.ring_head.specs.Parts.{Encodes}
use Rattle.ring_head.proofs.Holds.{Holds, holds, encoded, head_at, pair_yes, pair_high}
use Rattle.ring_ranges.specs.Spans.{Patched}
use Rattle.ring_join.specs.Parts.{Second, both_messages, Rows}

-- ---- the parts of a join, at n, the first's number of nodes

module _ (r s : Ring) (n : ℕ) (hn : size r.table ≡ n) where
  join_size : size (join r s).table ≡ n + size s.table
  join_size = joins.joined_size r s ∙ ap (λ (j : ℕ). j + size s.table) hn

  join_messages : (join r s).messages ≡ both_messages n r s
  unfolding join
  join_messages = ap (λ (j : ℕ). both_messages j r s) hn

  join_first : (x : ℕ) → x < n → (join r s).node x ≡ r.node x
  join_first x h = joins.first_node r s x (rw hn h)

  join_second : (x : ℕ) → n ≤ x → (join r s).node x ≡ raised_node n (s.node (x - n))
  join_second x h = joins.second_node r s x (rw hn h) ∙ ap (λ (j : ℕ). raised_node j (s.node (x - j))) hn

  key_first : (x : ℕ) → x < n → key (join r s).table x ≡ key r.table x
  key_first x h = joins.first_key r s x (rw hn h)

  key_second : (x : ℕ) → n ≤ x → key (join r s).table x ≡ key s.table (x - n)
  key_second x h = joins.second_key r s x (rw hn h) ∙ ap (λ (j : ℕ). key s.table (x - j)) hn

-- ---- the words of a join: from those of the first ring with all messages, word 0, the second's nodes, the pairs across, the second's pairs

module _ (r s : Ring) (n k m : ℕ) (hn : size r.table ≡ n) (hk : size s.table ≡ k) (room : n + k ≤ 64) (few : m ≤ 1024)
    (none : (x z : ℕ) → n ≤ z → pair_words cleared z ≡ pair_words (r.node x).own z)
    (ss ws a b c d : List ℕ) (theirs : ss ≡ encode s) (is : Encodes ws n m (set_messages (both_messages n r s) r))
    (e : a ≡ set ws 0 (head_word (sides_of (get_or ws 0 0)) (n + k) (bits 11 11 (get_or ws 0 0))))
    (p : Patched a b (node_place n) (node_place (n + k)) (λ i. get_or ss (i - 2 * n) 0))
    (q : Rows b c 0 n n (n + k) (λ x. cleared))
    (u : Rows c d n (n + k) 0 (n + k) (λ x. raised_own n (s.node (x - n)).own)) where
  abbrev ρ : Ring
  ρ = set_messages (both_messages n r s) r

  σ : Ring
  σ = join r s

  was : Holds ρ ws
  was = holds ρ ws is.words

  σ_size : size σ.table ≡ n + k
  unfolding σ
  σ_size = join_size r s n hn ∙ ap (λ (j : ℕ). n + j) hk

  -- ---- what is kept

  head_other : (i : ℕ) → 0 < i → i < 13441 → get_or a i 0 ≡ word_at ρ i
  head_other i l g = ap (λ (w : List ℕ). get_or w i 0) e ∙ get_or-set_other ws 0 i _ 0 (omega arith) ∙ was.word i g

  -- of the pairs written, where no such pair has its place
  not_pair : (i : ℕ) → ((x z : ℕ) → x < n + k → z < n + k → z ≢ x → (i ≢ pair_place x z) × (i ≢ pair_place x z + 1)) → get_or d i 0 ≡ get_or b i 0
  not_pair i f =
      u.other i (λ x z l g l' g' n. f x z g g' n)
      ∙ q.other i (λ x z l g l' g' n. f x z (omega arith) g' n)

  -- ---- word 0

  at_head : get_or d 0 0 ≡ word_at σ 0
  unfolding σ join
  at_head =
      let w : get_or ws 0 0 ≡ head_word r.table.sides n m = was.word 0 (lit< tt) ∙ head_at ρ ∙ ap₂ (head_word r.table.sides) is.nodes is.count in
      let back = head_reads_lem r.table.sides is.room.sides_room (omega (arith, room)) (omega (arith, few)) w in
      not_pair 0 (λ x z l g f. (omega arith, omega arith)) ∙ p.low 0 (omega arith)
      ∙ ap (λ (v : List ℕ). get_or v 0 0) e ∙ get_or-set_same ws 0 _ 0 (omega (arith, was.long))
      ∙ ap₂ (λ (f : Sides) (j : ℕ). head_word f (n + k) j) back.sides_back back.count_back
      ∙ sym (head_at (join r s) ∙ ap₂ (head_word r.table.sides) σ_size (ap length (join_messages r s n hn) ∙ is.count))

  -- ---- the nodes

  module _ (x i : ℕ) (hx : x < 64) (hi : i < 2) where
    node_kept : get_or d (node_place x + i) 0 ≡ get_or b (node_place x + i) 0
    node_kept = not_pair (node_place x + i) (λ y z l g f. (omega arith, omega arith))

    σ_node : x < n + k → of_node σ x i ≡ get_or (node_words (key σ.table x) (σ.node x)) i 0
    σ_node l = rw (lt-ltb x (size σ.table) (rw σ_size l))

    first_node : x < n → get_or d (node_place x + i) 0 ≡ of_node σ x i
    unfolding σ
    first_node l =
        node_kept ∙ p.low (node_place x + i) (omega arith) ∙ head_other (node_place x + i) (omega arith) (omega arith) ∙ node_at ρ x i hx hi
        ∙ rw (lt-ltb x (size r.table) (rw hn l))
        (ap₂ (λ (y : ℕ) (o : Node). get_or (node_words y o) i 0) (sym (key_first r s n hn x l)) (sym (join_first r s n hn x l)) ∙ sym (σ_node (omega arith)))

    second_node : n ≤ x → x < n + k → get_or d (node_place x + i) 0 ≡ of_node σ x i
    unfolding σ
    second_node l g =
        let f : node_place x + i - 2 * n ≡ node_place (x - n) + i = omega arith in
        node_kept ∙ p.inside (node_place x + i) (omega arith) (omega arith) ∙ ap (λ (j : ℕ). get_or ss j 0) f
        ∙ (holds s ss theirs).word (node_place (x - n) + i) (omega arith) ∙ node_at s (x - n) i (omega arith) hi
        ∙ rw (lt-ltb (x - n) (size s.table) (omega (arith, hk)))
        (ap₂ (λ (y : ℕ) (o : Node). get_or (node_words y o) i 0) (sym (key_second r s n hn x l)) (sym (join_second r s n hn x l)) ∙ sym (σ_node g))

    no_node : n + k ≤ x → get_or d (node_place x + i) 0 ≡ of_node σ x i
    no_node l =
        node_kept ∙ p.high (node_place x + i) (omega arith) ∙ head_other (node_place x + i) (omega arith) (omega arith) ∙ node_at ρ x i hx hi
        ∙ rw (le-ltb x (size r.table) (omega (arith, hn)), le-ltb x (size σ.table) (rw σ_size l))

    at_node : get_or d (node_place x + i) 0 ≡ of_node σ x i
    at_node =
        elim (dec_lt x n) [
          | yes l ↦ first_node l
          | no l ↦ elim (dec_lt x (n + k)) [ yes g ↦ second_node (omega arith) g | no g ↦ no_node (omega arith) ]
        ]

  -- ---- the pairs

  module _ (x z i : ℕ) (hx : x < 64) (hz : z < 64) (hi : i < 2) where
    kept : get_or b (pair_place x z + i) 0 ≡ of_pair ρ x z i
    kept = p.high (pair_place x z + i) (omega arith) ∙ head_other (pair_place x z + i) (omega arith) (omega arith) ∙ pair_at ρ x z i hx hz hi

    -- what is no pair of the join is none of the first
    no_pair : is_pair σ.table x z ≡ false → get_or d (pair_place x z + i) 0 ≡ 0
    no_pair f = not_pair (pair_place x z + i) away ∙ kept ∙ rw (is_false (is_pair r.table x z) none_there)
      where
        same : (y j : ℕ) → y < n + k → j < n + k → j ≢ y → x ≡ y → z ≡ j → ⊥
        same y j hy hj g v w = clash (rw (v, w) (pair_yes σ.table y j (rw σ_size hy) (rw σ_size hj) g)) f

        away : (y j : ℕ) → y < n + k → j < n + k → j ≢ y → (pair_place x z + i ≢ pair_place y j) × (pair_place x z + i ≢ pair_place y j + 1)
        away y j hy hj g = (λ v. same y j hy hj g (omega arith) (omega arith), λ v. same y j hy hj g (omega arith) (omega arith))

        none_there : is_pair r.table x z ≡ true → ⊥
        none_there t =
            let o = pair_other r.table x z t in
            same x z (omega (arith, pair_low r.table x z t, hn)) (omega (arith, o.low, hn)) o.differs refl refl

    a_pair : x < n + k → z < n + k → z ≢ x → get_or d (pair_place x z + i) 0 ≡ get_or (pair_words (σ.node x).own z) i 0
    unfolding σ
    a_pair l g f =
        elim (dec_lt x n) [
          | yes m ↦ u.other (pair_place x z + i) (λ y j v w v' w' f'. (omega arith, omega arith)) ∙ of_first m ∙ of_node (join_first r s n hn x m)
          | no m ↦ u.pair x z i (omega arith) l (omega arith) g f hi ∙ of_node (join_second r s n hn x (omega arith))
        ]
      where
        of_node : {o : Node} → (join r s).node x ≡ o → get_or (pair_words o.own z) i 0 ≡ get_or (pair_words ((join r s).node x).own z) i 0
        of_node v = ap (λ (o : Node). get_or (pair_words o.own z) i 0) (sym v)

        of_first : x < n → get_or c (pair_place x z + i) 0 ≡ get_or (pair_words (r.node x).own z) i 0
        of_first m =
            elim (dec_lt z n) [
              | yes o ↦
                  q.other (pair_place x z + i) (λ y j v w v' w' f'. (omega arith, omega arith)) ∙ kept
                  ∙ rw (pair_yes r.table x z (rw hn m) (rw hn o) f)
              | no o ↦ q.pair x z i (omega arith) m (omega arith) g f hi ∙ ap (λ (v : List ℕ). get_or v i 0) (none x z (omega arith))
            ]

    at_pair : get_or d (pair_place x z + i) 0 ≡ of_pair σ x z i
    at_pair =
        decide (is_pair σ.table x z)
        (λ t. let o = pair_other σ.table x z t in
        a_pair (omega (arith, pair_low σ.table x z t, σ_size)) (omega (arith, o.low, σ_size)) o.differs ∙ rw t)
        (λ f. no_pair f ∙ rw f)

  -- ---- the messages

  at_message : (j i : ℕ) → j < 1024 → i < 5 → get_or d (message_place j + i) 0 ≡ word_at σ (message_place j + i)
  unfolding σ
  at_message j i hj hi =
      not_pair (message_place j + i) (λ x z l g f. (omega arith, omega arith)) ∙ p.high (message_place j + i) (omega arith)
      ∙ head_other (message_place j + i) (omega arith) (omega arith) ∙ message_at_lem ρ j i hi
      ∙ ap (λ (ms : List Message). of_message (set_messages ms r) j i) (sym (join_messages r s n hn)) ∙ sym (message_at_lem (join r s) j i hi)

  pub joined : d ≡ encode (join r s)
  unfolding σ
  joined =
      encoded (join r s) d
      (record {
        long = u.long ∙ q.long ∙ p.long ∙ ap length e ∙ length-set ws 0 _ ∙ was.long;
        word = every_place (λ i. get_or d i 0 ≡ word_at (join r s) i)
            at_head
            (λ x i hx hi. at_node x i hx hi ∙ sym (node_at (join r s) x i hx hi))
            (λ x z i hx hz hi. at_pair x z i hx hz hi ∙ sym (pair_at (join r s) x z i hx hz hi))
            at_message;
      })

-- ---- the same of words that read as rings

-- what is no node of the ring: of it a record has nothing
read_none : (ws : List ℕ) (x z : ℕ) → size (decode_table ws) ≤ z → pair_words cleared z ≡ pair_words (decode_own ws x) z
unfolding decode_own
read_none ws x z h = sym (rw (pair_high (decode_table ws) x z h))

pub nodes_joined : (fs ss ws a b c d : List ℕ) (n k m : ℕ) → Second ss n k → n ≡ size (decode_table fs) → m ≤ 1024
    → Encodes ws n m (set_messages (both_messages n (decode fs) (decode ss)) (decode fs))
    → a ≡ set ws 0 (head_word (sides_of (get_or ws 0 0)) (n + k) (bits 11 11 (get_or ws 0 0)))
    → Patched a b (node_place n) (node_place (n + k)) (λ i. get_or ss (i - 2 * n) 0)
    → Rows b c 0 n n (n + k) (λ x. cleared)
    → Rows c d n (n + k) 0 (n + k) (λ x. raised_own n (decode_own ss (x - n)))
    → d ≡ encode (join (decode fs) (decode ss))
unfolding decode decode_node
nodes_joined fs ss ws a b c d n k m s hn few is e p q u =
    joined (decode fs) (decode ss) n k m (sym hn) (sym s.nodes) s.room few (λ x z h. read_none fs x z (rw (← hn) h))
    ss ws a b c d (decoded_back ss s.reads) is e p q u
