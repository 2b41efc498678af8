-- Words read as a ring exactly where each of their regions does.
use mathlib.Core.Path.{◌≡◌, refl, sym, ap, ◌∙◌}
use Prim.Native.Nat.{ℕ, zero, suc, ◌+◌, ◌≤◌, ◌<◌}
use native.Mathlib.Omega.{arith}
use native.Mathlib.Nat.{add-zero}
use native.Mathlib.Decide.{dec_lt}
use mathlib.Core.Bool.{Bool, true, false, not, ◌&&◌, ◌||◌}
use mathlib.Core.List.{List, [], ◌∷◌}
use lib.ListN.{length, get_or}
use lib.Dec.{ltb, leb, eqb, lit<}
use borrow.Author.Tests.{eqb-true, eq-eqb, lt-ltb, le-ltb, leb-true, le-leb}
use Rattle.std.specs.Prelude.{if◌then◌else◌}
use Rattle.model.specs.Choice.{◌⇒◌, every}
use Rattle.model.specs.Sets.{all, none_node}
use Rattle.model.specs.Leafset.{size, key}
use Rattle.model.specs.Ring.{Message, message_at, blank}
use Rattle.model.specs.Fields.{bits, flag}
use Rattle.model.specs.WellFormed.{Each, nil, cons}
use Rattle.model.specs.Words.{sides_of, sides_fit, at, head_word, key_word, clock_word, pair_word, spare_word, node_place, pair_place, message_place, between}
use Rattle.model.specs.Words.{size_in, count_in}
use Rattle.model.specs.Words.{in_range, keys_differ, is_pair, node_words, pair_words, message_words, belongs, word_at, ring_length}
use Rattle.model.specs.Words.{decode_table, decode_own, decode_node, decode_message, decode, pair_fits, node_fits, message_fits, senders_fit, ring_fits}
use Rattle.model.specs.Words.{format_fits, reads_as_ring}
use Rattle.model.proofs.Laws.{between_low, between_high, and_left, and_right, and_in, implies_in, implies_out, not_in, not_out, decide, is_false}
use Rattle.model.proofs.Laws.{same_test, every_in, every_out, all_in, all_out, length_tabulate, get_d_tabulate}
use Rattle.model.proofs.Lists.{first, rest}
use Rattle.model.proofs.Words.{node_at, pair_at, message_at_lem, every_place, pair_low, pair_other, ReadsAsRing, reads_in, reads_out, of_node, of_pair}
use Rattle.model.proofs.Words.{of_message}
use Rattle.valid_messages.specs.Senders.{senders_read}
use Rattle.valid_messages.specs.Messages.{message_reads, messages_read}
use Rattle.valid_nodes.specs.Nodes.{clear, key_at, clock_at, head_reads, node_reads, nodes_read}
use Rattle.valid_pairs.specs.Pairs.{link_at, spare_at, link_reads, spare_reads, pair_reads, row_reads, pairs_read}
use Rattle.valid_ring.specs.Regions.{region_tests, regions_read}
use Rattle.valid_messages.proofs.MessageTests.{joined_every}
use Rattle.valid_nodes.proofs.Gather.{clear_in, clear_out}
use Rattle.valid_nodes.proofs.NodeTests.{size_is, key_is}

-- two words, by place
two_words : (ws : List ℕ) (p : ℕ) (f : ℕ → ℕ) → at ws p ≡ f 0 → at ws (p + 1) ≡ f 1 → (j : ℕ) → j < 2 → at ws (p + j) ≡ f j
two_words ws p f a b zero h = ap (at ws) (add-zero p) ∙ a
two_words ws p f a b (suc zero) h = b
two_words ws p f a b (suc (suc j)) h = absurd (omega arith)

-- ---- what the words decode to

module _ (ws : List ℕ) where
  count_is : length (decode ws).messages ≡ count_in ws
  unfolding decode
  count_is = length_tabulate (decode_message ws) (count_in ws)

  senders_are : senders_read ws 8321 (decode_table ws) (count_in ws) ≡ senders_fit (decode ws)
  unfolding decode senders_read senders_fit
  senders_are = refl

  message_is : (k : ℕ) → k < count_in ws → message_at (decode ws) k ≡ decode_message ws k
  unfolding decode
  message_is k h = get_d_tabulate (decode_message ws) blank (count_in ws) k h

  -- the words of that

  node_words_lem : (s : ℕ) → s < size_in ws
      → node_words (key (decode_table ws) s) (decode_node ws s)
      ≡ key_word (bits 0 24 (key_at ws s)) (flag 24 (key_at ws s)) ∷ clock_word (bits 0 24 (clock_at ws s)) ∷ []
  unfolding decode_node
  node_words_lem s h =
      let e : ltb s (size (decode_table ws)) ≡ true = lt-ltb s (size (decode_table ws)) (rw (size_is ws) h) in
      rw (e, key_is ws s h)

  node_word : (s j : ℕ) → s < size_in ws
      → of_node (decode ws) s j ≡ get_or (key_word (bits 0 24 (key_at ws s)) (flag 24 (key_at ws s)) ∷ clock_word (bits 0 24 (clock_at ws s)) ∷ []) j 0
  unfolding decode
  node_word s j h =
      let e : ltb s (size (decode_table ws)) ≡ true = lt-ltb s (size (decode_table ws)) (rw (size_is ws) h) in
      rw e (ap (λ (l : List ℕ). get_or l j 0) (node_words_lem s h))

  node_none : (s j : ℕ) → size_in ws ≤ s → of_node (decode ws) s j ≡ 0
  unfolding decode
  node_none s j h = rw (le-ltb s (size (decode_table ws)) (rw (size_is ws) h))

  pair_words_lem : (x z : ℕ) → is_pair (decode_table ws) x z ≡ true
      → pair_words (decode_own ws x) z
      ≡ pair_word (bits 0 24 (link_at ws x z)) (flag 24 (link_at ws x z)) (flag 25 (link_at ws x z)) ∷ spare_word (bits 0 7 (spare_at ws x z)) ∷ []
  unfolding decode_own
  pair_words_lem x z e = rw e

  pair_word_lem : (x z j : ℕ) → is_pair (decode_table ws) x z ≡ true
      → of_pair (decode ws) x z j
      ≡ get_or (pair_word (bits 0 24 (link_at ws x z)) (flag 24 (link_at ws x z)) (flag 25 (link_at ws x z)) ∷ spare_word (bits 0 7 (spare_at ws x z)) ∷ []) j 0
  unfolding decode decode_node
  pair_word_lem x z j e = rw e (ap (λ (l : List ℕ). get_or l j 0) (pair_words_lem x z e))

  pair_none : (x z j : ℕ) → is_pair (decode_table ws) x z ≡ false → of_pair (decode ws) x z j ≡ 0
  unfolding decode
  pair_none x z j e = rw e

  message_word_lem : (k j : ℕ) → k < count_in ws → of_message (decode ws) k j ≡ get_or (message_words (decode_message ws k)) j 0
  message_word_lem k j h =
      rw (lt-ltb k (length (decode ws).messages) (rw count_is h)) (ap (λ (m : Message). get_or (message_words m) j 0) (message_is k h))

  message_none : (k j : ℕ) → count_in ws ≤ k → of_message (decode ws) k j ≡ 0
  message_none k j h = rw (le-ltb k (length (decode ws).messages) (rw count_is h))

  -- what is tested of a pair
  abbrev pair_tests : ℕ → ℕ → List Bool
  pair_tests x z =
      (ltb (bits 0 7 (spare_at ws x z)) (size_in ws) || eqb (bits 0 7 (spare_at ws x z)) none_node)
      ∷ not (eqb (bits 0 7 (spare_at ws x z)) x)
      ∷ not (eqb (bits 0 7 (spare_at ws x z)) z)
      ∷ (if flag 24 (link_at ws x z) then ltb 0 (bits 0 24 (link_at ws x z)) else eqb (bits 0 24 (link_at ws x z)) 0)
      ∷ leb (bits 0 24 (link_at ws x z)) (bits 0 24 (clock_at ws x))
      ∷ (not (flag 24 (link_at ws x z)) ⇒ eqb (bits 0 7 (spare_at ws x z)) none_node)
      ∷ []

  pair_fits_lem : (x z : ℕ) → x < size_in ws → is_pair (decode_table ws) x z ≡ true
      → pair_fits (decode_table ws) (decode_node ws x) x z ≡ every (pair_tests x z)
  unfolding pair_fits decode_node decode_own
  pair_fits_lem x z h e =
      let l : ltb x (size (decode_table ws)) ≡ true = lt-ltb x (size (decode_table ws)) (rw (size_is ws) h) in
      rw (e, l, size_is ws)

  head_word_lem : word_at (decode ws) 0 ≡ head_word (sides_of (at ws 0)) (size_in ws) (count_in ws)
  unfolding belongs word_at decode decode_table
  head_word_lem = rw (size_is ws, count_is)

  -- x and z are nodes
  pair_is : (x z : ℕ) → x < size_in ws → z < size_in ws → is_pair (decode_table ws) x z ≡ not (eqb x z)
  pair_is x z hx hz =
      rw (lt-ltb x (size (decode_table ws)) (rw (size_is ws) hx), lt-ltb z (size (decode_table ws)) (rw (size_is ws) hz))

  not_pair : (x z : ℕ) → (x < size_in ws → z < size_in ws → x ≡ z) → is_pair (decode_table ws) x z ≡ false
  not_pair x z f = is_false (is_pair (decode_table ws) x z) (λ e.
      let o = pair_other (decode_table ws) x z e in
      o.differs (sym (f (rw (size_is ws) at (pair_low (decode_table ws) x z e)) (rw (size_is ws) at o.low))))

  -- ---- from the whole to the regions

  module _ (long : length ws ≡ ring_length) (r : ReadsAsRing ws) where
    place : (i : ℕ) → i < ring_length → at ws i ≡ word_at (decode ws) i
    unfolding format_fits
    place i h = eqb-true (at ws i) (word_at (decode ws) i) (all_out ring_length (λ j. eqb (at ws j) (word_at (decode ws) j)) r.format i h)

    tests : Each (λ b. b ≡ true)
        (in_range (decode_table ws)
        ∷ keys_differ (decode_table ws)
        ∷ leb (length (decode ws).messages) 1024
        ∷ all (size (decode_table ws)) (λ x. node_fits (decode_table ws) (decode_node ws x) x)
        ∷ all (length (decode ws).messages) (λ k. message_fits (decode_table ws) (message_at (decode ws) k))
        ∷ senders_fit (decode ws)
        ∷ [])
    unfolding ring_fits decode
    tests = every_out _ r.fits

    ranges : Each (λ b. b ≡ true) (sides_fit (sides_of (at ws 0)) ∷ between 1 64 (size_in ws) ∷ [])
    unfolding in_range decode_table
    ranges = every_out _ (rw (size_is ws) at (first tests))

    size_high : size_in ws ≤ 64
    size_high = between_high 1 64 (size_in ws) (first (rest ranges))

    count_high : count_in ws ≤ 1024
    count_high = leb-true (count_in ws) 1024 (rw count_is at (first (rest (rest tests))))

    -- a stretch of places that are no node's, no pair's and no message's
    unused : (a e : ℕ) → 0 < a → e ≤ ring_length
        → ((s j : ℕ) → s < 64 → j < 2 → a ≤ node_place s + j → node_place s + j < e → size_in ws ≤ s)
        → ((x z j : ℕ) → x < 64 → z < 64 → j < 2 → a ≤ pair_place x z + j → pair_place x z + j < e → x < size_in ws → z < size_in ws → x ≡ z)
        → ((k j : ℕ) → k < 1024 → j < 5 → a ≤ message_place k + j → message_place k + j < e → count_in ws ≤ k)
        → clear ws a e ≡ true
    unused a e pos high fn fp fm =
        clear_in ws a e (λ i h l.
        every_place (λ i. a ≤ i → i < e → at ws i ≡ 0)
        (λ h₀ l₀. absurd (omega arith))
        (λ s j hs hj h₁ l₁. place (node_place s + j) (omega arith) ∙ node_at (decode ws) s j hs hj ∙ node_none s j (fn s j hs hj h₁ l₁))
        (λ x z j hx hz hj h₁ l₁.
        place (pair_place x z + j) (omega arith)
        ∙ pair_at (decode ws) x z j hx hz hj
        ∙ pair_none x z j (not_pair x z (fp x z j hx hz hj h₁ l₁)))
        (λ k j hk hj h₁ l₁. place (message_place k + j) (omega arith) ∙ message_at_lem (decode ws) k j hj ∙ message_none k j (fm k j hk hj h₁ l₁))
        i (omega arith) h l)

    head_reads_lem : head_reads (at ws 0) ≡ true
    unfolding head_reads
    head_reads_lem =
        every_in (cons (eq-eqb (at ws 0) (head_word (sides_of (at ws 0)) (size_in ws) (count_in ws)) (place 0 (lit< tt) ∙ head_word_lem))
        (cons (first ranges) (cons (first (rest ranges)) (cons (le-leb (count_in ws) 1024 count_high) nil))))

    nodes_read_lem : nodes_read ws (size_in ws) ≡ true
    unfolding nodes_read node_reads
    nodes_read_lem =
        all_in (size_in ws) (λ s. node_reads (key_at ws s) (clock_at ws s)) node
      where
        node : (s : ℕ) → s < size_in ws → node_reads (key_at ws s) (clock_at ws s) ≡ true
        node s h =
            let l : s < 64 = omega (arith, size_high) in
            every_in
            (cons (eq-eqb (key_at ws s) (key_word (bits 0 24 (key_at ws s)) (flag 24 (key_at ws s)))
            (ap (at ws) (sym (add-zero (node_place s)))
            ∙ place (node_place s + 0) (omega arith)
            ∙ node_at (decode ws) s 0 l (lit< tt)
            ∙ node_word s 0 h))
            (cons (eq-eqb (clock_at ws s) (clock_word (bits 0 24 (clock_at ws s)))
            (place (node_place s + 1) (omega arith) ∙ node_at (decode ws) s 1 l (lit< tt) ∙ node_word s 1 h))
            nil))

    after_nodes : clear ws (node_place (size_in ws)) 129 ≡ true
    after_nodes =
        unused (node_place (size_in ws)) 129 (omega arith) (omega arith)
        (λ s j hs hj h l. omega arith) (λ x z j hx hz hj h l. absurd (omega arith)) (λ k j hk hj h l. absurd (omega arith))

    -- what fits of node x
    module _ (x : ℕ) (hx : x < size_in ws) where
      node_tests : Each (λ b. b ≡ true)
          (all (size (decode_table ws)) (λ z. is_pair (decode_table ws) x z ⇒ pair_fits (decode_table ws) (decode_node ws x) x z)
          ∷ (not (decode_node ws x).running
          ⇒ all (size (decode_table ws)) (λ z. not ((decode_node ws x).own.held z) && not ((decode_node ws x).own.candidates z)))
          ∷ [])
      unfolding node_fits
      node_tests =
          every_out _ (all_out (size (decode_table ws)) (λ x. node_fits (decode_table ws) (decode_node ws x) x)
          (first (rest (rest (rest tests)))) x (rw (size_is ws) hx))

      off : (z : ℕ) → z < size_in ws → is_pair (decode_table ws) x z ≡ true → flag 24 (key_at ws x) ≡ false
          → (not (flag 24 (link_at ws x z)) && not (flag 25 (link_at ws x z))) ≡ true
      unfolding decode_node decode_own
      off z hz e f =
          rw e at (all_out (size (decode_table ws)) (λ z. not ((decode_node ws x).own.held z) && not ((decode_node ws x).own.candidates z))
          (implies_out (not (decode_node ws x).running)
          (all (size (decode_table ws)) (λ z. not ((decode_node ws x).own.held z) && not ((decode_node ws x).own.candidates z)))
          (first (rest node_tests))
          (rw (lt-ltb x (size (decode_table ws)) (rw (size_is ws) hx), f)))
          z (rw (size_is ws) hz))

      module _ (z : ℕ) (hz : z < size_in ws) where
        word : (j : ℕ) → j < 2 → at ws (pair_place x z + j) ≡ of_pair (decode ws) x z j
        word j hj = place (pair_place x z + j) (omega (arith, size_high)) ∙ pair_at (decode ws) x z j (omega (arith, size_high)) (omega (arith, size_high)) hj

        first_word : link_at ws x z ≡ of_pair (decode ws) x z 0
        first_word = ap (at ws) (sym (add-zero (pair_place x z))) ∙ word 0 (lit< tt)

        apart : eqb x z ≡ false → every
            (link_reads (bits 0 24 (clock_at ws x)) (link_at ws x z)
            ∷ spare_reads (size_in ws) x z (link_at ws x z) (spare_at ws x z)
            ∷ (not (flag 24 (key_at ws x)) ⇒ not (flag 24 (link_at ws x z)) && not (flag 25 (link_at ws x z)))
            ∷ []) ≡ true
        unfolding link_reads spare_reads
        apart d =
            let e : is_pair (decode_table ws) x z ≡ true = pair_is x z hx hz ∙ not_in d in
            let f = every_out (pair_tests x z) (sym (pair_fits_lem x z hx e)
            ∙ implies_out (is_pair (decode_table ws) x z) (pair_fits (decode_table ws) (decode_node ws x) x z)
            (all_out (size (decode_table ws)) (λ z. is_pair (decode_table ws) x z ⇒ pair_fits (decode_table ws) (decode_node ws x) x z)
            (first node_tests) z (rw (size_is ws) hz)) e) in
            let link : link_reads (bits 0 24 (clock_at ws x)) (link_at ws x z) ≡ true =
            every_in (cons (eq-eqb (link_at ws x z) _ (first_word ∙ pair_word_lem x z 0 e))
            (cons (first (rest (rest (rest f)))) (cons (first (rest (rest (rest (rest f))))) nil))) in
            let spare : spare_reads (size_in ws) x z (link_at ws x z) (spare_at ws x z) ≡ true =
            every_in (cons (eq-eqb (spare_at ws x z) _ (word 1 (lit< tt) ∙ pair_word_lem x z 1 e))
            (cons (first f) (cons (first (rest f)) (cons (first (rest (rest f))) (rest (rest (rest (rest (rest f)))))))))
            in
            every_in (cons link (cons spare (cons (implies_in _ _ (λ h. off z hz e (not_out (flag 24 (key_at ws x)) h))) nil)))

        pair_reads_lem : pair_reads ws (size_in ws) x z ≡ true
        unfolding pair_reads
        pair_reads_lem =
            decide (eqb x z)
            (λ e. rw e (let f = not_pair x z (λ a b. eqb-true x z e) in
            and_in (eq-eqb (link_at ws x z) 0 (first_word ∙ pair_none x z 0 f)) (eq-eqb (spare_at ws x z) 0 (word 1 (lit< tt) ∙ pair_none x z 1 f))))
            (λ e. rw e (apart e))

      row_reads_lem : row_reads ws (size_in ws) x ≡ true
      unfolding row_reads
      row_reads_lem =
          every_in (cons (all_in (size_in ws) (pair_reads ws (size_in ws) x) pair_reads_lem)
          (cons (unused (pair_place x (size_in ws)) (pair_place x 64) (omega arith) (omega (arith, size_high))
          (λ s j hs hj h l. absurd (omega arith))
          (λ y z j hy hz hj h l _ k. absurd (omega arith))
          (λ k j hk hj h l. absurd (omega (arith, size_high))))
          nil))

    pairs_read_lem : pairs_read ws (size_in ws) ≡ true
    unfolding pairs_read
    pairs_read_lem =
        every_in (cons (all_in (size_in ws) (row_reads ws (size_in ws)) row_reads_lem)
        (cons (unused (pair_place (size_in ws) 0) 8321 (omega arith) (omega arith)
        (λ s j hs hj h l. absurd (omega arith))
        (λ y z j hy hz hj h l k _. absurd (omega arith))
        (λ k j hk hj h l. absurd (omega arith)))
        nil))

    after_messages : clear ws (message_place (count_in ws)) ring_length ≡ true
    after_messages =
        unused (message_place (count_in ws)) ring_length (omega arith) (omega arith)
        (λ s j hs hj h l. absurd (omega arith)) (λ y z j hy hz hj h l _ _. absurd (omega arith)) (λ k j hk hj h l. omega arith)

    messages_read_lem : messages_read ws 8321 (decode_table ws) (count_in ws) ≡ true
    unfolding messages_read message_reads
    messages_read_lem =
        every_in (cons (all_in (count_in ws) (message_reads ws 8321 (decode_table ws)) message)
        (cons (senders_are ∙ first (rest (rest (rest (rest (rest tests)))))) nil))
      where
        message : (k : ℕ) → k < count_in ws → message_reads ws 8321 (decode_table ws) k ≡ true
        message k h =
            every_in
            (cons (all_in 5 (λ j. eqb (at ws (message_place k + j)) (get_or (message_words (decode_message ws k)) j 0))
            (λ j hj. eq-eqb (at ws (message_place k + j)) (get_or (message_words (decode_message ws k)) j 0)
            (place (message_place k + j) (omega (arith, count_high))
            ∙ message_at_lem (decode ws) k j hj
            ∙ message_word_lem k j h)))
            (cons (rw (message_is k h) at
            (all_out (length (decode ws).messages) (λ k. message_fits (decode_table ws) (message_at (decode ws) k))
            (first (rest (rest (rest (rest tests))))) k (rw count_is h)))
            nil))

  -- ---- from the regions to the whole

  module _ (r : regions_read ws ≡ true) where
    regions : Each (λ b. b ≡ true) (region_tests ws)
    unfolding regions_read
    regions = every_out (region_tests ws) r

    in_head_lem : Each (λ b. b ≡ true)
        (eqb (at ws 0) (head_word (sides_of (at ws 0)) (size_in ws) (count_in ws))
        ∷ sides_fit (sides_of (at ws 0))
        ∷ between 1 64 (size_in ws)
        ∷ leb (count_in ws) 1024
        ∷ [])
    unfolding head_reads
    in_head_lem = every_out _ (first regions)

    in_nodes : all (size_in ws) (λ s. node_reads (key_at ws s) (clock_at ws s)) ≡ true
    unfolding nodes_read
    in_nodes = first (rest regions)

    in_pairs : Each (λ b. b ≡ true) (all (size_in ws) (row_reads ws (size_in ws)) ∷ clear ws (pair_place (size_in ws) 0) 8321 ∷ [])
    unfolding pairs_read
    in_pairs = every_out _ (first (rest (rest (rest regions))))

    in_row : (x : ℕ) → x < size_in ws → Each (λ b. b ≡ true)
        (all (size_in ws) (pair_reads ws (size_in ws) x) ∷ clear ws (pair_place x (size_in ws)) (pair_place x 64) ∷ [])
    unfolding row_reads
    in_row x h = every_out _ (all_out (size_in ws) (row_reads ws (size_in ws)) (first in_pairs) x h)

    in_messages : Each (λ b. b ≡ true)
        (all (count_in ws) (message_reads ws 8321 (decode_table ws))
        ∷ senders_read ws 8321 (decode_table ws) (count_in ws)
        ∷ [])
    unfolding messages_read
    in_messages = every_out _ (first (rest (rest (rest (rest regions)))))

    in_message_lem : (k : ℕ) → k < count_in ws → Each (λ b. b ≡ true)
        (all 5 (λ j. eqb (at ws (message_place k + j)) (get_or (message_words (decode_message ws k)) j 0))
        ∷ message_fits (decode_table ws) (decode_message ws k)
        ∷ [])
    unfolding message_reads
    in_message_lem k h = every_out _ (all_out (count_in ws) (message_reads ws 8321 (decode_table ws)) (first in_messages) k h)

    node_format : (s j : ℕ) → s < 64 → j < 2 → at ws (node_place s + j) ≡ of_node (decode ws) s j
    unfolding node_reads
    node_format s j hs hj =
        elim (dec_lt s (size_in ws)) [
          | yes h ↦ each_word s h j hj ∙ sym (node_word s j h)
          | no d ↦
              clear_out ws (node_place (size_in ws)) 129 (first (rest (rest (rest (rest (rest (rest regions))))))) (node_place s + j)
              (omega arith) (omega arith)
              ∙ sym (node_none s j (omega arith))
        ]
      where
        each_word : (s : ℕ) → s < size_in ws → (j : ℕ) → j < 2
            → at ws (node_place s + j) ≡ get_or (key_word (bits 0 24 (key_at ws s)) (flag 24 (key_at ws s)) ∷ clock_word (bits 0 24 (clock_at ws s)) ∷ []) j 0
        each_word s h =
            let f = every_out
            (eqb (key_at ws s) (key_word (bits 0 24 (key_at ws s)) (flag 24 (key_at ws s)))
            ∷ eqb (clock_at ws s) (clock_word (bits 0 24 (clock_at ws s)))
            ∷ [])
            (all_out (size_in ws) (λ s. node_reads (key_at ws s) (clock_at ws s)) in_nodes s h)
            in
            two_words ws (node_place s)
            (λ j. get_or (key_word (bits 0 24 (key_at ws s)) (flag 24 (key_at ws s)) ∷ clock_word (bits 0 24 (clock_at ws s)) ∷ []) j 0)
            (eqb-true (key_at ws s) _ (first f)) (eqb-true (clock_at ws s) _ (first (rest f)))

    -- of a pair: what its words are, and what is tested of it
    module _ (x z : ℕ) (hx : x < size_in ws) (hz : z < size_in ws) where
      reads : pair_reads ws (size_in ws) x z ≡ true
      reads = all_out (size_in ws) (pair_reads ws (size_in ws) x) (first (in_row x hx)) z hz

      same : eqb x z ≡ true → (eqb (link_at ws x z) 0 && eqb (spare_at ws x z) 0) ≡ true
      unfolding pair_reads
      same e = rw e at reads

      apart_reads_lem : eqb x z ≡ false → Each (λ b. b ≡ true)
          (link_reads (bits 0 24 (clock_at ws x)) (link_at ws x z)
          ∷ spare_reads (size_in ws) x z (link_at ws x z) (spare_at ws x z)
          ∷ (not (flag 24 (key_at ws x)) ⇒ not (flag 24 (link_at ws x z)) && not (flag 25 (link_at ws x z)))
          ∷ [])
      unfolding pair_reads
      apart_reads_lem e = every_out _ (rw e at reads)

      in_link : eqb x z ≡ false → Each (λ b. b ≡ true)
          (eqb (link_at ws x z) (pair_word (bits 0 24 (link_at ws x z)) (flag 24 (link_at ws x z)) (flag 25 (link_at ws x z)))
          ∷ (if flag 24 (link_at ws x z) then ltb 0 (bits 0 24 (link_at ws x z)) else eqb (bits 0 24 (link_at ws x z)) 0)
          ∷ leb (bits 0 24 (link_at ws x z)) (bits 0 24 (clock_at ws x))
          ∷ [])
      unfolding link_reads
      in_link e = every_out _ (first (apart_reads_lem e))

      in_spare : eqb x z ≡ false → Each (λ b. b ≡ true)
          (eqb (spare_at ws x z) (spare_word (bits 0 7 (spare_at ws x z)))
          ∷ (ltb (bits 0 7 (spare_at ws x z)) (size_in ws) || eqb (bits 0 7 (spare_at ws x z)) none_node)
          ∷ not (eqb (bits 0 7 (spare_at ws x z)) x)
          ∷ not (eqb (bits 0 7 (spare_at ws x z)) z)
          ∷ (not (flag 24 (link_at ws x z)) ⇒ eqb (bits 0 7 (spare_at ws x z)) none_node)
          ∷ [])
      unfolding spare_reads
      in_spare e = every_out _ (first (rest (apart_reads_lem e)))

      pair_format_below : (j : ℕ) → j < 2 → at ws (pair_place x z + j) ≡ of_pair (decode ws) x z j
      pair_format_below j hj =
          decide (eqb x z)
          (λ e. two_words ws (pair_place x z) (λ j. 0)
          (eqb-true (link_at ws x z) 0 (and_left (eqb (link_at ws x z) 0) (eqb (spare_at ws x z) 0) (same e)))
          (eqb-true (spare_at ws x z) 0 (and_right (eqb (link_at ws x z) 0) (eqb (spare_at ws x z) 0) (same e))) j hj
          ∙ sym (pair_none x z j (not_pair x z (λ a b. eqb-true x z e))))
          (λ e. two_words ws (pair_place x z)
          (λ j. get_or
          (pair_word (bits 0 24 (link_at ws x z)) (flag 24 (link_at ws x z)) (flag 25 (link_at ws x z)) ∷ spare_word (bits 0 7 (spare_at ws x z)) ∷ []) j 0)
          (eqb-true (link_at ws x z) _ (first (in_link e)))
          (eqb-true (spare_at ws x z) _ (first (in_spare e))) j hj
          ∙ sym (pair_word_lem x z j (pair_is x z hx hz ∙ not_in e)))

      pair_tests_lem : is_pair (decode_table ws) x z ≡ true → pair_fits (decode_table ws) (decode_node ws x) x z ≡ true
      pair_tests_lem e =
          let d : eqb x z ≡ false = not_out (eqb x z) (sym (pair_is x z hx hz) ∙ e) in
          let l = rest (in_link d) in
          let s = rest (in_spare d) in
          pair_fits_lem x z hx e
          ∙ every_in {bs = pair_tests x z} (cons (first s) (cons (first (rest s)) (cons (first (rest (rest s)))
          (cons (first l) (cons (first (rest l)) (cons (first (rest (rest (rest s)))) nil))))))

    pair_format : (x z j : ℕ) → x < 64 → z < 64 → j < 2 → at ws (pair_place x z + j) ≡ of_pair (decode ws) x z j
    pair_format x z j hx hz hj =
        elim (dec_lt x (size_in ws)) [
          | yes a ↦ elim (dec_lt z (size_in ws)) [
            | yes b ↦ pair_format_below x z a b j hj
            | no b ↦
                clear_out ws (pair_place x (size_in ws)) (pair_place x 64) (first (rest (in_row x a))) (pair_place x z + j) (omega arith) (omega arith)
                ∙ sym (pair_none x z j (not_pair x z (λ _ h. absurd (b h))))
          ]
          | no a ↦
              clear_out ws (pair_place (size_in ws) 0) 8321 (first (rest in_pairs)) (pair_place x z + j) (omega arith) (omega arith)
              ∙ sym (pair_none x z j (not_pair x z (λ h _. absurd (a h))))
        ]

    message_format : (k j : ℕ) → k < 1024 → j < 5 → at ws (message_place k + j) ≡ of_message (decode ws) k j
    message_format k j hk hj =
        elim (dec_lt k (count_in ws)) [
          | yes h ↦
              eqb-true (at ws (message_place k + j)) (get_or (message_words (decode_message ws k)) j 0)
              (all_out 5 (λ j. eqb (at ws (message_place k + j)) (get_or (message_words (decode_message ws k)) j 0)) (first (in_message_lem k h)) j hj)
              ∙ sym (message_word_lem k j h)
          | no d ↦
              clear_out ws (message_place (count_in ws)) ring_length (first (rest (rest (rest (rest (rest regions))))))
              (message_place k + j) (omega arith) (omega arith)
              ∙ sym (message_none k j (omega arith))
        ]

    format : format_fits ws ≡ true
    unfolding format_fits
    format =
        all_in ring_length (λ i. eqb (at ws i) (word_at (decode ws) i)) (λ i h. eq-eqb (at ws i) (word_at (decode ws) i)
        (every_place (λ i. at ws i ≡ word_at (decode ws) i)
        (eqb-true (at ws 0) _ (first in_head_lem) ∙ sym head_word_lem)
        (λ s j hs hj. node_format s j hs hj ∙ sym (node_at (decode ws) s j hs hj))
        (λ x z j hx hz hj. pair_format x z j hx hz hj ∙ sym (pair_at (decode ws) x z j hx hz hj))
        (λ k j hk hj. message_format k j hk hj ∙ sym (message_at_lem (decode ws) k j hj))
        i h))

    node_fits_lem : (x : ℕ) → x < size_in ws → node_fits (decode_table ws) (decode_node ws x) x ≡ true
    unfolding node_fits decode_node decode_own
    node_fits_lem x hx =
        every_in (cons (all_in (size (decode_table ws)) (λ z. is_pair (decode_table ws) x z ⇒ pair_fits (decode_table ws) (decode_node ws x) x z)
        (λ z h. implies_in (is_pair (decode_table ws) x z) (pair_fits (decode_table ws) (decode_node ws x) x z) (pair_tests_lem x z hx (rw (size_is ws) at h))))
        (cons (implies_in (not (decode_node ws x).running)
        (all (size (decode_table ws)) (λ z. not ((decode_node ws x).own.held z) && not ((decode_node ws x).own.candidates z))) off) nil))
      where
        off : not (decode_node ws x).running ≡ true
            → all (size (decode_table ws)) (λ z. not ((decode_node ws x).own.held z) && not ((decode_node ws x).own.candidates z)) ≡ true
        off e =
            all_in (size (decode_table ws)) _ (λ z h. decide (is_pair (decode_table ws) x z)
            (λ p. rw p (implies_out _ _
            (first (rest (rest (apart_reads_lem x z hx (rw (size_is ws) at h) (not_out (eqb x z) (sym (pair_is x z hx (rw (size_is ws) at h)) ∙ p))))))
            (rw (lt-ltb x (size (decode_table ws)) (rw (size_is ws) hx)) at e)))
            (λ p. rw p))

    range : in_range (decode_table ws) ≡ true
    unfolding in_range decode_table
    range =
        every_in
        (cons (first (rest in_head_lem)) (cons {a = between 1 64 (size (decode_table ws))} (rw (size_is ws) (first (rest (rest in_head_lem)))) nil))

    few : leb (length (decode ws).messages) 1024 ≡ true
    few = rw count_is (first (rest (rest (rest in_head_lem))))

    fits : ring_fits (decode ws) ≡ true
    unfolding ring_fits decode
    fits =
        every_in (cons range
        (cons (first (rest (rest regions)))
        (cons few
        (cons (all_in (size (decode_table ws)) (λ x. node_fits (decode_table ws) (decode_node ws x) x) (λ x h. node_fits_lem x (rw (size_is ws) at h)))
        (cons (all_in (length (decode ws).messages) (λ k. message_fits (decode_table ws) (message_at (decode ws) k))
        (λ k h. rw (message_is k (rw count_is at h)) (first (rest (in_message_lem k (rw count_is at h))))))
        (cons (sym senders_are ∙ first (rest in_messages)) nil))))))

-- Words read as a ring exactly where each of their regions does.
pub regions_read_lem : (ws : List ℕ) → length ws ≡ ring_length → reads_as_ring ws ≡ regions_read ws
unfolding regions_read
regions_read_lem ws long =
    same_test (reads_as_ring ws) (regions_read ws)
    (λ e. let r = reads_out ws e in
    every_in (cons (head_reads_lem ws long r) (cons (nodes_read_lem ws long r) (cons (first (rest (tests ws long r)))
    (cons (pairs_read_lem ws long r) (cons (messages_read_lem ws long r) (cons (after_messages ws long r) (cons (after_nodes ws long r) nil))))))))
    (λ e. reads_in ws (record { long = long; format = format ws e; fits = fits ws e }))

-- ---- as the code joins the regions

pub head_ranges : (w : ℕ) → head_reads w ≡ true → (1 ≤ bits 4 7 w) × (bits 4 7 w ≤ 64) × (bits 11 11 w ≤ 1024)
unfolding head_reads
head_ranges w e =
    let p = every_out
    (eqb w (head_word (sides_of w) (bits 4 7 w) (bits 11 11 w)) ∷ sides_fit (sides_of w) ∷ between 1 64 (bits 4 7 w) ∷ leb (bits 11 11 w) 1024 ∷ []) e in (
      between_low 1 64 (bits 4 7 w) (first (rest (rest p))),
      between_high 1 64 (bits 4 7 w) (first (rest (rest p))),
      leb-true (bits 11 11 w) 1024 (first (rest (rest (rest p)))),
    )

module _ (ws : List ℕ) (long : length ws ≡ ring_length) where
  pub head_fails : head_reads (at ws 0) ≡ false → false ≡ reads_as_ring ws
  unfolding regions_read
  head_fails e = sym (regions_read_lem ws long ∙ rw e)

  pub after_head : head_reads (at ws 0) ≡ true
      → (nodes_read ws (size_in ws) && keys_differ (decode_table ws) && pairs_read ws (size_in ws)
      && messages_read ws 8321 (decode_table ws) (count_in ws) && clear ws (message_place (count_in ws)) ring_length
      && clear ws (node_place (size_in ws)) 129) ≡ reads_as_ring ws
  unfolding regions_read
  after_head e =
      rw (regions_read_lem ws long, e)
      (joined_every (nodes_read ws (size_in ws))
      (keys_differ (decode_table ws)
      ∷ pairs_read ws (size_in ws)
      ∷ messages_read ws 8321 (decode_table ws) (count_in ws)
      ∷ clear ws (message_place (count_in ws)) ring_length
      ∷ clear ws (node_place (size_in ws)) 129
      ∷ []))
