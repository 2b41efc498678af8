-- Two rings joined are a well-formed ring, which the written words read as: each fact of a node or message of the second is the fact that it
-- had, of numbers that rose by the first's n; the facts of the first's hold in the longer table.
use mathlib.Core.Path.{◌≡◌, refl, sym, ap, ap₂, ◌∙◌, subst}
use Prim.Native.Nat.{ℕ, ◌+◌, ◌-◌, ◌≤◌, ◌<◌}
use native.Mathlib.Omega.{arith}
use native.Mathlib.Decide.{dec_lt}
use mathlib.Core.Bool.{true, false, not, ◌&&◌, ◌||◌}
use mathlib.Core.List.{List, [], ◌∷◌, ◌++◌, map}
use lib.ListN.{length, get_or, length-append, length-map, get_or-append}
use lib.Seq.{get_or-append-add}
use lib.Dec.{ltb, leb, eqb}
use borrow.Author.Tests.{lt-ltb, le-ltb, ltb-true, ltb-false, leb-true, eqb-true, eqb-false, eq-eqb, ne_eqb}
use Rattle.std.specs.Prelude.{if◌then◌else◌}
use Rattle.model.specs.Sets.{Set}
use Rattle.model.specs.Leafset.{size, key}
use Rattle.model.specs.Ring.{Own, Node, Message, Ring, sent_by}
use Rattle.model.specs.WellFormed.{WellFormedSides, WellFormedTable, Other, Spare, none, spare}
use Rattle.model.specs.WellFormed.{WellFormedOwn, WellFormedNode, WellFormedMessage, WellFormed, Each, nil, cons}
use Rattle.model.specs.Answers.{first_of, is_accepted}
use Rattle.model.specs.Words.{ring_length, encode, decode, keys_differ, reads_as_ring}
use Rattle.model.specs.Buffer.{wrong_length, not_a_ring}
use Rattle.model.specs.Join.{raised, raised_set, raised_own, raised_node, raised_message, join, Joinable}
use Rattle.model.specs.Join.{shares_key, joining_refusals, join_refusals, join_answer, join_buffer}
use Rattle.model.specs.declared.values.Sides.{Sides}
use Rattle.model.proofs.Laws.{clash, and_left, and_right, and_in, or_left, or_right, or_none_left, or_none_right}
use Rattle.model.proofs.Laws.{not_in, not_out_false, decide, if_law, is_false, same_test, all_in, some_out, some_none}
use Rattle.model.proofs.Senders.{sent_append, sent_none, sent_map}
use Rattle.model.proofs.LeafsetSize.{same_key}
use Rattle.model.proofs.Lists.{first, rest, each_append, each_imp, each_map}
use Rattle.model.proofs.Answers.{none_applies, no_more, passes}
use Rattle.model.proofs.Words.{reads_out}
use Rattle.model.proofs.RoundTrip.{round_trip}
use Rattle.model.proofs.Fits.{encoded_reads}
use Rattle.model.proofs.Decoded.{reads_well}

-- ---- in a longer table

wider_other : {n k x y : ℕ} → n ≤ k → Other n x y → Other k x y
wider_other h o = record { low = omega (arith, o.low); differs = o.differs }

wider_spare : {n k x z y : ℕ} → n ≤ k → Spare n x z y → Spare k x z y
wider_spare h none = none
wider_spare h (spare o d) = spare (wider_other h o) d

wider_node : {n k x : ℕ} (s : Node) → n ≤ k → x < n → WellFormedNode n x s → WellFormedNode k x s
wider_node s h low g =
    record {
      running_low = λ e. omega (arith, g.running_low e);
      clock_high = g.clock_high;
      clock_none = λ d. absurd (d (omega arith));
      own_well = record {
        held_other = λ z e. wider_other h (g.own_well.held_other z e);
        candidate_other = λ z e. wider_other h (g.own_well.candidate_other z e);
        commit_held = g.own_well.commit_held;
        commit_none = g.own_well.commit_none;
        commit_high = g.own_well.commit_high;
        spare_other = λ z. wider_spare h (g.own_well.spare_other z);
        spare_none = g.own_well.spare_none;
      };
      off_held = g.off_held;
      off_candidates = g.off_candidates;
    }

wider_message : {n k : ℕ} (m : Message) → n ≤ k → WellFormedMessage n m → WellFormedMessage k m
wider_message m h g =
    record {
      type_known = g.type_known;
      sender_low = omega (arith, g.sender_low);
      receiver_low = omega (arith, g.receiver_low);
      ends_differ = g.ends_differ;
      subject_none = g.subject_none;
      subject_low = λ e d. omega (arith, g.subject_low e d);
      subject_spare = λ e. wider_spare h (g.subject_spare e);
      stamp_none = g.stamp_none;
      stamp_high = g.stamp_high;
      view_type = g.view_type;
      view_other = λ y e. wider_other h (g.view_other y e);
    }

-- ---- numbers that rose by n, of a table of k

module _ (n k : ℕ) (room : n + k ≤ 64) where
  -- a node's number
  pub raised_is : (y : ℕ) → y < k → raised n y ≡ y + n
  raised_is y h = rw (ne_eqb y 64 (λ e. omega arith))

  -- x and y, which are u and v risen
  raised_other : {x y u v : ℕ} → x ≡ u + n → y ≡ v + n → Other k u v → Other (n + k) x y
  raised_other p q o = record { low = omega (arith, o.low); differs = λ e. o.differs (omega arith) }

  raised_spare : {x z u v y : ℕ} → x ≡ u + n → z ≡ v + n → Spare k u v y → Spare (n + k) x z (raised n y)
  raised_spare p q none = none
  raised_spare {x} {z} p q (spare {y} o d) =
      subst (Spare (n + k) x z) (sym (raised_is y o.low)) (spare (raised_other p refl o) (λ e. d (omega arith)))

  back : (x : ℕ) → n ≤ x → x ≡ (x - n) + n
  back x h = omega arith

  -- a member of a raised set
  member_high : (S : Set) (z : ℕ) → raised_set n S z ≡ true → n ≤ z
  member_high S z e = leb-true n z (and_left (leb n z) (S (z - n)) e)

  member_was : (S : Set) (z : ℕ) → raised_set n S z ≡ true → S (z - n) ≡ true
  member_was S z e = and_right (leb n z) (S (z - n)) e

  member_not : (S : Set) (z : ℕ) → leb n z ≡ true → raised_set n S z ≡ false → S (z - n) ≡ false
  member_not S z h e = is_false (S (z - n)) (λ t. clash (and_in h t) e)

  module _ (x clock : ℕ) (high : n ≤ x) (o : Own) (g : WellFormedOwn k (x - n) clock o) where
    raised_own_lem : WellFormedOwn (n + k) x clock (raised_own n o)
    raised_own_lem =
        record {
          held_other = λ z e. raised_other (back x high) (back z (member_high o.held z e)) (g.held_other (z - n) (member_was o.held z e));
          candidate_other = λ z e.
              raised_other (back x high) (back z (member_high o.candidates z e)) (g.candidate_other (z - n) (member_was o.candidates z e));
          commit_held = λ z e. rw (and_left (leb n z) (o.held (z - n)) e) (g.commit_held (z - n) (member_was o.held z e));
          commit_none = λ z e.
              if_law (λ (c : ℕ). c ≡ 0) (leb n z) (o.commit (z - n)) 0 (λ h. g.commit_none (z - n) (member_not o.held z h e)) (λ h. refl);
          commit_high = λ z. if_law (λ (c : ℕ). c ≤ clock) (leb n z) (o.commit (z - n)) 0 (λ h. g.commit_high (z - n)) (λ h. omega arith);
          spare_other = λ z.
              if_law (Spare (n + k) x z) (leb n z) (raised n (o.spare (z - n))) 64
              (λ h. raised_spare (back x high) (back z (leb-true n z h)) (g.spare_other (z - n))) (λ h. none);
          spare_none = λ z e.
              if_law (λ (y : ℕ). y ≡ 64) (leb n z) (raised n (o.spare (z - n))) 64
              (λ h. ap (raised n) (g.spare_none (z - n) (member_not o.held z h e))) (λ h. refl);
        }

  raised_node_lem : (x : ℕ) → n ≤ x → (s : Node) → WellFormedNode k (x - n) s → WellFormedNode (n + k) x (raised_node n s)
  raised_node_lem x high s g =
      record {
        running_low = λ e. omega (arith, g.running_low e);
        clock_high = g.clock_high;
        clock_none = λ d. g.clock_none (λ h. d (omega arith));
        own_well = raised_own_lem x s.clock high s.own g.own_well;
        off_held = λ e z. is_false (raised_set n s.own.held z) (λ t. clash (member_was s.own.held z t) (g.off_held e (z - n)));
        off_candidates = λ e z.
            is_false (raised_set n s.own.candidates z) (λ t. clash (member_was s.own.candidates z t) (g.off_candidates e (z - n)));
      }

  raised_message_lem : (m : Message) → WellFormedMessage k m → WellFormedMessage (n + k) (raised_message n m)
  raised_message_lem m g =
      let from : raised n m.sender ≡ m.sender + n = raised_is m.sender g.sender_low in
      let to : raised n m.receiver ≡ m.receiver + n = raised_is m.receiver g.receiver_low in
      record {
        type_known = g.type_known;
        sender_low = omega (arith, g.sender_low);
        receiver_low = omega (arith, g.receiver_low);
        ends_differ = λ e. g.ends_differ (omega arith);
        subject_none = λ e. ap (raised n) (g.subject_none e);
        subject_low = λ e d. omega (arith, g.subject_low e d, raised_is m.subject (g.subject_low e d));
        subject_spare = λ e. raised_spare to from (g.subject_spare e);
        stamp_none = g.stamp_none;
        stamp_high = g.stamp_high;
        view_type = λ y e. g.view_type (y - n) (member_was m.view y e);
        view_other = λ y e. raised_other to (back y (member_high m.view y e)) (g.view_other (y - n) (member_was m.view y e));
      }

-- ---- the join

module _ (r s : Ring) where
  abbrev n : ℕ
  n = size r.table

  abbrev k : ℕ
  k = size s.table

  pub joined_size : size (join r s).table ≡ size r.table + size s.table
  unfolding join
  joined_size = length-append r.table.keys s.table.keys

  pub first_key : (x : ℕ) → x < size r.table → key (join r s).table x ≡ key r.table x
  unfolding join
  first_key x h = get_or-append r.table.keys s.table.keys 0 x h

  pub second_key : (x : ℕ) → size r.table ≤ x → key (join r s).table x ≡ key s.table (x - size r.table)
  unfolding join
  second_key x h =
      let e : x ≡ n + (x - n) = omega arith in
      ap (λ (i : ℕ). get_or (r.table.keys ++ s.table.keys) i 0) e ∙ get_or-append-add r.table.keys s.table.keys (x - n) 0

  joined_count : length (join r s).messages ≡ length r.messages + length s.messages
  unfolding join
  joined_count = length-append r.messages _ ∙ ap (λ (i : ℕ). length r.messages + i) (length-map s.messages (raised_message n))

  -- the node of a number, by its ring
  pub first_node : (x : ℕ) → x < size r.table → (join r s).node x ≡ r.node x
  unfolding join
  first_node x h = rw (lt-ltb x n h)

  pub second_node : (x : ℕ) → size r.table ≤ x → (join r s).node x ≡ raised_node (size r.table) (s.node (x - size r.table))
  unfolding join
  second_node x h = rw (le-ltb x n h)

  -- a node of the joined table is one of the first, or one of the second
  pub by_ring : {P : Type 0} (x : ℕ) → (x < size r.table → P) → (size r.table ≤ x → P) → P
  by_ring x f g = elim (dec_lt x n) [ yes h ↦ f h | no d ↦ g (omega arith) ]

  module _ (g : WellFormed r) (h : WellFormed s) (may : Joinable r s) where
    -- two places have one key only if they are one: within a ring by what it had, across the two since no key is shared
    joined_once : (x y : ℕ) → x < n + k → y < n + k → key (join r s).table x ≡ key (join r s).table y → x ≡ y
    joined_once x y hx hy same =
        by_ring x
        (λ lx. by_ring y
        (λ ly. same_key r.table g.table_well x y lx ly (sym (first_key x lx) ∙ same ∙ first_key y ly))
        (λ ly. absurd (may.no_shared_key x (y - n) lx (omega arith) (sym (first_key x lx) ∙ same ∙ second_key y ly))))
        (λ lx. by_ring y
        (λ ly. absurd (may.no_shared_key y (x - n) ly (omega arith) (sym (first_key y ly) ∙ sym same ∙ second_key x lx)))
        (λ ly.
        let e : x - n ≡ y - n =
        same_key s.table h.table_well (x - n) (y - n) (omega arith) (omega arith) (sym (second_key x lx) ∙ same ∙ second_key y ly) in
        omega arith))

    joined_differ : keys_differ (join r s).table ≡ true
    unfolding keys_differ
    joined_differ =
        all_in (size (join r s).table) _ (λ x hx. all_in (size (join r s).table) _ (λ y hy.
        decide (eqb x y) (or_left (not (eqb (key (join r s).table x) (key (join r s).table y)))) (λ e. or_right (eqb x y)
        (not_in (ne_eqb (key (join r s).table x) (key (join r s).table y)
        (λ same. eqb-false x y e (joined_once x y (omega (arith, joined_size)) (omega (arith, joined_size)) same)))))))

    joined_sides : WellFormedSides (join r s).table.sides
    unfolding join
    joined_sides = g.table_well.sides_well

    joined_table : WellFormedTable (join r s).table
    joined_table =
        record {
          sides_well = joined_sides;
          size_low = omega (arith, joined_size, g.table_well.size_low);
          size_high = omega (arith, joined_size, may.size_fits);
          key_high = λ x hx. by_ring x
              (λ l. rw (first_key x l) (g.table_well.key_high x l))
              (λ l. rw (second_key x l) (h.table_well.key_high (x - n) (omega (arith, joined_size))));
          keys_differ_lem = joined_differ;
        }

    -- "its senders come from one ring each"
    joined_few : (x : ℕ) → x < n + k → sent_by x (r.messages ++ map (raised_message n) s.messages) ≤ 256
    joined_few x hx =
        let both = sent_append x r.messages (map (raised_message n) s.messages) in
        by_ring x
        (λ l. omega (
          arith,
          both,
          g.senders_few x l,
          sent_none x (each_map {Q = λ m. m.sender ≡ x → ⊥} (raised_message n)
              (λ m w e. omega (arith, raised_is n k may.size_fits m.sender w.sender_low)) h.messages_well),
        ))
        (λ l. omega (
          arith,
          both,
          h.senders_few (x - n) (omega arith),
          sent_none x (each_imp {Q = λ m. m.sender ≡ x → ⊥} (λ m w e. omega (arith, w.sender_low)) g.messages_well),
          sent_map (raised_message n) (x - n) x
              (each_imp (λ m w.
              let rose = raised_is n k may.size_fits m.sender w.sender_low in
              same_test (eqb (raised n m.sender) x) (eqb m.sender (x - n))
              (λ e. eq-eqb m.sender (x - n) (omega (arith, rose, eqb-true (raised n m.sender) x e)))
              (λ e. eq-eqb (raised n m.sender) x (omega (arith, rose, eqb-true m.sender (x - n) e))))
              h.messages_well),
        ))

    -- the join of well-formed rings that may be joined is well-formed
    pub joined_well : WellFormed (join r s)
    unfolding join
    joined_well =
        record {
          table_well = joined_table;
          node_well = λ x. rw joined_size
              (if_law (WellFormedNode (n + k) x) (ltb x n) (r.node x) (raised_node n (s.node (x - n)))
              (λ e. wider_node (r.node x) (omega arith) (ltb-true x n e) (g.node_well x))
              (λ e. raised_node_lem n k may.size_fits x (ltb-false x n e) (s.node (x - n)) (h.node_well (x - n))));
          messages_well = rw joined_size
              (each_append
              (each_imp (λ m. wider_message m (omega arith)) g.messages_well)
              (each_map (raised_message n) (raised_message_lem n k may.size_fits) h.messages_well));
          count_high = omega (arith, joined_count, may.messages_fit);
          senders_few = λ x hx. joined_few x (omega (arith, joined_size));
        }

-- ---- an accepted join

-- where 14, 15 and 16 do not apply
may_join : (r s : Ring) → Each (λ q. q.applies ≡ false) (joining_refusals r s) → Joinable r s
may_join r s e =
    let a : ℕ × ℕ = (r.table.sides.ahead, s.table.sides.ahead) in
    let b : ℕ × ℕ = (r.table.sides.behind, s.table.sides.behind) in
    let same : (eqb a.0 a.1 && eqb b.0 b.1) ≡ true = not_out_false _ (first e) in
    let fits : ltb 64 (size r.table + size s.table) ≡ false = or_none_left _ (shares_key r s) (first (rest e)) in
    let own : shares_key r s ≡ false = or_none_right (ltb 64 (size r.table + size s.table)) _ (first (rest e)) in
    record {
      same_sides = ap₂ {C = Sides} (λ (i j : ℕ). record { ahead = i; behind = j })
          (eqb-true a.0 a.1 (and_left _ (eqb b.0 b.1) same)) (eqb-true b.0 b.1 (and_right (eqb a.0 a.1) _ same));
      size_fits = ltb-false 64 _ fits;
      no_shared_key = λ x y hx hy. eqb-false (key r.table x) (key s.table y)
          (some_none (size s.table) _ (some_none (size r.table) _ own x hx) y hy);
      messages_fit = ltb-false 1024 _ (first (rest (rest e)));
    }

-- and where the two may be joined, none of these applies
none_joining : (r s : Ring) → Joinable r s → Each (λ q. q.applies ≡ false) (joining_refusals r s)
none_joining r s may =
    cons (ap not (and_in (eq-eqb _ _ (ap (λ (q : Sides). q.ahead) may.same_sides)) (eq-eqb _ _ (ap (λ (q : Sides). q.behind) may.same_sides))))
    (cons (ap₂ ◌||◌ (le-ltb 64 (size r.table + size s.table) may.size_fits) (is_false (shares_key r s) shared))
    (cons (le-ltb 1024 (length r.messages + length s.messages) may.messages_fit) nil))
  where
    shared : shares_key r s ≡ true → ⊥
    shared t =
        let p = some_out (size r.table) _ t in
        let q = some_out (size s.table) _ p.2 in
        may.no_shared_key p.0 q.0 p.1 q.1 (eqb-true (key r.table p.0) (key s.table q.0) q.2)

-- a join is accepted: two buffers that read as rings, a third of the right length, and neither 14 nor 15 nor 16
pub accepts :
    (first-words second-words third : List ℕ) → reads_as_ring first-words ≡ true → reads_as_ring second-words ≡ true → length third ≡ ring_length
    → Joinable (decode first-words) (decode second-words)
    → join_answer first-words second-words third ≡ 0
unfolding join_answer
accepts first-words second-words third e f l may =
    passes (join_refusals first-words second-words third) []
    (cons (ap not (eq-eqb (length first-words) ring_length (reads_out first-words e).long))
    (cons (ap not (eq-eqb (length second-words) ring_length (reads_out second-words f).long))
    (cons (ap not (eq-eqb (length third) ring_length l))
    (cons (ap not e)
    (cons (ap not f) (none_joining (decode first-words) (decode second-words) may))))))
    ∙ no_more

module _ (first-words second-words third : List ℕ) (ok : join_answer first-words second-words third ≡ 0) where
  abbrev r : Ring
  r = decode first-words

  abbrev s : Ring
  s = decode second-words

  passed : Each (λ q. q.applies ≡ false) (join_refusals first-words second-words third)
  unfolding join_answer
  passed =
      none_applies (join_refusals first-words second-words third)
      (cons refl (cons refl (cons refl (cons refl (cons refl (cons refl (cons refl (cons refl nil)))))))) ok

  abbrev sources : Each (λ q. q.applies ≡ false) (not_a_ring first-words ∷ not_a_ring second-words ∷ joining_refusals r s)
  sources = rest (rest (rest passed))

  pub first_reads_lem : reads_as_ring first-words ≡ true
  first_reads_lem = not_out_false (reads_as_ring first-words) (first sources)

  pub second_reads : reads_as_ring second-words ≡ true
  second_reads = not_out_false (reads_as_ring second-words) (first (rest sources))

  pub joinable : Joinable (decode first-words) (decode second-words)
  joinable = may_join r s (rest (rest sources))

  pub accepted_well : WellFormed (join (decode first-words) (decode second-words))
  accepted_well = joined_well r s (reads_well first-words first_reads_lem) (reads_well second-words second_reads) joinable

  pub accepted_words : (join_buffer first-words second-words third).words ≡ encode (join (decode first-words) (decode second-words))
  unfolding join_buffer
  accepted_words = ap (λ (a : ℕ). if is_accepted a then encode (join r s) else third) ok

  -- the written words read as a ring, which is the join of the two
  pub join_reads : reads_as_ring (join_buffer first-words second-words third).words ≡ true
  join_reads = ap reads_as_ring accepted_words ∙ encoded_reads (join r s) accepted_well

  pub join_decodes : decode (join_buffer first-words second-words third).words ≡ join (decode first-words) (decode second-words)
  join_decodes = ap decode accepted_words ∙ round_trip (join r s) accepted_well

-- of the third buffer only the length matters
pub third_length :
    (first-words second-words third other : List ℕ) → length third ≡ length other
    → join_answer first-words second-words third ≡ join_answer first-words second-words other
unfolding join_answer
third_length first-words second-words third other e =
    ap (λ (l : ℕ).
    first_of
    (wrong_length first-words ∷ wrong_length second-words ∷ record { number = 1; applies = not (eqb l ring_length) }
    ∷ not_a_ring first-words ∷ not_a_ring second-words ∷ joining_refusals (decode first-words) (decode second-words))) e
