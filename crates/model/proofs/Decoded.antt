-- What words that read as a ring decode to is a well-formed ring.
use mathlib.Core.Path.{◌≡◌, sym, subst}
use Prim.Native.Nat.{ℕ, ◌+◌, ◌*◌, ◌^◌, ◌≤◌, ◌<◌}
use native.Mathlib.Omega.{arith}
use mathlib.Core.Bool.{Bool, true, false, not, ◌&&◌, ◌||◌}
use mathlib.Core.List.{List, [], ◌∷◌}
use lib.ListN.{length, get_or}
use lib.Dec.{ltb, leb, eqb}
use borrow.Author.Tests.{le-ltb, ltb-true, leb-true, eqb-true, eqb-false}
use Rattle.std.specs.Prelude.{if◌then◌else◌}
use Rattle.model.specs.Choice.{◌⇒◌, every}
use Rattle.model.specs.Sets.{all}
use Rattle.model.specs.Leafset.{Table, size, key}
use Rattle.model.specs.Ring.{Own, Node, Message, blank, message_at}
use Rattle.model.specs.Fields.{bits}
use Rattle.model.specs.WellFormed.{WellFormedTable, Spare, none, spare, WellFormedOwn, WellFormedNode, WellFormedMessage, WellFormed, Each}
use Rattle.model.specs.Types.{uses_view, uses_subject, names_spare, uses_stamp}
use Rattle.model.specs.Words.{is_pair, node_place, message_place, decode_table, decode_own, decode_node, decode_message_at, decode_message, decode}
use Rattle.model.specs.Words.{between, sides_fit}
use Rattle.model.specs.Words.{in_range, keys_differ, node_or_none, pair_fits, node_fits, subject_fits, message_tests, message_fits, senders_fit, ring_fits}
use Rattle.model.specs.Words.{reads_as_ring}
use Rattle.model.proofs.Fits.{sides_out}
use Rattle.model.proofs.Laws.{clash, and_left, and_right, or_case, or_left, or_right, implies_out, not_out, not_in, between_low, between_high}
use Rattle.model.proofs.Laws.{every_out, then_out, else_out, decide, is_false, if_law, all_out, length_tabulate, get_d_tabulate}
use Rattle.model.proofs.Senders.{senders_out}
use Rattle.model.proofs.Lists.{first, rest, each_of}
use Rattle.model.proofs.Fields.{bits<}
use Rattle.model.proofs.Bits.{bit_below}
use Rattle.model.proofs.Words.{pair_low, pair_other, reads_out}

-- ---- what a pair that fits is

record PairFacts (t : Table) (s : Node) (x z : ℕ) : Type 0 where
  spare_other : Spare (size t) x z (s.own.spare z)
  commit_held : s.own.held z ≡ true → 0 < s.own.commit z
  commit_none : s.own.held z ≡ false → s.own.commit z ≡ 0
  commit_high : s.own.commit z ≤ s.clock
  spare_none : s.own.held z ≡ false → s.own.spare z ≡ 64

is_spare : (t : Table) (x z y : ℕ) → node_or_none t y ≡ true → eqb y x ≡ false → eqb y z ≡ false → Spare (size t) x z y
is_spare t x z y a b c =
    or_case (ltb y (size t)) (eqb y 64) a
    (λ h. spare (record { low = ltb-true y (size t) h; differs = eqb-false y x b }) (eqb-false y z c))
    (λ h. subst (Spare (size t) x z) (sym (eqb-true y 64 h)) none)

pair_facts : (t : Table) (s : Node) (x z : ℕ) → pair_fits t s x z ≡ true → PairFacts t s x z
unfolding pair_fits
pair_facts t s x z p =
    let o : Own = s.own in
    let q = every_out
    (node_or_none t (o.spare z) ∷ not (eqb (o.spare z) x) ∷ not (eqb (o.spare z) z)
    ∷ (if o.held z then ltb 0 (o.commit z) else eqb (o.commit z) 0) ∷ leb (o.commit z) s.clock ∷ (not (o.held z) ⇒ eqb (o.spare z) 64) ∷ []) p in
    record {
      spare_other =
          is_spare t x z (o.spare z) (first q)
          (not_out (eqb (o.spare z) x) (first (rest q))) (not_out (eqb (o.spare z) z) (first (rest (rest q))));
      commit_held = λ h. ltb-true 0 (o.commit z) (then_out (o.held z) (ltb 0 (o.commit z)) (eqb (o.commit z) 0) (first (rest (rest (rest q)))) h);
      commit_none = λ h. eqb-true (o.commit z) 0 (else_out (o.held z) (ltb 0 (o.commit z)) (eqb (o.commit z) 0) (first (rest (rest (rest q)))) h);
      commit_high = leb-true (o.commit z) s.clock (first (rest (rest (rest (rest q)))));
      spare_none = λ h. eqb-true (o.spare z) 64 (implies_out (not (o.held z)) (eqb (o.spare z) 64) (first (rest (rest (rest (rest (rest q)))))) (not_in h));
    }

-- ---- what a message that fits is, where its stamp has room and its view is of nodes below 64

message_facts : (t : Table) (m : Message) → message_fits t m ≡ true → m.stamp ≤ 16777215 → ((y : ℕ) → m.view y ≡ true → y < 64) → WellFormedMessage (size t) m
unfolding message_fits
message_facts t m p stamp view =
    let q = every_out (message_tests t m) p in
    let seen : (y : ℕ) → m.view y ≡ true → Each (λ b. b ≡ true) (named y) =
    λ y e. every_out (named y) (implies_out (m.view y) (every (named y))
    (all_out 64 (λ v. m.view v ⇒ every (named v)) (first (rest (rest (rest (rest (rest (rest (rest q)))))))) y (view y e)) e)
    in
    record {
      type_known = first q;
      sender_low = ltb-true m.sender (size t) (first (rest q));
      receiver_low = ltb-true m.receiver (size t) (first (rest (rest q)));
      ends_differ = eqb-false m.sender m.receiver (not_out (eqb m.sender m.receiver) (first (rest (rest (rest q)))));
      subject_none = λ e. eqb-true m.subject 64 (else_out (uses_subject m.type) used (eqb m.subject 64) (first (rest (rest (rest (rest q))))) e);
      subject_low = λ e d. or_case (ltb m.subject (size t)) (names_spare m.type && eqb m.subject 64)
          (then_out (uses_subject m.type) used (eqb m.subject 64) (first (rest (rest (rest (rest q))))) e)
          (λ h. ltb-true m.subject (size t) h)
          (λ h. clash (and_left (names_spare m.type) (eqb m.subject 64) h) d);
      subject_spare = λ e. of_spare (first (rest (rest (rest (rest q)))))
          (implies_out (names_spare m.type) (not (eqb m.subject m.sender) && not (eqb m.subject m.receiver))
          (first (rest (rest (rest (rest (rest q)))))) e);
      stamp_none = λ e. or_case (uses_stamp m.type) (eqb m.stamp 0) (first (rest (rest (rest (rest (rest (rest q)))))))
          (λ h. clash h e) (λ h. eqb-true m.stamp 0 h);
      stamp_high = stamp;
      view_type = λ y e. first (seen y e);
      view_other = λ y e. record {
        low = ltb-true y (size t) (first (rest (seen y e)));
        differs = eqb-false y m.receiver (not_out (eqb y m.receiver) (first (rest (rest (seen y e)))));
      };
    }
  where
    named : ℕ → List Bool
    named y = uses_view m.type ∷ ltb y (size t) ∷ not (eqb y m.receiver) ∷ []

    used : Bool
    used = ltb m.subject (size t) || (names_spare m.type && eqb m.subject 64)

    node_or_none_lem : subject_fits t m ≡ true → node_or_none t m.subject ≡ true
    node_or_none_lem f =
        decide (uses_subject m.type)
        (λ u. or_case (ltb m.subject (size t)) (names_spare m.type && eqb m.subject 64)
        (then_out (uses_subject m.type) used (eqb m.subject 64) f u)
        (or_left (eqb m.subject 64))
        (λ h. or_right (ltb m.subject (size t)) (and_right (names_spare m.type) (eqb m.subject 64) h)))
        (λ u. or_right (ltb m.subject (size t)) (else_out (uses_subject m.type) used (eqb m.subject 64) f u))

    of_spare : subject_fits t m ≡ true → (not (eqb m.subject m.sender) && not (eqb m.subject m.receiver)) ≡ true
        → Spare (size t) m.receiver m.sender m.subject
    of_spare f d =
        is_spare t m.receiver m.sender m.subject (node_or_none_lem f)
        (not_out (eqb m.subject m.receiver) (and_right (not (eqb m.subject m.sender)) (not (eqb m.subject m.receiver)) d))
        (not_out (eqb m.subject m.sender) (and_left (not (eqb m.subject m.sender)) (not (eqb m.subject m.receiver)) d))

-- ---- what words whose ring fits decode to

module _ (ws : List ℕ) (fits : ring_fits (decode ws) ≡ true) where
  abbrev t : Table
  t = decode_table ws

  ring_parts : Each (λ b. b ≡ true)
      (in_range t ∷ keys_differ t ∷ leb (length (decode ws).messages) 1024 ∷ all (size t) (λ x. node_fits t (decode_node ws x) x)
      ∷ all (length (decode ws).messages) (λ k. message_fits t (message_at (decode ws) k)) ∷ senders_fit (decode ws) ∷ [])
  unfolding ring_fits decode
  ring_parts = every_out _ fits

  decoded_key : (s : ℕ) → s < size t → key t s ≤ 16777215
  unfolding decode_table
  decoded_key s h =
      let f : ℕ → ℕ = λ (i : ℕ). bits 0 24 (get_or ws (node_place i) 0) in
      let n : ℕ = bits 4 7 (get_or ws 0 0) in
      let e : key t s ≡ bits 0 24 (get_or ws (node_place s) 0) = get_d_tabulate f 0 n s (subst (λ (k : ℕ). s < k) (length_tabulate f n) h) in
      let l = bits< 0 24 (get_or ws (node_place s) 0) in
      rw e (omega arith)

  decoded_table : WellFormedTable t
  unfolding in_range
  decoded_table =
      let range = every_out (sides_fit t.sides ∷ between 1 64 (size t) ∷ []) (first ring_parts) in
      record {
        sides_well = sides_out t.sides (first range);
        size_low = between_low 1 64 (size t) (first (rest range));
        size_high = between_high 1 64 (size t) (first (rest range));
        key_high = decoded_key;
        keys_differ_lem = first (rest ring_parts);
      }

  module _ (x : ℕ) where
    abbrev s : Node
    s = decode_node ws x

    node_parts : x < size t → Each (λ b. b ≡ true)
        (all (size t) (λ z. is_pair t x z ⇒ pair_fits t s x z)
        ∷ (not s.running ⇒ all (size t) (λ z. not (s.own.held z) && not (s.own.candidates z))) ∷ [])
    unfolding node_fits
    node_parts h = every_out _ (all_out (size t) (λ y. node_fits t (decode_node ws y) y) (first (rest (rest (rest ring_parts)))) x h)

    facts : (z : ℕ) → is_pair t x z ≡ true → PairFacts t s x z
    facts z e =
        pair_facts t s x z
        (implies_out (is_pair t x z) (pair_fits t s x z)
        (all_out (size t) (λ z. is_pair t x z ⇒ pair_fits t s x z) (first (node_parts (pair_low t x z e))) z (pair_other t x z e).low) e)

    -- what is no pair is empty
    held_pair : (z : ℕ) → s.own.held z ≡ true → is_pair t x z ≡ true
    unfolding decode_node decode_own
    held_pair z e = and_left (is_pair t x z) _ e

    candidate_pair : (z : ℕ) → s.own.candidates z ≡ true → is_pair t x z ≡ true
    unfolding decode_node decode_own
    candidate_pair z e = and_left (is_pair t x z) _ e

    no_commit : (z : ℕ) → is_pair t x z ≡ false → s.own.commit z ≡ 0
    unfolding decode_node decode_own
    no_commit z e = rw e

    no_spare_lem : (z : ℕ) → is_pair t x z ≡ false → s.own.spare z ≡ 64
    unfolding decode_node decode_own
    no_spare_lem z e = rw e

    decoded_own : WellFormedOwn (size t) x s.clock s.own
    decoded_own =
        record {
          held_other = λ z e. pair_other t x z (held_pair z e);
          candidate_other = λ z e. pair_other t x z (candidate_pair z e);
          commit_held = λ z e. (facts z (held_pair z e)).commit_held e;
          commit_none = λ z e. decide (is_pair t x z) (λ p. (facts z p).commit_none e) (no_commit z);
          commit_high = λ z. decide (is_pair t x z) (λ p. (facts z p).commit_high) (λ p. let i = no_commit z p in omega arith);
          spare_other = λ z. decide (is_pair t x z) (λ p. (facts z p).spare_other) (λ p. subst (Spare (size t) x z) (sym (no_spare_lem z p)) none);
          spare_none = λ z e. decide (is_pair t x z) (λ p. (facts z p).spare_none e) (no_spare_lem z);
        }

    running_low : s.running ≡ true → x < size t
    unfolding decode_node
    running_low e = ltb-true x (size t) (and_left (ltb x (size t)) _ e)

    clock_high : s.clock ≤ 16777215
    unfolding decode_node
    clock_high =
        if_law (λ (c : ℕ). c ≤ 16777215) (ltb x (size t)) (bits 0 24 (get_or ws (node_place x + 1) 0)) 0
        (λ e. let l = bits< 0 24 (get_or ws (node_place x + 1) 0) in omega arith)
        (λ e. omega arith)

    clock_none : (x < size t → ⊥) → s.clock ≡ 0
    unfolding decode_node
    clock_none d = rw (le-ltb x (size t) (omega arith))

    -- a node that is off is empty
    off : s.running ≡ false → (z : ℕ) → is_pair t x z ≡ true → (not (s.own.held z) && not (s.own.candidates z)) ≡ true
    off e z p =
        all_out (size t) (λ z. not (s.own.held z) && not (s.own.candidates z))
        (implies_out (not s.running) (all (size t) (λ z. not (s.own.held z) && not (s.own.candidates z)))
        (first (rest (node_parts (pair_low t x z p)))) (not_in e))
        z (pair_other t x z p).low

    decoded_node : WellFormedNode (size t) x s
    decoded_node =
        record {
          running_low = running_low;
          clock_high = clock_high;
          clock_none = clock_none;
          own_well = decoded_own;
          off_held = λ e z. is_false (s.own.held z) (λ h. clash h
              (not_out (s.own.held z) (and_left (not (s.own.held z)) (not (s.own.candidates z)) (off e z (held_pair z h)))));
          off_candidates = λ e z. is_false (s.own.candidates z) (λ h. clash h
              (not_out (s.own.candidates z) (and_right (not (s.own.held z)) (not (s.own.candidates z)) (off e z (candidate_pair z h)))));
        }

  Room : Message → Type 0
  Room m = (m.stamp ≤ 16777215) × ((y : ℕ) → m.view y ≡ true → y < 64)

  has_room : (k : ℕ) → Room (decode_message ws k)
  unfolding Room decode_message_at
  has_room k =
      let p : ℕ = message_place k in
      let l = bits< 0 24 (get_or ws (p + 1) 0) in
      let a = bits< 0 24 (get_or ws (p + 2) 0) in
      let b = bits< 0 24 (get_or ws (p + 3) 0) in
      let c = bits< 0 16 (get_or ws (p + 4) 0) in
      let view : ℕ = bits 0 24 (get_or ws (p + 2) 0) + 2 ^ 24 * bits 0 24 (get_or ws (p + 3) 0) + 2 ^ 48 * bits 0 16 (get_or ws (p + 4) 0) in
      (omega arith, λ y e. bit_below 64 view y (omega arith) e)

  decoded_message : (k : ℕ) → k < length (decode ws).messages → WellFormedMessage (size t) (message_at (decode ws) k)
  unfolding decode Room
  decoded_message k h =
      let n : ℕ = bits 11 11 (get_or ws 0 0) in
      let e : message_at (decode ws) k ≡ decode_message ws k =
      get_d_tabulate (decode_message ws) blank n k (subst (λ (j : ℕ). k < j) (length_tabulate (decode_message ws) n) h) in
      let room : Room (message_at (decode ws) k) = subst Room (sym e) (has_room k) in
      message_facts t (message_at (decode ws) k)
      (all_out (length (decode ws).messages) (λ j. message_fits t (message_at (decode ws) j)) (first (rest (rest (rest (rest ring_parts))))) k h)
      room.0 room.1

  -- a ring that fits, read from words, is well-formed
  decoded_well : WellFormed (decode ws)
  unfolding decode
  decoded_well =
      record {
        table_well = decoded_table;
        node_well = decoded_node;
        messages_well = each_of blank (decode ws).messages decoded_message;
        count_high = leb-true (length (decode ws).messages) 1024 (first (rest (rest ring_parts)));
        senders_few = senders_out (decode ws) (first (rest (rest (rest (rest (rest ring_parts))))));
      }

-- words that read as a ring decode to a well-formed one
pub reads_well : (ws : List ℕ) → reads_as_ring ws ≡ true → WellFormed (decode ws)
reads_well ws e = decoded_well ws (reads_out ws e).fits
