-- The words of a well-formed ring decode to that ring.
use mathlib.Core.Path.{◌≡◌, refl, sym, ap, ap₂, ◌∙◌}
use Prim.Native.Nat.{ℕ, ◌+◌, ◌*◌, ◌/◌, ◌%◌, ◌^◌, ◌≤◌, ◌<◌}
use native.Mathlib.Nat.{add-zero, mod-lt, mod-eq_of_lt, div-add-mod'}
use native.Mathlib.Omega.{arith}
use native.Mathlib.Decide.{dec_lt}
use mathlib.Core.Bool.{Bool, true, false, ◌&&◌}
use mathlib.Core.List.{List}
use lib.ListN.{length, get_or}
use lib.Dec.{ltb, eqb, lit<}
use borrow.Author.Tests.{le-ltb, lt-ltb}
use Rattle.std.specs.Prelude.{if◌then◌else◌}
use Rattle.model.specs.Sets.{tabulate, to_bits, of_bits}
use Rattle.model.specs.Leafset.{size, key}
use Rattle.model.specs.Ring.{Ring, Message, blank, message_at}
use Rattle.model.specs.Fields.{bits, bit}
use Rattle.model.specs.Types.{uses_subject, names_spare}
use Rattle.model.specs.Words.{is_pair, head_word, key_word, clock_word, pair_word, spare_word, message_word, stamp_word, view_word, node_words, pair_words}
use Rattle.model.specs.Words.{message_words, node_place, pair_place, message_place, belongs, word_at, encode, decode_table, decode_own, decode_node}
use Rattle.model.specs.Words.{decode_message_at, decode_message, decode}
use Rattle.model.specs.WellFormed.{WellFormedTable, Spare, none, spare, WellFormedNode, WellFormedMessage, WellFormed}
use Rattle.model.proofs.Fields.{field}
use Rattle.model.proofs.Words.{well_room, HeadRead, head_reads_lem, encode_at, node_at, pair_at, message_at_lem, pair_in, pair_low, pair_other}
use Rattle.model.proofs.Laws.{clash, decide, is_false, tabulate_cong, tabulate_get_d}
use Rattle.model.proofs.Types.{type_room}
use Rattle.model.proofs.Bits.{bit<, is_bit, to_bits<, bits_back}
use Rattle.model.proofs.Lists.{each_at}

-- 64 is the highest spare and the highest subject

pub spare_high : {n x z y : ℕ} → n ≤ 64 → Spare n x z y → y ≤ 64
spare_high h none = omega arith
spare_high h (spare o d) = let l = o.low in omega arith

pub subject_high : (n : ℕ) (m : Message) → n ≤ 64 → WellFormedMessage n m → m.subject ≤ 64
subject_high n m h g = go (uses_subject m.type) refl
  where
    go : (b : Bool) → uses_subject m.type ≡ b → m.subject ≤ 64
    go true e = decide (names_spare m.type) (λ i. spare_high h (g.subject_spare i)) (λ d. let l = g.subject_low e d in omega arith)
    go false e = let i = g.subject_none e in omega arith

-- a number below 2 ^ 64, from its three parts
parts : (B : ℕ) → B < 2 ^ 64 → bits 0 24 B + 2 ^ 24 * bits 24 24 B + 2 ^ 48 * bits 48 16 B ≡ B
parts B h =
    let a : B / 2 ^ 24 * 2 ^ 24 + B % 2 ^ 24 ≡ B = div-add-mod' B (2 ^ 24) in
    let b : B / 2 ^ 24 / 2 ^ 24 * 2 ^ 24 + B / 2 ^ 24 % 2 ^ 24 ≡ B / 2 ^ 24 = div-add-mod' (B / 2 ^ 24) (2 ^ 24) in
    let c : B / 2 ^ 24 / 2 ^ 24 ≡ B / 2 ^ 48 = omega arith in
    let d : B / 2 ^ 48 % 2 ^ 16 ≡ B / 2 ^ 48 = mod-eq_of_lt (omega arith) in
    let e : bits 0 24 B ≡ B % 2 ^ 24 = ap (λ (w : ℕ). w % 2 ^ 24) (omega arith) in
    rw (e, d) (omega (arith, a, b, c))

-- a part of the view, in its word
part_back : (width hi v : ℕ) → 2 ^ 28 ≡ hi * 2 ^ width → v < 2 ^ width → bits 0 width (8 * 2 ^ 28 + v) ≡ v
part_back width hi v e h =
    field 0 width (8 * hi) v 0 (ap (λ (w : ℕ). 8 * w + v) e ∙ omega arith) (lit< tt) h

module _ (r : Ring) (g : WellFormed r) where
  ws : List ℕ
  ws = encode r

  gt : WellFormedTable r.table
  gt = g.table_well

  word0 : get_or ws 0 0 ≡ head_word r.table.sides (size r.table) (length r.messages)
  unfolding ws belongs word_at
  word0 = encode_at r 0 (lit< tt)

  head_read : HeadRead (get_or ws 0 0) r.table.sides (size r.table) (length r.messages)
  head_read = head_reads_lem r.table.sides (well_room gt.sides_well) (omega (arith, gt.size_high)) (omega (arith, g.count_high)) word0

  -- ---- nodes

  word_node : (s i : ℕ) → s < size r.table → i < 2 → get_or ws (node_place s + i) 0 ≡ get_or (node_words (key r.table s) (r.node s)) i 0
  unfolding ws
  word_node s i hs hi =
      encode_at r (node_place s + i) (omega (arith, gt.size_high))
      ∙ node_at r s i (omega (arith, gt.size_high)) hi
      ∙ rw (lt-ltb s (size r.table) hs)

  first_of_node : (s : ℕ) → s < size r.table → get_or ws (node_place s) 0 ≡ key_word (key r.table s) (r.node s).running
  first_of_node s h = ap (λ (p : ℕ). get_or ws p 0) (sym (add-zero (node_place s))) ∙ word_node s 0 h (lit< tt)

  key_back : (s : ℕ) → s < size r.table → bits 0 24 (get_or ws (node_place s) 0) ≡ key r.table s
  unfolding key_word
  key_back s h =
      field 0 24 (2 ^ 5 + bit (r.node s).running) (key r.table s) 0
      (first_of_node s h ∙ omega arith)
      (lit< tt) (omega (arith, gt.key_high s h))

  table_back : decode_table ws ≡ r.table
  unfolding decode_table
  table_back =
      ap₂ (λ a b. record { sides = a; keys = b }) head_read.sides_back
      (ap (λ k. tabulate k (λ s. bits 0 24 (get_or ws (node_place s) 0))) head_read.size_back
      ∙ tabulate_cong (λ s. bits 0 24 (get_or ws (node_place s) 0)) (key r.table) (size r.table) key_back
      ∙ tabulate_get_d 0 r.table.keys)

  running_back : (s : ℕ) → (ltb s (size (decode_table ws)) && eqb (bits 24 1 (get_or ws (node_place s) 0)) 1) ≡ (r.node s).running
  unfolding key_word
  running_back s =
      elim (dec_lt s (size r.table)) [
        | yes h ↦ rw (table_back, lt-ltb s (size r.table) h)
            (ap (λ (b : ℕ). eqb b 1)
            (field 24 1 (2 ^ 4) (bit (r.node s).running) (key r.table s)
            (first_of_node s h ∙ omega arith)
            (omega (arith, gt.key_high s h)) (bit< (r.node s).running))
            ∙ is_bit (r.node s).running)
        | no d ↦ rw (table_back, le-ltb s (size r.table) (omega arith))
            (sym (is_false (r.node s).running (λ e. d ((g.node_well s).running_low e))))
      ]

  clock_back : (s : ℕ) → (if ltb s (size (decode_table ws)) then bits 0 24 (get_or ws (node_place s + 1) 0) else 0) ≡ (r.node s).clock
  unfolding clock_word
  clock_back s =
      elim (dec_lt s (size r.table)) [
        | yes h ↦ rw (table_back, lt-ltb s (size r.table) h)
            (field 0 24 (5 * 2 ^ 4) (r.node s).clock 0
            (word_node s 1 h (lit< tt) ∙ omega arith)
            (lit< tt) (omega (arith, (g.node_well s).clock_high)))
        | no d ↦ rw (table_back, le-ltb s (size r.table) (omega arith)) (sym ((g.node_well s).clock_none d))
      ]

  -- ---- pairs

  -- what is no pair is not held, and no candidate
  held_pair : (x z : ℕ) → (r.node x).own.held z ≡ true → is_pair r.table x z ≡ true
  held_pair x z e =
      let gn : WellFormedNode (size r.table) x (r.node x) = g.node_well x in
      pair_in r.table x z
      (decide (r.node x).running (λ h. gn.running_low h) (λ h. clash e (gn.off_held h z)))
      (gn.own_well.held_other z e)

  candidate_pair : (x z : ℕ) → (r.node x).own.candidates z ≡ true → is_pair r.table x z ≡ true
  candidate_pair x z e =
      let gn : WellFormedNode (size r.table) x (r.node x) = g.node_well x in
      pair_in r.table x z
      (decide (r.node x).running (λ h. gn.running_low h) (λ h. clash e (gn.off_candidates h z)))
      (gn.own_well.candidate_other z e)

  not_held : (x z : ℕ) → is_pair r.table x z ≡ false → (r.node x).own.held z ≡ false
  not_held x z e = is_false ((r.node x).own.held z) (λ h. clash (held_pair x z h) e)

  word_pair : (x z i : ℕ) → is_pair r.table x z ≡ true → i < 2 → get_or ws (pair_place x z + i) 0 ≡ get_or (pair_words (r.node x).own z) i 0
  unfolding ws
  word_pair x z i e hi =
      let hx : x < size r.table = pair_low r.table x z e in
      let hz : z < size r.table = (pair_other r.table x z e).low in
      encode_at r (pair_place x z + i) (omega (arith, gt.size_high))
      ∙ pair_at r x z i (omega (arith, gt.size_high)) (omega (arith, gt.size_high)) hi
      ∙ rw e

  module _ (x z : ℕ) where
    c : ℕ
    c = bit ((r.node x).own.candidates z)

    h : ℕ
    h = bit ((r.node x).own.held z)

    stamp : ℕ
    stamp = (r.node x).own.commit z

    stamp_high : stamp ≤ 16777215
    unfolding stamp
    stamp_high = let a = (g.node_well x).clock_high in let b = (g.node_well x).own_well.commit_high z in omega arith

    first_of_pair : is_pair r.table x z ≡ true → get_or ws (pair_place x z) 0 ≡ 3 * 2 ^ 28 + (c * 2 ^ 25 + h * 2 ^ 24 + stamp)
    unfolding pair_word c h stamp
    first_of_pair e = ap (λ (p : ℕ). get_or ws p 0) (sym (add-zero (pair_place x z))) ∙ word_pair x z 0 e (lit< tt)

    held_back : (is_pair (decode_table ws) x z && eqb (bits 24 1 (get_or ws (pair_place x z) 0)) 1) ≡ (r.node x).own.held z
    unfolding h
    held_back =
        rw table_back
        (decide (is_pair r.table x z)
        (λ e. rw e
        (ap (λ (b : ℕ). eqb b 1)
        (field 24 1 (3 * 2 ^ 3 + c) h stamp (first_of_pair e ∙ omega arith) (omega (arith, stamp_high)) (bit< ((r.node x).own.held z)))
        ∙ is_bit ((r.node x).own.held z)))
        (λ e. rw e (sym (not_held x z e))))

    candidate_back : (is_pair (decode_table ws) x z && eqb (bits 25 1 (get_or ws (pair_place x z) 0)) 1) ≡ (r.node x).own.candidates z
    unfolding c h
    candidate_back =
        rw table_back
        (decide (is_pair r.table x z)
        (λ e. rw e
        (ap (λ (b : ℕ). eqb b 1)
        (field 25 1 (3 * 2 ^ 2) c (h * 2 ^ 24 + stamp) (first_of_pair e ∙ omega arith)
        (omega (arith, stamp_high, bit< ((r.node x).own.held z))) (bit< ((r.node x).own.candidates z)))
        ∙ is_bit ((r.node x).own.candidates z)))
        (λ e. rw e (sym (is_false ((r.node x).own.candidates z) (λ k. clash (candidate_pair x z k) e)))))

    commit_back : (if is_pair (decode_table ws) x z then bits 0 24 (get_or ws (pair_place x z) 0) else 0) ≡ (r.node x).own.commit z
    unfolding stamp
    commit_back =
        rw table_back
        (decide (is_pair r.table x z)
        (λ e. rw e (field 0 24 (3 * 2 ^ 4 + c * 2 + h) stamp 0 (first_of_pair e ∙ omega arith) (lit< tt) (omega (arith, stamp_high))))
        (λ e. rw e (sym ((g.node_well x).own_well.commit_none z (not_held x z e)))))

    spare_back : (if is_pair (decode_table ws) x z then bits 0 7 (get_or ws (pair_place x z + 1) 0) else 64) ≡ (r.node x).own.spare z
    unfolding spare_word
    spare_back =
        rw table_back
        (decide (is_pair r.table x z)
        (λ e. rw e
        (field 0 7 (4 * 2 ^ 21) ((r.node x).own.spare z) 0 (word_pair x z 1 e (lit< tt) ∙ omega arith) (lit< tt)
        (omega (arith, spare_high gt.size_high ((g.node_well x).own_well.spare_other z)))))
        (λ e. rw e (sym ((g.node_well x).own_well.spare_none z (not_held x z e)))))

  own_back : (x : ℕ) → decode_own ws x ≡ (r.node x).own
  unfolding decode_own
  own_back x =
      λ i. record {
        held = λ z. held_back x z i;
        candidates = λ z. candidate_back x z i;
        commit = λ z. commit_back x z i;
        spare = λ z. spare_back x z i;
      }

  -- ---- messages

  module _ (k : ℕ) (hk : k < length r.messages) where
    well : WellFormedMessage (size r.table) (message_at r k)
    well = each_at g.messages_well blank k hk

    word_message : (i : ℕ) → i < 5 → get_or ws (message_place k + i) 0 ≡ get_or (message_words (message_at r k)) i 0
    unfolding ws
    word_message i hi = encode_at r (message_place k + i) (omega (arith, g.count_high)) ∙ message_at_lem r k i hi ∙ rw (lt-ltb k (length r.messages) hk)

    first_of_message : get_or ws (message_place k) 0
        ≡ 6 * 2 ^ 28 + ((message_at r k).subject * 2 ^ 16 + (message_at r k).receiver * 2 ^ 10 + (message_at r k).sender * 2 ^ 4 + (message_at r k).type)
    unfolding message_word
    first_of_message = ap (λ (q : ℕ). get_or ws q 0) (sym (add-zero (message_place k))) ∙ word_message 0 (lit< tt)

    type_back : bits 0 4 (get_or ws (message_place k) 0) ≡ (message_at r k).type
    type_back =
        field 0 4 (6 * 2 ^ 24 + (message_at r k).subject * 2 ^ 12 + (message_at r k).receiver * 2 ^ 6 + (message_at r k).sender) (message_at r k).type 0
        (first_of_message ∙ omega arith) (lit< tt) (omega (arith, type_room (message_at r k).type well.type_known))

    sender_back : bits 4 6 (get_or ws (message_place k) 0) ≡ (message_at r k).sender
    sender_back =
        field 4 6 (6 * 2 ^ 18 + (message_at r k).subject * 2 ^ 6 + (message_at r k).receiver) (message_at r k).sender (message_at r k).type
        (first_of_message ∙ omega arith) (omega (arith, type_room (message_at r k).type well.type_known)) (omega (arith, well.sender_low, gt.size_high))

    receiver_back : bits 10 6 (get_or ws (message_place k) 0) ≡ (message_at r k).receiver
    receiver_back =
        field 10 6 (6 * 2 ^ 12 + (message_at r k).subject) (message_at r k).receiver ((message_at r k).sender * 2 ^ 4 + (message_at r k).type)
        (first_of_message ∙ omega arith)
        (omega (arith, type_room (message_at r k).type well.type_known, well.sender_low, gt.size_high))
        (omega (arith, well.receiver_low, gt.size_high))

    subject_back : bits 16 7 (get_or ws (message_place k) 0) ≡ (message_at r k).subject
    subject_back =
        field 16 7 (6 * 2 ^ 5) (message_at r k).subject ((message_at r k).receiver * 2 ^ 10 + (message_at r k).sender * 2 ^ 4 + (message_at r k).type)
        (first_of_message ∙ omega arith)
        (omega (arith, type_room (message_at r k).type well.type_known, well.sender_low, well.receiver_low, gt.size_high))
        (omega (arith, subject_high (size r.table) (message_at r k) gt.size_high well))

    stamp_back : bits 0 24 (get_or ws (message_place k + 1) 0) ≡ (message_at r k).stamp
    unfolding stamp_word
    stamp_back = field 0 24 (7 * 2 ^ 4) (message_at r k).stamp 0 (word_message 1 (lit< tt) ∙ omega arith) (lit< tt) (omega (arith, well.stamp_high))

    abbrev B : ℕ
    B = to_bits 64 (message_at r k).view

    low_back : bits 0 24 (get_or ws (message_place k + 2) 0) ≡ bits 0 24 (to_bits 64 (message_at r k).view)
    unfolding view_word
    low_back = ap (bits 0 24) (word_message 2 (lit< tt)) ∙ part_back 24 (2 ^ 4) (bits 0 24 B) refl (mod-lt (B / 2 ^ 0) (lit< tt))

    middle_back : bits 0 24 (get_or ws (message_place k + 3) 0) ≡ bits 24 24 (to_bits 64 (message_at r k).view)
    unfolding view_word
    middle_back = ap (bits 0 24) (word_message 3 (lit< tt)) ∙ part_back 24 (2 ^ 4) (bits 24 24 B) refl (mod-lt (B / 2 ^ 24) (lit< tt))

    high_back : bits 0 16 (get_or ws (message_place k + 4) 0) ≡ bits 48 16 (to_bits 64 (message_at r k).view)
    unfolding view_word
    high_back = ap (bits 0 16) (word_message 4 (lit< tt)) ∙ part_back 16 (2 ^ 12) (bits 48 16 B) refl (mod-lt (B / 2 ^ 48) (lit< tt))

    view_back : of_bits (bits 0 24 (get_or ws (message_place k + 2) 0)
        + 2 ^ 24 * bits 0 24 (get_or ws (message_place k + 3) 0)
        + 2 ^ 48 * bits 0 16 (get_or ws (message_place k + 4) 0)) ≡ (message_at r k).view
    view_back =
        ap of_bits (rw (low_back, middle_back, high_back) (parts B (to_bits< 64 (message_at r k).view)))
        ∙ bits_back 64 (message_at r k).view (λ y e. let l = (well.view_other y e).low in omega (arith, gt.size_high))

    message_back : decode_message ws k ≡ message_at r k
    unfolding decode_message_at
    message_back =
        λ i. record {
          type = type_back i;
          sender = sender_back i;
          receiver = receiver_back i;
          subject = subject_back i;
          stamp = stamp_back i;
          view = view_back i;
        }

  messages_back : tabulate (bits 11 11 (get_or ws 0 0)) (decode_message ws) ≡ r.messages
  messages_back =
      ap (λ (k : ℕ). tabulate k (decode_message ws)) head_read.count_back
      ∙ tabulate_cong (decode_message ws) (message_at r) (length r.messages) message_back
      ∙ tabulate_get_d blank r.messages

  -- the words of a well-formed ring spell that ring
  pub round_trip : decode (encode r) ≡ r
  unfolding ws decode decode_node
  round_trip =
      λ i. record {
        table = table_back i;
        node = λ s. record { running = running_back s i; clock = clock_back s i; own = own_back s i };
        messages = messages_back i;
      }
