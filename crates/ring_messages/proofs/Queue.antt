-- The messages in the words of a ring: taking one out, and adding one.
use mathlib.Core.Path.{◌≡◌, sym, ap, ◌∙◌}
use mathlib.Core.List.{List, [], ◌∷◌, ◌++◌}
use Prim.Native.Nat.{ℕ, suc, ◌+◌, ◌-◌, ◌*◌, ◌/◌, ◌%◌, ◌^◌, ◌<◌, ◌≤◌}
use native.Mathlib.Omega.{arith}
use native.Mathlib.Decide.{dec_lt}
use lib.Dec.{lit<}
use lib.ListN.{length, get_or, take, drop, set, length-set, length-append, length-take, length-drop, get_or-append}
use lib.Seq.{get_or-take, get_or-drop, get_or-append-add, length-take-le, get_or-append_seam, get_or-set_same, get_or-set_other}
use borrow.Author.Tests.{lt-ltb, le-ltb}
use Rattle.model.specs.Leafset.{size}
use Rattle.model.specs.Ring.{Message, Ring, blank}
use Rattle.model.specs.Fields.{bits}
use Rattle.model.specs.Words.{sides_of, head_word, message_word, stamp_word, view_word, message_words, message_place}
use Rattle.model.specs.Play.{set_messages, remove_message}
use Rattle.model.specs.Structs.{message_of}
use Rattle.model.specs.declared.message.MessageRecord.{MessageRecord}
use Rattle.model.proofs.Words.{head_reads_lem, message_at_lem}
use Rattle.sets.proofs.Bits.{to_bits_of_bits}
use Rattle.ring_head.specs.Parts.{Encodes, RoomTable}
use Rattle.ring_head.proofs.Holds.{Holds, holds, head_at, messages_written}
use Rattle.ring_ranges.specs.Spans.{Patched}

-- ---- a list without one element

module _ (ms : List Message) (k : ℕ) (h : k < length ms) where
  abbrev less : List Message
  less = take k ms ++ drop (suc k) ms

  length_less : length less ≡ length ms - 1
  length_less = simp (length-append, length-take, length-drop) (omega arith)

  less_low : (i : ℕ) → i < k → get_or less i blank ≡ get_or ms i blank
  less_low i l =
      let t : length (take k ms) ≡ k = length-take-le k ms (omega arith) in
      get_or-append (take k ms) (drop (suc k) ms) blank i (omega arith) ∙ get_or-take k ms i blank l

  less_high : (i : ℕ) → k ≤ i → get_or less i blank ≡ get_or ms (i + 1) blank
  less_high i l =
      let t : length (take k ms) ≡ k = length-take-le k ms (omega arith) in
      let e : i ≡ length (take k ms) + (i - k) = omega arith in
      let g : suc k + (i - k) ≡ i + 1 = omega arith in
      ap (λ (j : ℕ). get_or less j blank) e ∙ get_or-append-add (take k ms) (drop (suc k) ms) (i - k) blank
      ∙ get_or-drop (suc k) ms (i - k) blank ∙ ap (λ (j : ℕ). get_or ms j blank) g

-- ---- the words of a ring with another count in the first

-- the first word with the count c
abbrev pub counted : List ℕ → ℕ → List ℕ
counted ws c = set ws 0 (head_word (sides_of (get_or ws 0 0)) (bits 4 7 (get_or ws 0 0)) c)

module _ (ρ : Ring) (ws : List ℕ) (n m : ℕ) (is : Encodes ws n m ρ) (few : m ≤ 1024) (c : ℕ) where
  h : Holds ρ ws
  h = holds ρ ws is.words

  counted_long : length (counted ws c) ≡ length ws
  counted_long = length-set ws 0 _

  counted_head : get_or (counted ws c) 0 0 ≡ head_word ρ.table.sides (size ρ.table) c
  counted_head =
      let r : RoomTable ρ.table = is.room in
      let e : get_or ws 0 0 ≡ head_word ρ.table.sides (size ρ.table) (length ρ.messages) = h.word 0 (lit< tt) ∙ head_at ρ in
      let b = head_reads_lem ρ.table.sides r.sides_room (omega (arith, r.size_room)) (omega (arith, is.count, few)) e in
      get_or-set_same ws 0 _ 0 (omega (arith, h.long)) ∙ rw (b.sides_back, b.size_back)

  counted_other : (i : ℕ) → 0 < i → get_or (counted ws c) i 0 ≡ get_or ws i 0
  counted_other i l = get_or-set_other ws 0 i _ 0 (omega arith)

  was : (k i : ℕ) → k < m → i < 5 → get_or (counted ws c) (message_place k + i) 0 ≡ get_or (message_words (get_or ρ.messages k blank)) i 0
  was k i hk hi =
      counted_other (message_place k + i) (omega arith) ∙ h.word (message_place k + i) (omega arith) ∙ message_at_lem ρ k i hi
      ∙ rw (lt-ltb k (length ρ.messages) (omega (arith, is.count)))

  was_none : (k i : ℕ) → m ≤ k → k < 1024 → i < 5 → get_or (counted ws c) (message_place k + i) 0 ≡ 0
  was_none k i hk hl hi =
      counted_other (message_place k + i) (omega arith) ∙ h.word (message_place k + i) (omega arith) ∙ message_at_lem ρ k i hi
      ∙ rw (le-ltb k (length ρ.messages) (omega (arith, is.count)))

-- ---- taking one out: the count, the later messages moved down, the last one cleared

module _ (ρ : Ring) (ws a v ws' : List ℕ) (n m k : ℕ) (few : m ≤ 1024) (h : k < m) (is : Encodes ws n m ρ)
    (e : a ≡ counted ws (m - 1)) (p : Patched a v (message_place k) (8316 + 5 * m) (λ i. get_or a (i + 5) 0))
    (u : Patched v ws' (8316 + 5 * m) (message_place m) (λ i. 0)) where
  s : Patched (counted ws (m - 1)) v (message_place k) (8316 + 5 * m) (λ i. get_or (counted ws (m - 1)) (i + 5) 0)
  s = rw e at p

  out : List Message
  out = take k ρ.messages ++ drop (suc k) ρ.messages

  out_length : length out ≡ m - 1
  unfolding out
  out_length = length_less ρ.messages k (omega (arith, is.count)) ∙ ap (λ (j : ℕ). j - 1) is.count

  kept : (j i : ℕ) → j < k → i < 5 → get_or v (message_place j + i) 0 ≡ get_or (message_words (get_or out j blank)) i 0
  unfolding out
  kept j i l hi =
      s.low (message_place j + i) (omega arith) ∙ was ρ ws n m is few (m - 1) j i (omega arith) hi
      ∙ ap (λ (x : Message). get_or (message_words x) i 0) (sym (less_low ρ.messages k (omega (arith, is.count)) j l))

  moved : (j i : ℕ) → j < m - 1 → i < 5 → k ≤ j → get_or v (message_place j + i) 0 ≡ get_or (message_words (get_or out j blank)) i 0
  unfolding out
  moved j i hj hi l =
      let q : message_place j + i + 5 ≡ message_place (j + 1) + i = omega arith in
      s.inside (message_place j + i) (omega arith) (omega arith) ∙ ap (λ (b : ℕ). get_or (counted ws (m - 1)) b 0) q
      ∙ was ρ ws n m is few (m - 1) (j + 1) i (omega arith) hi
      ∙ ap (λ (x : Message). get_or (message_words x) i 0) (sym (less_high ρ.messages k (omega (arith, is.count)) j l))

  pub removed : Encodes ws' n (m - 1) (remove_message k ρ)
  unfolding remove_message out
  removed =
      let l : length out ≡ m - 1 = out_length in
      record {
        room = is.room;
        nodes = is.nodes;
        count = out_length;
        words = messages_written ρ out ws ws' (holds ρ ws is.words)
            (u.long ∙ s.long ∙ counted_long ρ ws n m is few (m - 1))
            (u.low 0 (omega arith)
            ∙ s.low 0 (omega arith)
            ∙ counted_head ρ ws n m is few (m - 1)
            ∙ ap (head_word ρ.table.sides (size ρ.table)) (sym out_length))
            (λ i b d. u.low i (omega arith) ∙ s.low i (omega arith) ∙ counted_other ρ ws n m is few (m - 1) i b)
            (λ j i hj hi.
            u.low (message_place j + i) (omega arith)
            ∙ elim (dec_lt j k) [ yes y ↦ kept j i y hi | no y ↦ moved j i (omega arith) hi (omega arith) ])
            (λ j i hj hl hi.
            elim (dec_lt (message_place j + i) (message_place m)) [
              | yes y ↦ u.inside (message_place j + i) (omega arith) y
              | no y ↦
                  u.high (message_place j + i) (omega arith) ∙ s.high (message_place j + i) (omega arith)
                  ∙ was_none ρ ws n m is few (m - 1) j i (omega arith) hl hi
            ]);
      }

-- ---- adding one: the count, and its five words

-- the words of a message by value, as they are written
pub five_words : (q : MessageRecord) (a b c d e : ℕ) → q.view < 2 ^ 64
    → a ≡ message_word q.tag q.sender.0 q.receiver.0 q.subject.0 → b ≡ stamp_word q.stamp.0
    → c ≡ view_word (bits 0 24 q.view) → d ≡ view_word (bits 0 24 (q.view / 2 ^ 24)) → e ≡ view_word (bits 0 24 (q.view / 2 ^ 48))
    → (i : ℕ) → get_or (a ∷ b ∷ c ∷ d ∷ e ∷ []) i 0 ≡ get_or (message_words (message_of q)) i 0
five_words q a b c d e v pa pb pc pd pe i =
    let f : bits 0 24 (q.view / 2 ^ 24) ≡ bits 24 24 q.view = ap (λ (w : ℕ). w % 2 ^ 24) (omega arith) in
    let g : bits 0 24 (q.view / 2 ^ 48) ≡ bits 48 16 q.view = omega arith in
    let l : ◌≡◌ {A = List ℕ} (a ∷ b ∷ c ∷ d ∷ e ∷ []) (message_words (message_of q)) = rw (to_bits_of_bits 64 q.view v, pa, pb, pc, pd, pe, f, g) in
    ap (λ (w : List ℕ). get_or w i 0) l

module _ (ρ : Ring) (ws v ws' : List ℕ) (n m : ℕ) (x : Message) (f : ℕ → ℕ) (few : m < 1024) (is : Encodes ws n m ρ)
    (e : v ≡ counted ws (m + 1)) (p : Patched v ws' (message_place m) (message_place m + 5) (λ i. f (i - message_place m)))
    (w : (i : ℕ) → f i ≡ get_or (message_words x) i 0) where
  le : m ≤ 1024
  le = omega arith

  put : Patched (counted ws (m + 1)) ws' (message_place m) (message_place m + 5) (λ i. f (i - message_place m))
  put = rw e at p

  more : length (ρ.messages ++ x ∷ []) ≡ m + 1
  more = length-append ρ.messages (x ∷ []) ∙ ap (λ (k : ℕ). k + 1) is.count

  last : (k i : ℕ) → k ≡ m → i < 5 → get_or ws' (message_place k + i) 0 ≡ get_or (message_words (get_or (ρ.messages ++ x ∷ []) k blank)) i 0
  last k i q hi =
      let d : message_place k + i - message_place m ≡ i = omega arith in
      let r : k ≡ length ρ.messages = omega (arith, is.count) in
      put.inside (message_place k + i) (omega arith) (omega arith) ∙ ap f d ∙ w i
      ∙ ap (λ (y : Message). get_or (message_words y) i 0) (sym (rw (r, get_or-append_seam ρ.messages x [] blank)))

  pub appended : Encodes ws' n (m + 1) (set_messages (ρ.messages ++ x ∷ []) ρ)
  appended =
      let l : length (ρ.messages ++ x ∷ []) ≡ m + 1 = more in
      record {
        room = is.room;
        nodes = is.nodes;
        count = more;
        words = messages_written ρ (ρ.messages ++ x ∷ []) ws ws' (holds ρ ws is.words)
            (put.long ∙ counted_long ρ ws n m is le (m + 1))
            (put.low 0 (omega arith) ∙ counted_head ρ ws n m is le (m + 1) ∙ ap (head_word ρ.table.sides (size ρ.table)) (sym more))
            (λ i a b. put.low i (omega arith) ∙ counted_other ρ ws n m is le (m + 1) i a)
            (λ k i hk hi.
            elim (dec_lt k m) [
              | yes y ↦
                  put.low (message_place k + i) (omega arith) ∙ was ρ ws n m is le (m + 1) k i y hi
                  ∙ ap (λ (z : Message). get_or (message_words z) i 0) (sym (get_or-append ρ.messages (x ∷ []) blank k (omega (arith, is.count))))
              | no y ↦ last k i (omega arith) hi
            ])
            (λ k i hk hl hi. put.high (message_place k + i) (omega arith) ∙ was_none ρ ws n m is le (m + 1) k i (omega arith) hl hi);
      }
