-- Laws of the ring's words: the word at a place, and that words that read as a ring are those of the ring that they decode to.
use mathlib.Core.Path.{◌≡◌, sym, ap, ap₂, ◌∙◌, subst}
use Prim.Native.Nat.{ℕ, ◌+◌, ◌-◌, ◌*◌, ◌/◌, ◌%◌, ◌^◌, ◌<◌}
use native.Mathlib.Omega.{arith}
use native.Mathlib.Decide.{dec_lt}
use mathlib.Core.Bool.{Bool, true, false, not, ◌&&◌}
use mathlib.Core.List.{List, [], ◌∷◌}
use lib.ListN.{length, get_or}
use lib.Seq.{ext_get_or}
use lib.Arith.{digits_mod}
use lib.Dec.{ltb, eqb, lit<}
use borrow.Author.Tests.{le-ltb, lt-ltb, ltb-true, eqb-true, eqb-false, eq-eqb, ne_eqb}
use Rattle.std.specs.Prelude.{if◌then◌else◌}
use Rattle.model.specs.Leafset.{Table, size}
use Rattle.model.specs.Ring.{Ring}
use Rattle.model.specs.WellFormed.{WellFormedSides, Other, nil, cons}
use Rattle.model.specs.Fields.{bits}
use Rattle.model.specs.Structs.{RoomSides}
use Rattle.model.specs.declared.values.Sides.{Sides}
use Rattle.model.specs.Words.{sides_of, head_word, in_head, in_node, in_pair, in_message, pair_of, is_pair, node_place, pair_place, message_place, by_place}
use Rattle.model.specs.Words.{belongs, word_at, ring_length, encode, decode, ring_fits, format_fits, reads_as_ring}
use Rattle.model.proofs.Laws.{and_left, and_right, and_in, not_in, not_out, all_in, all_out, every_in, every_out, length_tabulate, get_d_tabulate}
use Rattle.model.proofs.Lists.{first, rest}
use Rattle.model.proofs.Fields.{field, bits<}

-- A and B have room where they were read, and where they are well-formed
pub sides_room : (w : ℕ) → RoomSides (sides_of w)
sides_room w = record { ahead_room = bits< 0 4 w; behind_room = bits< 22 4 w }

pub well_room : {s : Sides} → WellFormedSides s → RoomSides s
well_room g = record { ahead_room = omega (arith, g.ahead_high); behind_room = omega (arith, g.behind_high) }

-- the parts of word 0, read back
pub record HeadRead (w : ℕ) (s : Sides) (n m : ℕ) : Type 0 where
  pub sides_back : sides_of w ≡ s
  pub size_back : bits 4 7 w ≡ n
  pub count_back : bits 11 11 w ≡ m

pub head_reads_lem : {w n m : ℕ} (s : Sides) → RoomSides s → n < 2 ^ 7 → m < 2 ^ 11 → w ≡ head_word s n m → HeadRead w s n m
unfolding head_word
head_reads_lem {w} {n} {m} s room hn hm e =
    record {
      sides_back = ap₂ {C = Sides} (λ (a b : ℕ). record { ahead = a; behind = b })
          (field 0 4 (2 ^ 24 + s.behind * 2 ^ 18 + m * 2 ^ 7 + n) s.ahead 0 (e ∙ omega arith) (lit< tt) room.ahead_room)
          (field 22 4 4 s.behind (m * 2 ^ 11 + n * 2 ^ 4 + s.ahead) (e ∙ omega arith) (omega (arith, room.ahead_room)) room.behind_room);
      size_back = field 4 7 (2 ^ 17 + s.behind * 2 ^ 11 + m) n s.ahead (e ∙ omega arith) room.ahead_room hn;
      count_back = field 11 11 (2 ^ 6 + s.behind) m (n * 2 ^ 4 + s.ahead) (e ∙ omega arith) (omega (arith, room.ahead_room)) hm;
    }

-- ---- the word at a place of an encoded ring

pub length_encode : (r : Ring) → length (encode r) ≡ ring_length
unfolding encode
length_encode r = length_tabulate (word_at r) ring_length

pub encode_at : (r : Ring) (i : ℕ) → i < ring_length → get_or (encode r) i 0 ≡ word_at r i
unfolding encode
encode_at r i h = get_d_tabulate (word_at r) 0 ring_length i h

-- what is said of a place, at the places of a node, a pair and a message
module _ {A : Type 0} (head : A) (node : ℕ → ℕ → A) (pair : ℕ → ℕ → ℕ → A) (message : ℕ → ℕ → A) where
  pub by_node : (s i : ℕ) → s < 64 → i < 2 → by_place head node pair message (node_place s + i) ≡ node s i
  by_node s i hs hi =
      let p : ℕ = node_place s + i in
      let a : ltb p 1 ≡ false = le-ltb p 1 (omega arith) in
      let b : ltb p 129 ≡ true = lt-ltb p 129 (omega arith) in
      let q : (p - 1) / 2 ≡ s = omega arith in
      let e : p - 1 ≡ s * 2 + i = omega arith in
      let u : (p - 1) % 2 ≡ i = ap (λ (k : ℕ). k % 2) e ∙ digits_mod s hi in
      rw (a, b, q, u)

  pub by_pair_lem : (x z i : ℕ) → x < 64 → z < 64 → i < 2 → by_place head node pair message (pair_place x z + i) ≡ pair x z i
  by_pair_lem x z i hx hz h =
      let p : ℕ = pair_place x z + i in
      let a : ltb p 1 ≡ false = le-ltb p 1 (omega arith) in
      let b : ltb p 129 ≡ false = le-ltb p 129 (omega arith) in
      let c : ltb p 8321 ≡ true = lt-ltb p 8321 (omega arith) in
      let q : (p - 129) / 2 / 64 ≡ x = omega arith in
      let e : (p - 129) / 2 ≡ x * 64 + z = omega arith in
      let f : p - 129 ≡ (64 * x + z) * 2 + i = omega arith in
      let s : (p - 129) / 2 % 64 ≡ z = ap (λ (k : ℕ). k % 64) e ∙ digits_mod x hz in
      let u : (p - 129) % 2 ≡ i = ap (λ (k : ℕ). k % 2) f ∙ digits_mod (64 * x + z) h in
      rw (a, b, c, q, s, u)

  pub by_message : (k i : ℕ) → i < 5 → by_place head node pair message (message_place k + i) ≡ message k i
  by_message k i hi =
      let p : ℕ = message_place k + i in
      let a : ltb p 1 ≡ false = le-ltb p 1 (omega arith) in
      let b : ltb p 129 ≡ false = le-ltb p 129 (omega arith) in
      let c : ltb p 8321 ≡ false = le-ltb p 8321 (omega arith) in
      let q : (p - 8321) / 5 ≡ k = omega arith in
      let e : p - 8321 ≡ k * 5 + i = omega arith in
      let u : (p - 8321) % 5 ≡ i = ap (λ (j : ℕ). j % 5) e ∙ digits_mod k hi in
      rw (a, b, c, q, u)

-- which of these belong
pub node_belongs : (n m s i : ℕ) → s < 64 → i < 2 → belongs n m (node_place s + i) ≡ ltb s n
unfolding belongs
node_belongs n m s i hs hi = by_node true (λ s j. ltb s n) (λ x z j. pair_of n x z) (λ k j. ltb k m) s i hs hi

pub pair_belongs : (n m x z i : ℕ) → x < 64 → z < 64 → i < 2 → belongs n m (pair_place x z + i) ≡ pair_of n x z
unfolding belongs
pair_belongs n m x z i hx hz hi = by_pair_lem true (λ s j. ltb s n) (λ x z j. pair_of n x z) (λ k j. ltb k m) x z i hx hz hi

pub message_belongs : (n m k i : ℕ) → i < 5 → belongs n m (message_place k + i) ≡ ltb k m
unfolding belongs
message_belongs n m k i hi = by_message true (λ s j. ltb s n) (λ x z j. pair_of n x z) (λ k j. ltb k m) k i hi

-- the word at each: word i of node s, of the pair (x, z), of message k
abbrev pub of_node : Ring → ℕ → ℕ → ℕ
of_node r s i = if ltb s (size r.table) then in_node r s i else 0

abbrev pub of_pair : Ring → ℕ → ℕ → ℕ → ℕ
of_pair r x z i = if is_pair r.table x z then in_pair r x z i else 0

abbrev pub of_message : Ring → ℕ → ℕ → ℕ
of_message r k i = if ltb k (length r.messages) then in_message r k i else 0

pub node_at : (r : Ring) (s i : ℕ) → s < 64 → i < 2 → word_at r (node_place s + i) ≡ of_node r s i
unfolding word_at
node_at r s i hs hi =
    ap₂ (λ (b : Bool) (w : ℕ). if b then w else 0)
    (node_belongs (size r.table) (length r.messages) s i hs hi) (by_node (in_head r) (in_node r) (in_pair r) (in_message r) s i hs hi)

pub pair_at : (r : Ring) (x z i : ℕ) → x < 64 → z < 64 → i < 2 → word_at r (pair_place x z + i) ≡ of_pair r x z i
unfolding word_at
pair_at r x z i hx hz hi =
    ap₂ (λ (b : Bool) (w : ℕ). if b then w else 0)
    (pair_belongs (size r.table) (length r.messages) x z i hx hz hi) (by_pair_lem (in_head r) (in_node r) (in_pair r) (in_message r) x z i hx hz hi)

pub message_at_lem : (r : Ring) (k i : ℕ) → i < 5 → word_at r (message_place k + i) ≡ of_message r k i
unfolding word_at
message_at_lem r k i hi =
    ap₂ (λ (b : Bool) (w : ℕ). if b then w else 0)
    (message_belongs (size r.table) (length r.messages) k i hi) (by_message (in_head r) (in_node r) (in_pair r) (in_message r) k i hi)

-- every place is word 0's, a node's, a pair's or a message's: what holds at each of these holds at every place
pub every_place : (P : ℕ → Type 0) → P 0
    → ((s i : ℕ) → s < 64 → i < 2 → P (node_place s + i))
    → ((x z i : ℕ) → x < 64 → z < 64 → i < 2 → P (pair_place x z + i))
    → ((k i : ℕ) → k < 1024 → i < 5 → P (message_place k + i))
    → (i : ℕ) → i < ring_length → P i
every_place P head node pair message i h =
    elim (dec_lt i 1) [
      | yes y ↦ let e : 0 ≡ i = omega arith in subst P e head
      | no y ↦ elim (dec_lt i 129) [
        | yes a ↦ let e : node_place ((i - 1) / 2) + (i - 1) % 2 ≡ i = omega arith in subst P e (node ((i - 1) / 2) ((i - 1) % 2) (omega arith) (omega arith))
        | no a ↦ elim (dec_lt i 8321) [
          | yes b ↦ let e : pair_place ((i - 129) / 128) ((i - 129) % 128 / 2) + (i - 129) % 2 ≡ i = omega arith in
              subst P e (pair ((i - 129) / 128) ((i - 129) % 128 / 2) ((i - 129) % 2) (omega arith) (omega arith) (omega arith))
          | no b ↦ let e : message_place ((i - 8321) / 5) + (i - 8321) % 5 ≡ i = omega arith in
              subst P e (message ((i - 8321) / 5) ((i - 8321) % 5) (omega arith) (omega arith))
        ]
      ]
    ]

-- ---- a pair, as facts

pub pair_in : (t : Table) (x z : ℕ) → x < size t → Other (size t) x z → is_pair t x z ≡ true
pair_in t x z h o =
    and_in (and_in (lt-ltb x (size t) h) (lt-ltb z (size t) o.low)) (not_in (ne_eqb x z (λ e. o.differs (sym e))))

pub pair_low : (t : Table) (x z : ℕ) → is_pair t x z ≡ true → x < size t
pair_low t x z e = ltb-true x (size t) (and_left (ltb x (size t)) (ltb z (size t)) (and_left (ltb x (size t) && ltb z (size t)) (not (eqb x z)) e))

pub pair_other : (t : Table) (x z : ℕ) → is_pair t x z ≡ true → Other (size t) x z
pair_other t x z e =
    record {
      low = ltb-true z (size t) (and_right (ltb x (size t)) (ltb z (size t)) (and_left (ltb x (size t) && ltb z (size t)) (not (eqb x z)) e));
      differs = λ i. eqb-false x z (not_out (eqb x z) (and_right (ltb x (size t) && ltb z (size t)) (not (eqb x z)) e)) (sym i);
    }

-- ---- words that read as a ring

pub record ReadsAsRing (ws : List ℕ) : Type 0 where
  pub long : length ws ≡ ring_length
  pub format : format_fits ws ≡ true
  pub fits : ring_fits (decode ws) ≡ true

pub reads_out : (ws : List ℕ) → reads_as_ring ws ≡ true → ReadsAsRing ws
unfolding reads_as_ring
reads_out ws e =
    let p = every_out (eqb (length ws) ring_length ∷ format_fits ws ∷ ring_fits (decode ws) ∷ []) e in
    record { long = eqb-true (length ws) ring_length (first p); format = first (rest p); fits = first (rest (rest p)) }

pub reads_in : (ws : List ℕ) → ReadsAsRing ws → reads_as_ring ws ≡ true
unfolding reads_as_ring
reads_in ws p = every_in (cons (eq-eqb (length ws) ring_length p.long) (cons p.format (cons p.fits nil)))

-- the format fits exactly the words of the ring that they decode to
pub format_out : (ws : List ℕ) → length ws ≡ ring_length → format_fits ws ≡ true → ws ≡ encode (decode ws)
unfolding format_fits
format_out ws l e =
    ext_get_or 0 ws (encode (decode ws)) (l ∙ sym (length_encode (decode ws)))
    (λ i h.
    let k : i < ring_length = omega arith in
    eqb-true (get_or ws i 0) (word_at (decode ws) i) (all_out ring_length (λ j. eqb (get_or ws j 0) (word_at (decode ws) j)) e i k)
    ∙ sym (encode_at (decode ws) i k))

pub format_in : (ws : List ℕ) → ws ≡ encode (decode ws) → format_fits ws ≡ true
unfolding format_fits
format_in ws e =
    all_in ring_length (λ i. eqb (get_or ws i 0) (word_at (decode ws) i))
    (λ i h. eq-eqb (get_or ws i 0) (word_at (decode ws) i) (ap (λ (l : List ℕ). get_or l i 0) e ∙ encode_at (decode ws) i h))

-- words that read as a ring are the words of the ring that they decode to
pub decoded_back : (ws : List ℕ) → reads_as_ring ws ≡ true → ws ≡ encode (decode ws)
decoded_back ws e = let p = reads_out ws e in format_out ws p.long p.format
