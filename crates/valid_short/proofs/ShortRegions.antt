-- Words read as a short ring exactly where they have the length that word 0 says, and each of their regions reads where it stands.
use mathlib.Core.Path.{◌≡◌, refl, sym, ap, ap₂, ◌∙◌}
use Prim.Native.Nat.{ℕ, ◌+◌, ◌*◌, ◌≤◌, ◌<◌}
use native.Mathlib.Nat.{add-zero, mul-one, mul-le-mul, mul-le-mul_left}
use native.Mathlib.Omega.{arith}
use mathlib.Core.Bool.{Bool, true, false, ◌&&◌, and-true, and-false}
use mathlib.Core.List.{List, [], ◌∷◌}
use lib.ListN.{length, get_or}
use lib.Dec.{ltb, leb, eqb, lit<}
use borrow.Author.Tests.{eqb-true, eqb-false, eq-eqb, ne_eqb, lt-ltb, le-ltb}
use Rattle.model.specs.Choice.{every}
use Rattle.model.specs.Sets.{all, count}
use Rattle.model.specs.Leafset.{Table, size}
use Rattle.model.specs.Ring.{Message, sent_by}
use Rattle.model.specs.Fields.{bits}
use Rattle.model.specs.Words.{node_place, pair_place, message_place, pair_of, belongs, at, ring_length, sides_of, keys_differ, decode_table, decode_message_at}
use Rattle.model.specs.Words.{size_in, count_in}
use Rattle.model.specs.Words.{message_words, message_fits, reads_as_ring}
use Rattle.model.specs.Short.{short_length, short_pair, lengthened, reads_as_short}
use Rattle.model.proofs.Laws.{and_in, decide, tabulate_cong}
use Rattle.model.proofs.Words.{node_belongs, pair_belongs, message_belongs, every_place}
use Rattle.model.proofs.Short.{node_rank, pair_rank, message_rank, messages_from, short_length_lem, long_at, long_head, long_length}
use Rattle.valid_nodes.specs.Nodes.{clear, key_at, clock_at, head_reads, node_reads, nodes_read}
use Rattle.valid_nodes.proofs.Gather.{all_cong, clear_in}
use Rattle.valid_pairs.specs.Pairs.{link_at, spare_at, apart_reads, pair_reads, row_reads, pairs_read, short_pair_reads, short_pairs_read}
use Rattle.valid_messages.specs.Senders.{senders_read}
use Rattle.valid_messages.specs.Messages.{message_reads, messages_read}
use Rattle.valid_ring.proofs.Regions.{head_fails, after_head}

-- n * n, which is no smaller than n, is small
pub square_high : (n : ℕ) → n ≤ 64 → n * n ≤ 4096
square_high n h = mul-le-mul h h

pub square_low : (n : ℕ) → 1 ≤ n → n ≤ n * n
square_low n h = omega (arith, mul-le-mul_left n h, mul-one n)

beside : (a : Bool) {b : Bool} → b ≡ true → every (a ∷ b ∷ []) ≡ a
beside true e = rw e
beside false e = refl

-- a pair's tests are of the words of x and of its own two
apart_cong : (ws vs : List ℕ) (n x z p q : ℕ) → key_at ws x ≡ key_at vs x → clock_at ws x ≡ clock_at vs x → at ws p ≡ at vs q → at ws (p + 1) ≡ at vs (q + 1)
    → apart_reads ws n x z p ≡ apart_reads vs n x z q
apart_cong ws vs n x z p q k c w s = rw (k, c, w, s)

-- a message is what its five words say
message_cong : (ws vs : List ℕ) (p q : ℕ) → at ws p ≡ at vs q → ((i : ℕ) → i < 5 → at ws (p + i) ≡ at vs (q + i))
    → decode_message_at ws p ≡ decode_message_at vs q
unfolding decode_message_at
message_cong ws vs p q e f = rw (e, f 1 (lit< tt), f 2 (lit< tt), f 3 (lit< tt), f 4 (lit< tt))

module _ (short : List ℕ) (n m : ℕ) (en : n ≡ size_in short) (em : m ≡ count_in short) (few : n ≤ 64) (many : m ≤ 1024) where
  long : List ℕ
  long = lengthened short

  -- ---- the words of the long ring

  word_kept : (i : ℕ) → i < ring_length → belongs n m i ≡ true → at long i ≡ at short (count i (belongs n m))
  unfolding long
  word_kept i h e = long_at short i h ∙ rw (sym en, sym em, e)

  word_none : (i : ℕ) → i < ring_length → belongs n m i ≡ false → at long i ≡ 0
  unfolding long
  word_none i h e = long_at short i h ∙ rw (sym en, sym em, e)

  node_word : (s i : ℕ) → s < n → i < 2 → at long (node_place s + i) ≡ at short (node_place s + i)
  node_word s i hs hi =
      word_kept (node_place s + i) (omega arith) (node_belongs n m s i (omega arith) hi ∙ lt-ltb s n hs)
      ∙ ap (at short) (node_rank n m few s i hs hi)

  pair_word_lem : (x z i : ℕ) → x < n → z < n → (z ≡ x → ⊥) → i < 2 → at long (pair_place x z + i) ≡ at short (short_pair n x z + i)
  pair_word_lem x z i hx hz d hi =
      word_kept (pair_place x z + i) (omega arith)
      (pair_belongs n m x z i (omega arith) (omega arith) hi ∙ rw (lt-ltb x n hx, lt-ltb z n hz, ne_eqb x z (λ e. d (sym e))))
      ∙ ap (at short) (pair_rank n m few x z i hx hz d hi)

  message_word_lem : (k i : ℕ) → k < m → i < 5 → at long (message_place k + i) ≡ at short (1 + 2 * (n * n) + 5 * k + i)
  message_word_lem k i hk hi =
      word_kept (message_place k + i) (omega arith) (message_belongs n m k i hi ∙ lt-ltb k m hk)
      ∙ ap (at short) (message_rank n m few k i hk hi ∙ ap (λ (b : ℕ). b + 5 * k + i) (messages_from n))

  -- a stretch of places that belong to nothing
  gap : (a e : ℕ) → 0 < a → e ≤ ring_length
      → ((s j : ℕ) → s < 64 → j < 2 → a ≤ node_place s + j → node_place s + j < e → n ≤ s)
      → ((x z j : ℕ) → x < 64 → z < 64 → j < 2 → a ≤ pair_place x z + j → pair_place x z + j < e → pair_of n x z ≡ false)
      → ((k j : ℕ) → k < 1024 → j < 5 → a ≤ message_place k + j → message_place k + j < e → m ≤ k)
      → clear long a e ≡ true
  gap a e pos high fn fp fm =
      clear_in long a e (λ i h l.
      every_place (λ i. a ≤ i → i < e → at long i ≡ 0)
      (λ h₀ l₀. absurd (omega arith))
      (λ s j hs hj h₁ l₁. word_none (node_place s + j) (omega arith) (node_belongs n m s j hs hj ∙ le-ltb s n (fn s j hs hj h₁ l₁)))
      (λ x z j hx hz hj h₁ l₁. word_none (pair_place x z + j) (omega arith) (pair_belongs n m x z j hx hz hj ∙ fp x z j hx hz hj h₁ l₁))
      (λ k j hk hj h₁ l₁. word_none (message_place k + j) (omega arith) (message_belongs n m k j hj ∙ le-ltb k m (fm k j hk hj h₁ l₁)))
      i (omega arith) h l)

  -- ---- region by region

  after_nodes : clear long (node_place n) 129 ≡ true
  after_nodes =
      gap (node_place n) 129 (omega arith) (omega arith)
      (λ s j hs hj h l. omega arith) (λ x z j hx hz hj h l. absurd (omega arith)) (λ k j hk hj h l. absurd (omega arith))

  after_messages : clear long (message_place m) ring_length ≡ true
  after_messages =
      gap (message_place m) ring_length (omega arith) (omega arith)
      (λ s j hs hj h l. absurd (omega arith)) (λ x z j hx hz hj h l. absurd (omega arith)) (λ k j hk hj h l. omega arith)

  key_same : (s : ℕ) → s < n → key_at long s ≡ key_at short s
  key_same s h = ap (at long) (sym (add-zero (node_place s))) ∙ node_word s 0 h (lit< tt) ∙ ap (at short) (add-zero (node_place s))

  clock_same : (s : ℕ) → s < n → clock_at long s ≡ clock_at short s
  clock_same s h = node_word s 1 h (lit< tt)

  nodes_same : nodes_read long n ≡ nodes_read short n
  unfolding nodes_read
  nodes_same =
      all_cong (λ s. node_reads (key_at long s) (clock_at long s)) (λ s. node_reads (key_at short s) (clock_at short s)) n
      (λ s h. ap₂ node_reads (key_same s h) (clock_same s h))

  table_same : decode_table long ≡ decode_table short
  unfolding long decode_table
  table_same =
      rw (long_head short)
      (ap (λ (keys : List ℕ). record { sides = sides_of (at short 0); keys = keys })
      (tabulate_cong (λ s. bits 0 24 (key_at long s)) (λ s. bits 0 24 (key_at short s)) (size_in short) (λ s h. ap (bits 0 24) (key_same s (rw en h)))))

  pair_same : (x z : ℕ) → x < n → z < n → pair_reads long n x z ≡ short_pair_reads short n x z
  unfolding pair_reads
  pair_same x z hx hz =
      decide (eqb x z)
      (λ e. let none : pair_of n x z ≡ false = rw e (and-false (ltb x n && ltb z n)) in
      rw (e, eq-eqb z x (sym (eqb-true x z e)))
      (and_in (eq-eqb (link_at long x z) 0 (ap (at long) (sym (add-zero (pair_place x z))) ∙ own none 0 (lit< tt)))
      (eq-eqb (spare_at long x z) 0 (own none 1 (lit< tt)))))
      (λ e. let d : z ≡ x → ⊥ = λ i. eqb-false x z e (sym i) in
      rw (e, ne_eqb z x d)
      (apart_cong long short n x z (pair_place x z) (short_pair n x z) (key_same x hx) (clock_same x hx)
      (ap (at long) (sym (add-zero (pair_place x z))) ∙ pair_word_lem x z 0 hx hz d (lit< tt) ∙ ap (at short) (add-zero (short_pair n x z)))
      (pair_word_lem x z 1 hx hz d (lit< tt))))
    where
      own : pair_of n x z ≡ false → (j : ℕ) → j < 2 → at long (pair_place x z + j) ≡ 0
      own e j hj = word_none (pair_place x z + j) (omega arith) (pair_belongs n m x z j (omega arith) (omega arith) hj ∙ e)

  row_same : (x : ℕ) → x < n → row_reads long n x ≡ all n (short_pair_reads short n x)
  unfolding row_reads
  row_same x hx =
      beside (all n (pair_reads long n x))
      (gap (pair_place x n) (pair_place x 64) (omega arith) (omega arith) (λ s j hs hj h l. absurd (omega arith))
      (λ y z j hy hz hj h l. rw (le-ltb z n (omega arith), and-false (ltb y n))) (λ k j hk hj h l. absurd (omega arith)))
      ∙ all_cong (pair_reads long n x) (short_pair_reads short n x) n (λ z hz. pair_same x z hx hz)

  pairs_same : pairs_read long n ≡ short_pairs_read short n
  unfolding pairs_read short_pairs_read
  pairs_same =
      beside (all n (row_reads long n))
      (gap (pair_place n 0) 8321 (omega arith) (omega arith) (λ s j hs hj h l. absurd (omega arith))
      (λ y z j hy hz hj h l. rw (le-ltb y n (omega arith))) (λ k j hk hj h l. absurd (omega arith)))
      ∙ all_cong (row_reads long n) (λ x. all n (short_pair_reads short n x)) n row_same

  message_same : (k : ℕ) → k < m → decode_message_at long (8321 + 5 * k) ≡ decode_message_at short (1 + 2 * (n * n) + 5 * k)
  message_same k h =
      message_cong long short (message_place k) (1 + 2 * (n * n) + 5 * k)
      (ap (at long) (sym (add-zero (message_place k))) ∙ message_word_lem k 0 h (lit< tt) ∙ ap (at short) (add-zero (1 + 2 * (n * n) + 5 * k)))
      (λ i hi. message_word_lem k i h hi)

  message_reads_same : (t : Table) (k : ℕ) → k < m → message_reads long 8321 t k ≡ message_reads short (1 + 2 * (n * n)) t k
  unfolding message_reads
  message_reads_same t k h =
      ap₂ (λ (a b : Bool). every (a ∷ b ∷ []))
      (all_cong (λ i. eqb (at long (message_place k + i)) (get_or (message_words (decode_message_at long (message_place k))) i 0))
      (λ i. eqb (at short (1 + 2 * (n * n) + 5 * k + i)) (get_or (message_words (decode_message_at short (1 + 2 * (n * n) + 5 * k))) i 0)) 5
      (λ i hi. ap₂ eqb (message_word_lem k i h hi) (ap (λ (g : Message). get_or (message_words g) i 0) (message_same k h))))
      (ap (message_fits t) (message_same k h))

  senders_same : (t : Table) → senders_read long 8321 t m ≡ senders_read short (1 + 2 * (n * n)) t m
  unfolding senders_read
  senders_same t =
      ap (λ (l : List Message). all (size t) (λ x. leb (sent_by x l) 256))
      (tabulate_cong (λ k. decode_message_at long (8321 + 5 * k)) (λ k. decode_message_at short (1 + 2 * (n * n) + 5 * k)) m message_same)

  messages_same : (t : Table) → messages_read long 8321 t m ≡ messages_read short (1 + 2 * (n * n)) t m
  unfolding messages_read
  messages_same t =
      ap₂ (λ (a b : Bool). every (a ∷ b ∷ []))
      (all_cong (message_reads long 8321 t) (message_reads short (1 + 2 * (n * n)) t) m (message_reads_same t)) (senders_same t)

  -- ---- as the code joins the regions

  abbrev joined : Bool
  joined = nodes_read short n && keys_differ (decode_table short) && short_pairs_read short n && messages_read short (1 + 2 * (n * n)) (decode_table short) m

  ring_reads : head_reads (at short 0) ≡ true → joined ≡ reads_as_ring long
  unfolding long
  ring_reads e =
      sym (rw (
        ap (bits 4 7) (long_head short) ∙ sym en,
        ap (bits 11 11) (long_head short) ∙ sym em,
        nodes_same,
        table_same,
        pairs_same,
        messages_same (decode_table short),
        after_messages,
        after_nodes,
      )
      at (sym (after_head long (long_length short) (ap head_reads (long_head short) ∙ e)))
      ∙ and-true (joined && true) ∙ and-true joined)

  says : short_length (size_in short) (count_in short) ≡ 1 + 2 * (n * n) + 5 * m
  says = ap₂ short_length (sym en) (sym em) ∙ short_length_lem n m few many

  pub rest_reads_lem : head_reads (at short 0) ≡ true → length short ≡ 1 + 2 * (n * n) + 5 * m → joined ≡ reads_as_short short
  unfolding reads_as_short long
  rest_reads_lem e l =
      ring_reads e ∙ sym (and-true (reads_as_ring long))
      ∙ rw (lt-ltb 0 (length short) (omega arith), eq-eqb (length short) (short_length (size_in short) (count_in short)) (l ∙ sym says))

  pub wrong_length_lem : eqb (length short) (1 + 2 * (n * n) + 5 * m) ≡ false → false ≡ reads_as_short short
  unfolding reads_as_short
  wrong_length_lem e = sym (rw (says, e) (and-false (ltb 0 (length short))))

-- ---- what is refused before

pub empty_fails : (short : List ℕ) → length short ≡ 0 → false ≡ reads_as_short short
unfolding reads_as_short
empty_fails short e = rw e

pub short_head_fails : (short : List ℕ) → head_reads (at short 0) ≡ false → false ≡ reads_as_short short
unfolding reads_as_short
short_head_fails short e =
    rw (sym (head_fails (lengthened short) (long_length short) (ap head_reads (long_head short) ∙ e)))
    (none (ltb 0 (length short)) (eqb (length short) (short_length (size_in short) (count_in short))))
  where
    none : (a b : Bool) → false ≡ every (a ∷ b ∷ false ∷ [])
    none true true = refl
    none true false = refl
    none false b = refl
