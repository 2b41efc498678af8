-- Where the words of a short ring stand: how many places before a place belong, run by run.
use mathlib.Core.Path.{◌≡◌, refl, sym, ap, ◌∙◌, subst}
use Prim.Native.Nat.{ℕ, zero, suc, ◌+◌, ◌-◌, ◌*◌, ◌/◌, ◌%◌, ◌<◌, ◌≤◌}
use native.Mathlib.Nat.{le_refl, add-zero, mul-zero, mul-suc, suc-mul, mul-le-mul_left, not-suc-le-zero}
use native.Mathlib.Omega.{arith}
use native.Mathlib.Decide.{ℕ_discrete, dec_lt}
use mathlib.Core.Bool.{true, false, ◌&&◌, and-false}
use mathlib.Core.List.{List, [], ◌∷◌, ◌++◌}
use lib.ListN.{length, get_or, drop, length-map, get_or-append}
use lib.Seq.{get_or_at, ext_get_or}
use lib.Dec.{ltb, eqb, lit<}
use borrow.Author.Tests.{le-ltb, lt-ltb, eqb-true, eq-eqb, ne_eqb}
use Rattle.std.specs.Prelude.{if◌then◌else◌}
use Rattle.model.specs.Sets.{Set, count, members}
use Rattle.model.specs.Fields.{bits}
use Rattle.model.specs.Leafset.{size}
use Rattle.model.specs.Ring.{Ring}
use Rattle.model.specs.Answers.{first_of}
use Rattle.model.specs.WellFormed.{nil, cons}
use Rattle.model.specs.Words.{node_place, pair_place, message_place, pair_of, belongs, ring_length, at, word_at, decode_table, decode_message, decode}
use Rattle.model.specs.Words.{size_in, count_in}
use Rattle.model.specs.Words.{reads_as_ring}
use Rattle.model.specs.Short.{places, short_length, shortened, long_word, lengthened, reads_as_short, short_row, short_pair}
use Rattle.model.specs.Short.{short_message, shorten_answer, shorten_buffer, lengthen_answer, lengthen_buffer}
use Rattle.model.proofs.Laws.{if_law, decide, every_in, every_out, count_parts, count_none, count_all, length_members, map_at, length_tabulate}
use Rattle.model.proofs.Laws.{get_d_tabulate}
use Rattle.model.proofs.Lists.{first, rest}
use Rattle.model.proofs.Decoded.{reads_well}
use Rattle.model.proofs.Words.{node_belongs, pair_belongs, message_belongs, encode_at, decoded_back, reads_out}

-- ---- runs of places: of k places from a on, all belong, or none

module _ (S : Set) (a k : ℕ) where
  run_all : ((j : ℕ) → j < k → S (a + j) ≡ true) → count (a + k) S ≡ count a S + k
  run_all f = count_parts a k S ∙ ap (λ (c : ℕ). count a S + c) (count_all k (λ j. S (a + j)) f)

  run_none : ((j : ℕ) → j < k → S (a + j) ≡ false) → count (a + k) S ≡ count a S
  run_none f = count_parts a k S ∙ ap (λ (c : ℕ). count a S + c) (count_none k (λ j. S (a + j)) f) ∙ add-zero (count a S)

-- the messages begin after word 0, the nodes and the pairs
pub messages_from : (n : ℕ) → 1 + 2 * n + 2 * ((n - 1) * n) ≡ 1 + 2 * (n * n)
messages_from zero = refl
messages_from (suc k) = let e : suc k - 1 ≡ k = omega arith in rw (e, suc-mul k (suc k)) (omega arith)

-- row x ends where the rows end, or before
pub row_room : (n x : ℕ) → x < n → short_row n x + 2 * (n - 1) ≤ short_row n n
row_room n x h =
    let e : (n - 1) * suc x ≡ (n - 1) * x + (n - 1) = mul-suc (n - 1) x in
    let l : (n - 1) * suc x ≤ (n - 1) * n = mul-le-mul_left (n - 1) h in
    omega (arith, e, l)

-- k places from a on belong, and in a short ring their words stand from place p on
pub record Run (n m a k p : ℕ) : Type 0 where
  pub all : (j : ℕ) → j < k → belongs n m (a + j) ≡ true
  pub rank : count a (belongs n m) ≡ p
  pub fits : a + k ≤ ring_length

module _ {n m a k p : ℕ} (r : Run n m a k p) where
  pub run_rank : (j : ℕ) → j ≤ k → count (a + j) (belongs n m) ≡ p + j
  run_rank j h = run_all (belongs n m) a j (λ i l. r.all i (omega arith)) ∙ ap (λ (c : ℕ). c + j) r.rank

  pub run_long : (short : List ℕ) (j : ℕ) → j < k → long_word n m short (a + j) ≡ at short (p + j)
  run_long short j h = rw (r.all j h) (ap (at short) (run_rank j (omega arith)))

module _ (n m : ℕ) (few : n ≤ 64) where
  abbrev kept : Set
  kept = belongs n m

  node_place_lem : (j : ℕ) → j < 128 → kept (1 + j) ≡ ltb (j / 2) n
  node_place_lem j h =
      let e : node_place (j / 2) + j % 2 ≡ 1 + j = omega arith in
      subst (λ (p : ℕ). belongs n m p ≡ ltb (j / 2) n) e (node_belongs n m (j / 2) (j % 2) (omega arith) (omega arith))

  pair_place_lem : (x j : ℕ) → x < 64 → j < 128 → kept (pair_place x 0 + j) ≡ pair_of n x (j / 2)
  pair_place_lem x j hx h =
      let e : pair_place x (j / 2) + j % 2 ≡ pair_place x 0 + j = omega arith in
      subst (λ (p : ℕ). belongs n m p ≡ pair_of n x (j / 2)) e (pair_belongs n m x (j / 2) (j % 2) hx (omega arith) (omega arith))

  message_place_lem : (j : ℕ) → kept (8321 + j) ≡ ltb (j / 5) m
  message_place_lem j =
      let e : message_place (j / 5) + j % 5 ≡ 8321 + j = omega arith in
      subst (λ (p : ℕ). belongs n m p ≡ ltb (j / 5) m) e (message_belongs n m (j / 5) (j % 5) (omega arith))

  -- ---- which places belong, run by run

  head_kept : kept 0 ≡ true
  unfolding belongs
  head_kept = refl

  node_kept : (j : ℕ) → j < 2 * n → kept (1 + j) ≡ true
  node_kept j h = node_place_lem j (omega arith) ∙ lt-ltb (j / 2) n (omega arith)

  pub no_node : (j : ℕ) → j < 128 - 2 * n → kept (1 + 2 * n + j) ≡ false
  no_node j h =
      let e : 1 + (2 * n + j) ≡ 1 + 2 * n + j = omega arith in
      subst (λ (p : ℕ). kept p ≡ false) e (node_place_lem (2 * n + j) (omega arith) ∙ le-ltb ((2 * n + j) / 2) n (omega arith))

  module _ (x : ℕ) (hx : x < n) where
    first_kept : (j : ℕ) → j < 2 * x → kept (pair_place x 0 + j) ≡ true
    first_kept j h =
        pair_place_lem x j (omega arith) (omega arith)
        ∙ rw (lt-ltb x n hx, lt-ltb (j / 2) n (omega arith), ne_eqb x (j / 2) (λ e. absurd (omega arith)))

    pub not_itself : (j : ℕ) → j < 2 → kept (pair_place x 0 + 2 * x + j) ≡ false
    not_itself j h =
        let e : pair_place x 0 + (2 * x + j) ≡ pair_place x 0 + 2 * x + j = omega arith in
        let d : (2 * x + j) / 2 ≡ x = omega arith in
        subst (λ (p : ℕ). kept p ≡ false) e
        (pair_place_lem x (2 * x + j) (omega arith) (omega arith) ∙ rw (d, eq-eqb x x refl) (and-false (ltb x n && ltb x n)))

    second_kept : (j : ℕ) → j < 2 * (n - 1 - x) → kept (pair_place x 0 + 2 * x + 2 + j) ≡ true
    second_kept j h =
        let e : pair_place x 0 + (2 * x + 2 + j) ≡ pair_place x 0 + 2 * x + 2 + j = omega arith in
        subst (λ (p : ℕ). kept p ≡ true) e
        (pair_place_lem x (2 * x + 2 + j) (omega arith) (omega arith)
        ∙ rw (lt-ltb x n hx, lt-ltb ((2 * x + 2 + j) / 2) n (omega arith), ne_eqb x ((2 * x + 2 + j) / 2) (λ e. absurd (omega arith))))

    pub no_pair : (j : ℕ) → j < 128 - 2 * n → kept (pair_place x 0 + 2 * n + j) ≡ false
    no_pair j h =
        let e : pair_place x 0 + (2 * n + j) ≡ pair_place x 0 + 2 * n + j = omega arith in
        subst (λ (p : ℕ). kept p ≡ false) e
        (pair_place_lem x (2 * n + j) (omega arith) (omega arith) ∙ rw (le-ltb ((2 * n + j) / 2) n (omega arith), and-false (ltb x n)))

  pub no_row : (j : ℕ) → j < 128 * (64 - n) → kept (pair_place n 0 + j) ≡ false
  no_row j h =
      let e : pair_place (n + j / 128) 0 + j % 128 ≡ pair_place n 0 + j = omega arith in
      subst (λ (p : ℕ). kept p ≡ false) e
      (pair_place_lem (n + j / 128) (j % 128) (omega arith) (omega arith) ∙ rw (le-ltb (n + j / 128) n (omega arith)))

  message_kept : (j : ℕ) → j < 5 * m → kept (8321 + j) ≡ true
  message_kept j h = message_place_lem j ∙ lt-ltb (j / 5) m (omega arith)

  pub no_message_lem : (j : ℕ) → kept (8321 + 5 * m + j) ≡ false
  no_message_lem j =
      let e : 8321 + (5 * m + j) ≡ 8321 + 5 * m + j = omega arith in
      subst (λ (p : ℕ). kept p ≡ false) e (message_place_lem (5 * m + j) ∙ le-ltb ((5 * m + j) / 5) m (omega arith))

  -- ---- how many are before each run

  count_head : count 1 kept ≡ 1
  unfolding count
  count_head = rw head_kept

  count_nodes : (j : ℕ) → j ≤ 2 * n → count (1 + j) kept ≡ 1 + j
  count_nodes j h = run_all kept 1 j (λ i l. node_kept i (omega arith)) ∙ ap (λ (c : ℕ). c + j) count_head

  count_129 : count 129 kept ≡ 1 + 2 * n
  count_129 =
      let e : 1 + 2 * n + (128 - 2 * n) ≡ 129 = omega arith in
      ap (λ (p : ℕ). count p kept) (sym e) ∙ run_none kept (1 + 2 * n) (128 - 2 * n) no_node ∙ count_nodes (2 * n) (le_refl (2 * n))

  module _ (x : ℕ) (hx : x < n) where
    row_first : (j : ℕ) → j ≤ 2 * x → count (pair_place x 0 + j) kept ≡ count (pair_place x 0) kept + j
    row_first j h = run_all kept (pair_place x 0) j (λ i l. first_kept x hx i (omega arith))

    row_itself : count (pair_place x 0 + 2 * x + 2) kept ≡ count (pair_place x 0) kept + 2 * x
    row_itself = run_none kept (pair_place x 0 + 2 * x) 2 (not_itself x hx) ∙ row_first (2 * x) (le_refl (2 * x))

    row_second : (j : ℕ) → j ≤ 2 * (n - 1 - x) → count (pair_place x 0 + 2 * x + 2 + j) kept ≡ count (pair_place x 0) kept + 2 * x + j
    row_second j h =
        run_all kept (pair_place x 0 + 2 * x + 2) j (λ i l. second_kept x hx i (omega arith)) ∙ ap (λ (c : ℕ). c + j) row_itself

    row_whole : count (pair_place (suc x) 0) kept ≡ count (pair_place x 0) kept + 2 * (n - 1)
    row_whole =
        let e : pair_place x 0 + 2 * n + (128 - 2 * n) ≡ pair_place (suc x) 0 = omega arith in
        let f : pair_place x 0 + 2 * x + 2 + 2 * (n - 1 - x) ≡ pair_place x 0 + 2 * n = omega arith in
        let c : count (pair_place x 0) kept + 2 * x + 2 * (n - 1 - x) ≡ count (pair_place x 0) kept + 2 * (n - 1) = omega arith in
        ap (λ (p : ℕ). count p kept) (sym e)
        ∙ run_none kept (pair_place x 0 + 2 * n) (128 - 2 * n) (no_pair x hx)
        ∙ ap (λ (p : ℕ). count p kept) (sym f)
        ∙ row_second (2 * (n - 1 - x)) (le_refl (2 * (n - 1 - x))) ∙ c

  count_rows : (x : ℕ) → x ≤ n → count (pair_place x 0) kept ≡ 1 + 2 * n + 2 * ((n - 1) * x)
  count_rows zero h = count_129 ∙ rw (mul-zero (n - 1)) (omega arith)
  count_rows (suc x) h = row_whole x h ∙ rw (count_rows x (omega arith), mul-suc (n - 1) x) (omega arith)

  count_8321 : count 8321 kept ≡ 1 + 2 * n + 2 * ((n - 1) * n)
  count_8321 =
      let e : pair_place n 0 + 128 * (64 - n) ≡ 8321 = omega arith in
      ap (λ (p : ℕ). count p kept) (sym e) ∙ run_none kept (pair_place n 0) (128 * (64 - n)) no_row ∙ count_rows n (le_refl n)

  count_messages : (j : ℕ) → j ≤ 5 * m → count (8321 + j) kept ≡ 1 + 2 * n + 2 * ((n - 1) * n) + j
  count_messages j h = run_all kept 8321 j (λ i l. message_kept i (omega arith)) ∙ ap (λ (c : ℕ). c + j) count_8321

  count_all_places : m ≤ 1024 → count ring_length kept ≡ 1 + 2 * n + 2 * ((n - 1) * n) + 5 * m
  count_all_places many =
      let e : 8321 + 5 * m + (5120 - 5 * m) ≡ ring_length = omega arith in
      ap (λ (p : ℕ). count p kept) (sym e)
      ∙ run_none kept (8321 + 5 * m) (5120 - 5 * m) (λ j l. no_message_lem j) ∙ count_messages (5 * m) (le_refl (5 * m))

  -- ---- the runs, each with the place at which it stands in a short ring

  pub node_run : Run n m 0 (1 + 2 * n) 0
  unfolding count
  node_run =
      record {
        all = λ j h. elim (dec_lt j 1) [
          | yes l ↦ let e : 0 ≡ j = omega arith in subst (λ (p : ℕ). kept (0 + p) ≡ true) e head_kept
          | no l ↦ let e : 1 + (j - 1) ≡ 0 + j = omega arith in subst (λ (p : ℕ). kept p ≡ true) e (node_kept (j - 1) (omega arith))
        ];
        rank = refl;
        fits = omega arith;
      }

  pub first_run : (x : ℕ) → x < n → Run n m (pair_place x 0) (2 * x) (1 + 2 * n + 2 * ((n - 1) * x))
  first_run x hx = record { all = first_kept x hx; rank = count_rows x (omega arith); fits = omega arith }

  pub second_run : (x : ℕ) → x < n → Run n m (pair_place x 0 + 2 * x + 2) (2 * (n - 1 - x)) (1 + 2 * n + 2 * ((n - 1) * x) + 2 * x)
  second_run x hx =
      record { all = second_kept x hx; rank = row_itself x hx ∙ ap (λ (c : ℕ). c + 2 * x) (count_rows x (omega arith)); fits = omega arith }

  pub message_run : m ≤ 1024 → Run n m 8321 (5 * m) (1 + 2 * n + 2 * ((n - 1) * n))
  message_run many = record { all = message_kept; rank = count_8321; fits = omega arith }

  -- ---- how many places before a place belong: where its word stands in a short ring

  pub node_rank : (s i : ℕ) → s < n → i < 2 → count (node_place s + i) (belongs n m) ≡ node_place s + i
  node_rank s i hs hi =
      let e : 1 + (2 * s + i) ≡ node_place s + i = omega arith in
      subst (λ (p : ℕ). count p (belongs n m) ≡ p) e (count_nodes (2 * s + i) (omega arith))

  pub pair_rank : (x z i : ℕ) → x < n → z < n → (z ≡ x → ⊥) → i < 2 → count (pair_place x z + i) (belongs n m) ≡ short_pair n x z + i
  pair_rank x z i hx hz d hi =
      elim (dec_lt z x) [
        | yes l ↦
            let e : pair_place x 0 + (2 * z + i) ≡ pair_place x z + i = omega arith in
            rw (lt-ltb z x l)
            (subst (λ (p : ℕ). count p (belongs n m) ≡ 1 + 2 * n + 2 * ((n - 1) * x) + 2 * z + i) e
            (row_first x hx (2 * z + i) (omega arith) ∙ rw (count_rows x (omega arith)) (omega arith)))
        | no l ↦
            let e : pair_place x 0 + 2 * x + 2 + (2 * z + i - (2 * x + 2)) ≡ pair_place x z + i = omega arith in
            rw (le-ltb z x (omega arith))
            (subst (λ (p : ℕ). count p (belongs n m) ≡ 1 + 2 * n + 2 * ((n - 1) * x) + 2 * (z - 1) + i) e
            (row_second x hx (2 * z + i - (2 * x + 2)) (omega arith) ∙ rw (count_rows x (omega arith)) (omega arith)))
      ]

  pub message_rank : (k i : ℕ) → k < m → i < 5 → count (message_place k + i) (belongs n m) ≡ short_message n k + i
  message_rank k i hk hi =
      let e : 8321 + (5 * k + i) ≡ message_place k + i = omega arith in
      subst (λ (p : ℕ). count p (belongs n m) ≡ short_message n k + i) e (count_messages (5 * k + i) (omega arith) ∙ omega arith)

  -- "Its length follows from n and m."
  pub short_length_lem : m ≤ 1024 → short_length n m ≡ 1 + 2 * (n * n) + 5 * m
  unfolding places
  short_length_lem many = length_members ring_length (belongs n m) ∙ count_all_places many ∙ ap (λ (k : ℕ). k + 5 * m) (messages_from n)

-- ---- members by their ranks

count_rises : (S : Set) (a b : ℕ) → a ≤ b → count a S ≤ count b S
count_rises S a b h =
    let e : a + (b - a) ≡ b = omega arith in
    subst (λ (c : ℕ). count a S ≤ count c S) e (rw (count_parts a (b - a) S) (omega arith))

count_next : (S : Set) (i : ℕ) → S i ≡ true → count (suc i) S ≡ suc (count i S)
unfolding count
count_next S i e = rw e (omega arith)

pub member_at : (n : ℕ) (S : Set) (i : ℕ) → i < n → S i ≡ true → get_or (members n S) (count i S) 0 ≡ i
unfolding members
member_at zero S i h e = absurd (not-suc-le-zero h)
member_at (suc n) S i h e =
    elim (ℕ_discrete i n) [
      | yes q ↦ rw (q, ap S (sym q) ∙ e) (get_or_at (members n S) n [] 0 (count n S) (length_members n S))
      | no d ↦
          let l : i < n = omega arith in
          let r : count (suc i) S ≤ count n S = count_rises S (suc i) n l in
          get_or-append (members n S) (if S n then n ∷ [] else []) 0 (count i S)
          (rw (length_members n S) (omega (arith, r, count_next S i e)))
          ∙ member_at n S i l e
    ]

-- a member for each rank
pub record Ranked (n : ℕ) (S : Set) (j : ℕ) : Type 0 where
  pub member : ℕ
  pub below : member < n
  pub within : S member ≡ true
  pub rank : count member S ≡ j

pub ranked : (n : ℕ) (S : Set) (j : ℕ) → j < count n S → Ranked n S j
unfolding count
ranked zero S j h = absurd (not-suc-le-zero h)
ranked (suc n) S j h =
    elim (dec_lt j (count n S)) [
      | yes l ↦ let q = ranked n S j l in record { member = q.member; below = omega (arith, q.below); within = q.within; rank = q.rank }
      | no l ↦
          decide (S n)
          (λ e. let g : j < count n S + 1 = rw e at h in record { member = n; below = le_refl (suc n); within = e; rank = omega arith })
          (λ e. let g : j < count n S + 0 = rw e at h in absurd (omega arith))
    ]

-- ---- the two editions

-- the places of which a short ring of these words has the words
abbrev pub kept_of : List ℕ → Set
kept_of ws = belongs (size_in ws) (count_in ws)

head_belongs : (n m : ℕ) → belongs n m 0 ≡ true
unfolding belongs
head_belongs n m = refl

module _ (ws : List ℕ) where
  pub short_long : length (shortened ws) ≡ count ring_length (kept_of ws)
  unfolding shortened places
  short_long = length-map (places (size_in ws) (count_in ws)) (at ws) ∙ length_members ring_length (kept_of ws)

  pub short_at : (i : ℕ) → i < ring_length → kept_of ws i ≡ true → at (shortened ws) (count i (kept_of ws)) ≡ at ws i
  unfolding shortened places
  short_at i h e =
      let r : count (suc i) (kept_of ws) ≤ count ring_length (kept_of ws) = count_rises (kept_of ws) (suc i) ring_length h in
      map_at (at ws) (members ring_length (kept_of ws)) (count i (kept_of ws))
      (rw (length_members ring_length (kept_of ws)) (omega (arith, r, count_next (kept_of ws) i e)))
      ∙ ap (at ws) (member_at ring_length (kept_of ws) i h e)

  pub run_short : {a k p : ℕ} → Run (size_in ws) (count_in ws) a k p → (j : ℕ) → j < k → at (shortened ws) (p + j) ≡ at ws (a + j)
  run_short {a = a} r j h =
      ap (at (shortened ws)) (sym (run_rank r j (omega arith))) ∙ short_at (a + j) (omega (arith, r.fits)) (r.all j h)

  -- word 0 is that of the ring
  pub short_head : at (shortened ws) 0 ≡ at ws 0
  unfolding count
  short_head = short_at 0 (lit< tt) (head_belongs (size_in ws) (count_in ws))

module _ (short : List ℕ) where
  pub long_length : length (lengthened short) ≡ ring_length
  unfolding lengthened
  long_length = length_tabulate (long_word (size_in short) (count_in short) short) ring_length

  pub long_at : (i : ℕ) → i < ring_length → at (lengthened short) i ≡ long_word (size_in short) (count_in short) short i
  unfolding lengthened
  long_at i h = get_d_tabulate (long_word (size_in short) (count_in short) short) 0 ring_length i h

  pub long_head : at (lengthened short) 0 ≡ at short 0
  unfolding count
  long_head = long_at 0 (lit< tt) ∙ rw (head_belongs (size_in short) (count_in short))

-- "A word belonging to no stand, pair or message is wholly 0."
pub none_belongs : (r : Ring) (i : ℕ) → belongs (size r.table) (length r.messages) i ≡ false → word_at r i ≡ 0
unfolding word_at
none_belongs r i f = rw f

decoded_kept : (ws : List ℕ) (i : ℕ) → belongs (size (decode ws).table) (length (decode ws).messages) i ≡ kept_of ws i
unfolding decode decode_table
decoded_kept ws i =
    rw (length_tabulate (λ s. bits 0 24 (at ws (node_place s))) (size_in ws), length_tabulate (decode_message ws) (count_in ws))

none_kept : (ws : List ℕ) → reads_as_ring ws ≡ true → (i : ℕ) → i < ring_length → kept_of ws i ≡ false → at ws i ≡ 0
none_kept ws e i h f =
    ap (λ (l : List ℕ). get_or l i 0) (decoded_back ws e) ∙ encode_at (decode ws) i h ∙ none_belongs (decode ws) i (decoded_kept ws i ∙ f)

-- "A ring turned short and back is itself"
pub short_back : (ws : List ℕ) → reads_as_ring ws ≡ true → lengthened (shortened ws) ≡ ws
short_back ws e =
    ext_get_or 0 (lengthened (shortened ws)) ws (long_length (shortened ws) ∙ sym (reads_out ws e).long)
    (λ i h. word i (omega (arith, long_length (shortened ws))))
  where
    word : (i : ℕ) → i < ring_length → at (lengthened (shortened ws)) i ≡ at ws i
    word i h =
        long_at (shortened ws) i h
        ∙ ap (λ (w : ℕ). long_word (bits 4 7 w) (bits 11 11 w) (shortened ws) i) (short_head ws)
        ∙ if_law (λ (w : ℕ). w ≡ at ws i) (kept_of ws i) (at (shortened ws) (count i (kept_of ws))) 0
        (short_at ws i h) (λ f. sym (none_kept ws e i h f))

-- "and so is a short ring made long and short again", if it has the length that its word 0 says
pub long_back : (short : List ℕ) → length short ≡ short_length (size_in short) (count_in short) → shortened (lengthened short) ≡ short
unfolding places
long_back short e =
    ext_get_or 0 (shortened (lengthened short)) short (long ∙ sym many) (λ j h. word j (ranked ring_length (kept_of short) j (omega (arith, long))))
  where
    many : length short ≡ count ring_length (kept_of short)
    many = e ∙ length_members ring_length (kept_of short)

    same : kept_of (lengthened short) ≡ kept_of short
    same = ap (λ (w : ℕ). belongs (bits 4 7 w) (bits 11 11 w)) (long_head short)

    long : length (shortened (lengthened short)) ≡ count ring_length (kept_of short)
    long = short_long (lengthened short) ∙ ap (count ring_length) same

    word : (j : ℕ) → Ranked ring_length (kept_of short) j → at (shortened (lengthened short)) j ≡ at short j
    word j q =
        let i : ℕ = q.member in
        ap (at (shortened (lengthened short))) (sym q.rank ∙ ap (λ (S : Set). count i S) (sym same))
        ∙ short_at (lengthened short) i q.below (ap (λ (S : Set). S i) same ∙ q.within)
        ∙ long_at short i q.below
        ∙ rw q.within (ap (at short) q.rank)

-- "Two rings have equal short forms only if equal."
pub short_tells : (ws vs : List ℕ) → reads_as_ring ws ≡ true → reads_as_ring vs ≡ true → shortened ws ≡ shortened vs → ws ≡ vs
short_tells ws vs e f p = sym (short_back ws e) ∙ ap lengthened p ∙ short_back vs f

-- ---- words that read as a ring, and short ones

-- n and m of words that read as a ring
pub record Bounds (ws : List ℕ) : Type 0 where
  pub size_low : 1 ≤ size_in ws
  pub size_high : size_in ws ≤ 64
  pub count_high : count_in ws ≤ 1024

pub reads_bounds : (ws : List ℕ) → reads_as_ring ws ≡ true → Bounds ws
unfolding decode decode_table
reads_bounds ws e =
    let g = reads_well ws e in
    let n : size (decode ws).table ≡ size_in ws = length_tabulate (λ s. bits 0 24 (at ws (node_place s))) (size_in ws) in
    let m : length (decode ws).messages ≡ count_in ws = length_tabulate (decode_message ws) (count_in ws) in
    record {
      size_low = rw n at g.table_well.size_low;
      size_high = rw n at g.table_well.size_high;
      count_high = rw m at g.count_high;
    }

pub record ReadsAsShort (short : List ℕ) : Type 0 where
  pub long : length short ≡ short_length (size_in short) (count_in short)
  pub expands : reads_as_ring (lengthened short) ≡ true

pub short_out : (short : List ℕ) → reads_as_short short ≡ true → ReadsAsShort short
unfolding reads_as_short
short_out short e =
    let p = every_out (ltb 0 (length short) ∷ eqb (length short) (short_length (size_in short) (count_in short)) ∷ reads_as_ring (lengthened short) ∷ []) e in
    record { long = eqb-true (length short) (short_length (size_in short) (count_in short)) (first (rest p)); expands = first (rest (rest p)) }

-- the short form of a ring reads as one
pub short_reads : (ws : List ℕ) → reads_as_ring ws ≡ true → reads_as_short (shortened ws) ≡ true
unfolding reads_as_short places
short_reads ws e =
    let b = reads_bounds ws e in
    let l : length (shortened ws) ≡ short_length (size_in ws) (count_in ws) = short_long ws ∙ sym (length_members ring_length (kept_of ws)) in
    let some : 0 < length (shortened ws) = rw (l, short_length_lem (size_in ws) (count_in ws) b.size_high b.count_high) (omega arith) in
    every_in
    (cons (lt-ltb 0 (length (shortened ws)) some)
    (cons (eq-eqb (length (shortened ws)) _ (l ∙ ap (λ (w : ℕ). short_length (bits 4 7 w) (bits 11 11 w)) (sym (short_head ws))))
    (cons (ap reads_as_ring (short_back ws e) ∙ e) nil)))

-- and its length is by n and m
pub shortened_length : (ws : List ℕ) → reads_as_ring ws ≡ true → length (shortened ws) ≡ 1 + 2 * (size_in ws * size_in ws) + 5 * count_in ws
unfolding places
shortened_length ws e =
    let b = reads_bounds ws e in
    short_long ws ∙ sym (length_members ring_length (kept_of ws)) ∙ short_length_lem (size_in ws) (count_in ws) b.size_high b.count_high

-- n and m of a short ring, and its length
pub short_bounds : (short : List ℕ) → reads_as_short short ≡ true → Bounds short
short_bounds short e =
    let b = reads_bounds (lengthened short) (short_out short e).expands in
    record {
      size_low = rw (long_head short) at b.size_low;
      size_high = rw (long_head short) at b.size_high;
      count_high = rw (long_head short) at b.count_high;
    }

-- ---- the calls

-- "A ring turned short and back is itself": whatever the long buffer held
pub lengthen_shortened :
    (ws old : List ℕ) → reads_as_ring ws ≡ true → length old ≡ ring_length → lengthen_buffer (shortened ws) old ≡ record { answer = 0; words = ws }
unfolding lengthen_buffer lengthen_answer first_of
lengthen_shortened ws old e l = rw (eq-eqb (length old) ring_length l, short_reads ws e, short_back ws e) refl

-- "and so is a short ring made long and short again": into any place that is long enough
pub shorten_lengthened :
    (short place : List ℕ) → reads_as_short short ≡ true → length short ≤ length place
    → shorten_buffer (lengthened short) place ≡ record { answer = 0; length = length short; place = short ++ drop (length short) place }
unfolding shorten_buffer shorten_answer first_of
shorten_lengthened short place e l =
    let r = short_out short e in
    rw (eq-eqb (length (lengthened short)) ring_length (long_length short), r.expands, long_back short r.long, le-ltb (length place) (length short) l) refl
