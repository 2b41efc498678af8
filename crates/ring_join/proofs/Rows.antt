-- Rows of pairs: a row is written span by span, rows one after the other; and what the second ring has in its pairs.
use mathlib.Core.Path.{◌≡◌, refl, sym, ap, ◌∙◌, subst}
use mathlib.Core.Logic.{◌≢◌}
use mathlib.Core.Bool.{true}
use mathlib.Core.List.{List}
use Prim.Native.Nat.{ℕ, zero, suc, ◌+◌, ◌-◌, ◌<◌, ◌≤◌}
use native.Mathlib.Omega.{arith}
use native.Mathlib.Nat.{add-zero}
use native.Mathlib.Decide.{dec_lt}
use lib.Dec.{lit<}
use lib.ListN.{length, get_or}
use borrow.Author.Tests.{le-leb, lt-leb}
use Rattle.model.specs.Fields.{bits}
use Rattle.model.specs.Ring.{Own, cleared}
use Rattle.model.specs.Words.{pair_place, pair_word, spare_word, pair_words, is_pair, ring_length, decode_table, decode_own, decode_node, decode}
use Rattle.model.specs.Join.{raised, raised_own}
use Rattle.model.proofs.Words.{reads_out, decoded_back, pair_at}
use Rattle.model.proofs.Decoded.{reads_well}
use Rattle.model.proofs.RoundTrip.{spare_high}
use Rattle.ring_head.proofs.Holds.{holds, pair_yes}
use Rattle.ring_pairs.specs.Stored.{Stored}
use Rattle.ring_pairs.proofs.Stores.{two, stored_more}
use Rattle.ring_join.specs.Parts.{Second, Row, Rows}

-- ---- a row

-- a span of a row, of a record with the same words there
pub row_span : (ws ws' : List ℕ) (x a b : ℕ) (o o' : Own) → Stored ws ws' x a b o → ((z : ℕ) → a ≤ z → z < b → z ≢ x)
    → ((z : ℕ) → a ≤ z → z < b → pair_words o z ≡ pair_words o' z) → Row ws ws' x a b o'
row_span ws ws' x a b o o' s apart same =
    record {
      long = s.long;
      pair = λ z i h g d hi. at z h g i hi ∙ ap (λ (l : List ℕ). get_or l i 0) (same z h g);
      other = λ i f. s.other i (λ z h g. f z h g (apart z h g));
    }
  where
    at : (z : ℕ) → a ≤ z → z < b → (i : ℕ) → i < 2 → get_or ws' (pair_place x z + i) 0 ≡ get_or (pair_words o z) i 0
    at z h g zero hi = rw (add-zero (pair_place x z)) (s.first z h g)
    at z h g (suc zero) hi = s.second z h g
    at z h g (suc (suc i)) hi = absurd (omega arith)

-- one span after another: between them there is nothing, or x itself
row_more : (ws v w : List ℕ) (x a b c d : ℕ) (o : Own) → d ≤ 64 → b ≤ c → a ≤ c → b ≤ d → ((z : ℕ) → b ≤ z → z < c → z ≡ x)
    → Row ws v x a b o → Row v w x c d o → Row ws w x a d o
row_more ws v w x a b c d o hd hb ha hbd gap r s =
    record {
      long = s.long ∙ r.long;
      pair = λ z i h g n hi.
          elim (dec_lt z b) [
            | yes l ↦ s.other (pair_place x z + i) (λ k p q m. (omega arith, omega arith)) ∙ r.pair z i h l n hi
            | no l ↦ elim (dec_lt z c) [
              | yes m ↦ absurd (n (gap z (omega arith) m))
              | no m ↦ s.pair z i (omega arith) g n hi
            ]
          ];
      other = λ i f. s.other i (λ z h g n. f z (omega arith) g n) ∙ r.other i (λ z h g n. f z h (omega arith) n);
    }

-- ---- rows

pub rows_none : (ws : List ℕ) (from to a b : ℕ) (own : ℕ → Own) → to ≤ from → Rows ws ws from to a b own
rows_none ws from to a b own h = record { long = refl; pair = λ x z i p q. absurd (omega arith); other = λ i f. refl }

pub rows_more : (ws ws' w : List ℕ) (from x next a b : ℕ) (own : ℕ → Own) → from ≤ x → b ≤ 64 → next ≡ x + 1
    → Rows ws ws' from x a b own → Row ws' w x a b (own x) → Rows ws w from next a b own
rows_more ws ws' w from x next a b own hf hb e r s =
    record {
      long = s.long ∙ r.long;
      pair = λ y z i p q h g n hi.
          elim (dec_lt y x) [
            | yes l ↦ s.other (pair_place y z + i) (λ k u v m. (omega arith, omega arith)) ∙ r.pair y z i p l h g n hi
            | no l ↦ here y z i (omega arith) h g n hi
          ];
      other = λ i f. s.other i (λ z. f x z hf (omega arith)) ∙ r.other i (λ y z p q. f y z p (omega arith));
    }
  where
    here : (y z i : ℕ) → y ≡ x → a ≤ z → z < b → z ≢ y → i < 2 → get_or w (pair_place y z + i) 0 ≡ get_or (pair_words (own y) z) i 0
    here y z i q h g n hi =
        subst (λ (j : ℕ). get_or w (pair_place j z + i) 0 ≡ get_or (pair_words (own j) z) i 0) (sym q) (s.pair z i h g (λ m. n (m ∙ sym q)) hi)

-- ---- a record that rose

-- among the first's nodes it is clear
raised_below : (n z : ℕ) (o : Own) → z < n → pair_words cleared z ≡ pair_words (raised_own n o) z
raised_below n z o h = sym (rw (lt-leb n z h))

-- among the second's it is the second's
module _ (n z : ℕ) (o : Own) where
  back : n + z - n ≡ z
  back = omega arith

  raised_first : pair_word (o.commit z) (o.held z) (o.candidates z)
      ≡ pair_word ((raised_own n o).commit (n + z)) ((raised_own n o).held (n + z)) ((raised_own n o).candidates (n + z))
  raised_first = sym (rw (le-leb n (n + z) (omega arith), back))

  raised_second : spare_word (raised n (o.spare z)) ≡ spare_word ((raised_own n o).spare (n + z))
  raised_second = sym (rw (le-leb n (n + z) (omega arith), back))

-- the row of the second's node y: clear among the first's, then its pairs below y and above
pub row_raised : (ws t v w : List ℕ) (n k y : ℕ) (o : Own) → n + k ≤ 64 → y < k → Stored ws t (n + y) 0 n cleared
    → Stored t v (n + y) (n + 0) (n + y) (raised_own n o) → Stored v w (n + y) (n + (y + 1)) (n + k) (raised_own n o)
    → Row ws w (n + y) 0 (n + k) (raised_own n o)
row_raised ws t v w n k y o room h across below above =
    row_more ws v w (n + y) 0 (n + y) (n + (y + 1)) (n + k) (raised_own n o) room (omega arith) (omega arith) (omega arith) (λ z p q. omega arith)
    (row_more ws t v (n + y) 0 n (n + 0) (n + y) (raised_own n o) (omega arith) (omega arith) (omega arith) (omega arith) (λ z p q. absurd (omega arith))
    (row_span ws t (n + y) 0 n cleared (raised_own n o) across (λ z p q e. absurd (omega arith)) (λ z p q. raised_below n z o q))
    (row_span t v (n + y) (n + 0) (n + y) (raised_own n o) (raised_own n o) below (λ z p q e. absurd (omega arith)) (λ z p q. refl)))
    (row_span v w (n + y) (n + (y + 1)) (n + k) (raised_own n o) (raised_own n o) above (λ z p q e. absurd (omega arith)) (λ z p q. refl))

-- the rows of the second's nodes, one more
pub rows_raised : (ws ws' w : List ℕ) (n k y : ℕ) (own : ℕ → Own) → n + k ≤ 64 → Rows ws ws' n (n + y) 0 (n + k) (λ x. raised_own n (own (x - n)))
    → Row ws' w (n + y) 0 (n + k) (raised_own n (own y)) → Rows ws w n (n + (y + 1)) 0 (n + k) (λ x. raised_own n (own (x - n)))
rows_raised ws ws' w n k y own room r s =
    let back : y ≡ n + y - n = omega arith in
    rows_more ws ws' w n (n + y) (n + (y + 1)) 0 (n + k) (λ x. raised_own n (own (x - n))) (omega arith) room (omega arith) r
    (subst (λ (j : ℕ). Row ws' w (n + y) 0 (n + k) (raised_own n (own j))) back s)

-- ---- the pairs of the second ring, in its words

pub second_long : {ws : List ℕ} {n k : ℕ} → Second ws n k → length ws ≡ ring_length
second_long {ws} s = (reads_out ws s.reads).long

module _ (ws : List ℕ) (n k : ℕ) (s : Second ws n k) (y z : ℕ) (hy : y < k) (hz : z < k) (d : z ≢ y) where
  is_pair_lem : is_pair (decode_table ws) y z ≡ true
  is_pair_lem = pair_yes (decode_table ws) y z (rw (← s.nodes) hy) (rw (← s.nodes) hz) d

  -- either word of the pair
  second_word : (i : ℕ) → i < 2 → get_or ws (pair_place y z + i) 0 ≡ get_or (pair_words (decode_own ws y) z) i 0
  unfolding decode decode_node
  second_word i hi =
      let few : k ≤ 64 = omega (arith, s.room) in
      (holds (decode ws) ws (decoded_back ws s.reads)).word (pair_place y z + i) (omega arith)
      ∙ pair_at (decode ws) y z i (omega arith) (omega arith) hi ∙ rw is_pair_lem

  second_pair : get_or ws (pair_place y z) 0 ≡ pair_word ((decode_own ws y).commit z) ((decode_own ws y).held z) ((decode_own ws y).candidates z)
  second_pair = ap (λ (i : ℕ). get_or ws i 0) (sym (add-zero (pair_place y z))) ∙ second_word 0 (lit< tt)

  second_spare : (decode_own ws y).spare z ≡ bits 0 7 (get_or ws (pair_place y z + 1) 0)
  unfolding decode_own
  second_spare = rw is_pair_lem

  pub second_spare_word : get_or ws (pair_place y z + 1) 0 ≡ spare_word (bits 0 7 (get_or ws (pair_place y z + 1) 0))
  second_spare_word = second_word 1 (lit< tt) ∙ ap spare_word second_spare

  pub second_spare_high : bits 0 7 (get_or ws (pair_place y z + 1) 0) ≤ 64
  unfolding decode decode_node
  second_spare_high =
      let w = reads_well ws s.reads in
      rw (sym second_spare) (spare_high w.table_well.size_high ((w.node_well y).own_well.spare_other z))

  -- one more of them, raised
  pub raise_more : (us vs : List ℕ) (a w : ℕ) → length us ≡ ring_length → a ≤ z → w ≡ spare_word (raised n (bits 0 7 (get_or ws (pair_place y z + 1) 0)))
      → Stored us vs (n + y) (n + a) (n + z) (raised_own n (decode_own ws y))
      → Stored us (two vs (pair_place (n + y) (n + z)) (get_or ws (pair_place y z) 0) w) (n + y) (n + a) (n + (z + 1)) (raised_own n (decode_own ws y))
  raise_more us vs a w long h e r =
      let next : n + z + 1 ≡ n + (z + 1) = omega arith in
      subst (λ (j : ℕ). Stored us (two vs (pair_place (n + y) (n + z)) (get_or ws (pair_place y z) 0) w) (n + y) (n + a) j
      (raised_own n (decode_own ws y))) next
      (stored_more us (n + y) (n + a) (raised_own n (decode_own ws y)) vs (n + z) r (get_or ws (pair_place y z) 0) w long
      (omega (arith, s.room)) (omega (arith, s.room)) (omega arith)
      (second_pair ∙ raised_first n z (decode_own ws y))
      (e ∙ ap (λ (v : ℕ). spare_word (raised n v)) (sym second_spare) ∙ raised_second n z (decode_own ws y)))
