-- The rows of a short ring: the pairs of x with the other nodes stand one after the other.
use Rattle.std.proofs.Common.{◌≡◌, ℕ, ◌+◌, ◌-◌, ◌*◌, ◌<◌, ◌≤◌, Bool, true, false, not, ◌&&◌, ◌||◌, eqb, ltb, List, sym, refl, ap, ◌∙◌, ap₂, add-zero, arith}
use Rattle.std.proofs.Common.{ltb-false, ltb-true, le-ltb, lt-ltb, eq-eqb, ne_eqb, eqb-true}
use native.Mathlib.Decide.{dec_lt, ℕ_discrete}
use borrow.Author.Tests.{eqb-false}
use Rattle.model.specs.Fields.{bits, flag}
use Rattle.model.specs.Sets.{Set, count, all}
use Rattle.model.specs.Words.{at}
use Rattle.model.proofs.Laws.{or_left, or_right, or_case, decide, if_law, same_test, all_in, all_out, count_cong, count_parts}
use Rattle.model.specs.Short.{short_row}
use Rattle.model.proofs.Short.{row_room, messages_from}
use Rattle.valid_nodes.specs.Nodes.{key_at, clock_at}
use Rattle.valid_nodes.proofs.Gather.{all_cong}
use Rattle.valid_pairs.specs.Pairs.{link_reads, spare_reads, in_row, apart_reads, in_row_reads, running_reads, run_reads}
use Rattle.valid_pairs.specs.Rows.{nothing_at}
use Rattle.valid_pairs.proofs.PairTest.{count_next, others_full}
use Rattle.valid_pairs.proofs.RowTests.{two_of_three, nothing_reads}

-- the others are tested where each stands
others_cong : (n x : ℕ) (S R : Set) → ((z : ℕ) → z < n → (z ≡ x → ⊥) → S z ≡ R z) → all n (λ z. eqb z x || S z) ≡ all n (λ z. eqb z x || R z)
others_cong n x S R f =
    all_cong (λ z. eqb z x || S z) (λ z. eqb z x || R z) n
    (λ z h. decide (eqb z x) (λ e. rw e) (λ e. ap (λ (b : Bool). eqb z x || b) (f z h (eqb-false z x e))))

-- n - 1 places, one for each other node
pub by_place_lem : (n x : ℕ) (S : Set) → x < n → all (n - 1) S ≡ all n (λ z. eqb z x || S (in_row x z))
by_place_lem n x S hx =
    same_test (all (n - 1) S) (all n (λ z. eqb z x || S (in_row x z)))
    (λ t. all_in n (λ z. eqb z x || S (in_row x z)) (to t)) (λ t. all_in (n - 1) S (from t))
  where
    to : all (n - 1) S ≡ true → (z : ℕ) → z < n → (eqb z x || S (in_row x z)) ≡ true
    to t z h =
        elim (ℕ_discrete z x) [
          | yes e ↦ or_left (S (in_row x z)) (eq-eqb z x e)
          | no d ↦
              or_right (eqb z x) (all_out (n - 1) S t (in_row x z)
              (if_law (λ i. i < n - 1) (ltb z x) z (z - 1) (λ e. omega (arith, ltb-true z x e)) (λ e. omega (arith, ltb-false z x e))))
        ]

    other : all n (λ z. eqb z x || S (in_row x z)) ≡ true → (z : ℕ) → z < n → (z ≡ x → ⊥) → S (in_row x z) ≡ true
    other t z h d = or_case (eqb z x) (S (in_row x z)) (all_out n (λ z. eqb z x || S (in_row x z)) t z h) (λ e. absurd (d (eqb-true z x e))) (λ e. e)

    from : all n (λ z. eqb z x || S (in_row x z)) ≡ true → (i : ℕ) → i < n - 1 → S i ≡ true
    from t i h =
        elim (dec_lt i x) [
          | yes l ↦ rw (lt-ltb i x l) at (other t i (omega arith) (λ e. omega arith))
          | no l ↦
              let e : in_row x (i + 1) ≡ i = rw (le-ltb (i + 1) x (omega arith)) (omega arith) in
              ap S (sym e) ∙ other t (i + 1) (omega arith) (λ e. omega arith)
        ]

-- a pairs fit before x and b after it
pub runs_full : (n x a b : ℕ) (S R Q : Set) → x < n → a ≡ count x R → count (x + 1) Q + b ≡ count n Q
    → ((z : ℕ) → z < x → R z ≡ S z) → ((z : ℕ) → x < z → z < n → Q z ≡ S z)
    → eqb (a + b + 1) n ≡ all n (λ z. eqb z x || S z)
runs_full n x a b S R Q hx ea eb before after =
    ap (λ (k : ℕ). eqb (k + 1) n) counted
    ∙ others_full n x others hx (rw (eq-eqb x x refl))
    ∙ others_cong n x others S (λ z h d. rw (ne_eqb z x d))
  where
    others : Set
    others z = not (eqb z x) && S z

    up_to : a ≡ count (x + 1) others
    up_to =
        ea ∙ count_cong x R others (λ z h. before z h ∙ rw (ne_eqb z x (λ e. omega arith))) ∙ sym (add-zero (count x others))
        ∙ count_next others x (count x others) 0 refl (rw (eq-eqb x x refl))

    from_there : (T : Set) → count n T ≡ count (x + 1) T + count (n - (x + 1)) (λ z. T (x + 1 + z))
    from_there T = let e : n ≡ x + 1 + (n - (x + 1)) = omega arith in ap (λ (k : ℕ). count k T) e ∙ count_parts (x + 1) (n - (x + 1)) T

    beyond : b ≡ count (n - (x + 1)) (λ z. others (x + 1 + z))
    beyond =
        let e = from_there Q in
        let f : b ≡ count (n - (x + 1)) (λ z. Q (x + 1 + z)) = omega arith in
        f ∙ count_cong (n - (x + 1)) (λ z. Q (x + 1 + z)) (λ z. others (x + 1 + z))
        (λ z h. after (x + 1 + z) (omega arith) (omega arith) ∙ rw (ne_eqb (x + 1 + z) x (λ e. omega arith)))

    counted : a + b ≡ count n others
    counted = ap₂ ◌+◌ up_to beyond ∙ sym (from_there others)

module _ (ws : List ℕ) (n x row : ℕ) (hn : n ≤ 64) (hx : x < n) where
  -- the row of a node that is off
  pub short_off : flag 24 (key_at ws x) ≡ false
      → all (n - 1) (λ i. nothing_at ws (row + 2 * i)) ≡ all n (in_row_reads ws n x row)
  short_off off =
      by_place_lem n x (λ i. nothing_at ws (row + 2 * i)) hx
      ∙ others_cong n x (λ z. nothing_at ws (row + 2 * in_row x z)) (λ z. apart_reads ws n x z (row + 2 * in_row x z))
      (λ z h d. nothing z h (row + 2 * in_row x z))
    where
      nothing : (z : ℕ) → z < n → (p : ℕ) → nothing_at ws p ≡ apart_reads ws n x z p
      nothing z h p = rw off (nothing_reads n x z (bits 0 24 (clock_at ws x)) (at ws p) (at ws (p + 1)) hn (omega arith) (omega arith))

  -- that of a running node, by the pairs that fit before x and after it
  pub short_running : (a b : ℕ) → 2 ≤ row → flag 24 (key_at ws x) ≡ true
      → a ≡ count x (run_reads ws n x row)
      → count (x + 1) (run_reads ws n x (row - 2)) + b ≡ count n (run_reads ws n x (row - 2))
      → eqb (a + b + 1) n ≡ all n (in_row_reads ws n x row)
  short_running a b two runs ea eb =
      runs_full n x a b (λ z. running_reads ws n x z (row + 2 * in_row x z)) (run_reads ws n x row) (run_reads ws n x (row - 2)) hx ea eb
      (λ z h. rw (lt-ltb z x h))
      (λ z l h. let e : row - 2 + 2 * z ≡ row + 2 * (z - 1) = omega arith in rw (le-ltb z x (omega arith)) (ap (running_reads ws n x z) e))
      ∙ others_cong n x (λ z. running_reads ws n x z (row + 2 * in_row x z)) (λ z. apart_reads ws n x z (row + 2 * in_row x z))
      (λ z h d. both z (row + 2 * in_row x z))
    where
      both : (z p : ℕ) → running_reads ws n x z p ≡ apart_reads ws n x z p
      both z p = rw runs (two_of_three (link_reads (bits 0 24 (clock_at ws x)) (at ws p)) (spare_reads n x z (at ws p) (at ws (p + 1))))

-- row x ends within the rows
pub row_within : (n x : ℕ) → x < n → short_row n x + 2 * (n - 1) ≤ 1 + 2 * (n * n)
row_within n x h = omega (arith, row_room n x h, messages_from n)
