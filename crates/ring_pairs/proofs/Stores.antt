-- The pairs of a node written, one at a time.
use mathlib.Core.Path.{◌≡◌, refl, ◌∙◌}
use mathlib.Core.Logic.{◌≢◌}
use mathlib.Core.List.{List}
use Prim.Native.Nat.{ℕ, zero, suc, ◌+◌, ◌<◌, ◌≤◌}
use native.Mathlib.Omega.{arith}
use native.Mathlib.Nat.{add-zero}
use native.Mathlib.Decide.{dec_lt}
use lib.ListN.{length, get_or, set, length-set}
use lib.Seq.{get_or-set_same, get_or-set_other}
use Rattle.model.specs.Ring.{Own}
use Rattle.model.specs.Words.{pair_word, spare_word, pair_words, pair_place}
use Rattle.ring_pairs.specs.Stored.{Stored}

-- two words written side by side
module _ (l : List ℕ) (p a b : ℕ) where
  abbrev pub two : List ℕ
  two = set (set l p a) (p + 1) b

  two_first : p < length l → get_or two p 0 ≡ a
  two_first h = get_or-set_other (set l p a) (p + 1) p b 0 (omega arith) ∙ get_or-set_same l p a 0 h

  two_second : p + 1 < length l → get_or two (p + 1) 0 ≡ b
  two_second h = get_or-set_same (set l p a) (p + 1) b 0 (rw length-set h)

  two_other : (i : ℕ) → i ≢ p → i ≢ p + 1 → get_or two i 0 ≡ get_or l i 0
  two_other i f g = get_or-set_other (set l p a) (p + 1) i b 0 g ∙ get_or-set_other l p i a 0 f

module _ (ws : List ℕ) (x a : ℕ) (o : Own) where
  pub stored_none : Stored ws ws x a a o
  stored_none = record { long = refl; first = λ z h g. absurd (omega arith); second = λ z h g. absurd (omega arith); other = λ i f. refl }

  module _ (ws' : List ℕ) (z : ℕ) (s : Stored ws ws' x a z o) (v w : ℕ) (long : length ws ≡ 13441) (hx : x < 64) (hz : z < 64) (ha : a ≤ z)
      (p : v ≡ pair_word (o.commit z) (o.held z) (o.candidates z)) (q : w ≡ spare_word (o.spare z)) where
    l : length ws' ≡ 13441
    l = s.long ∙ long

    pub stored_more : Stored ws (two ws' (pair_place x z) v w) x a (z + 1) o
    stored_more =
        record {
          long = simp length-set s.long;
          first = λ k g h.
              elim (dec_lt k z) [
                | yes y ↦ two_other ws' (pair_place x z) v w (pair_place x k) (omega arith) (omega arith) ∙ s.first k g y
                | no y ↦ first_here k (omega arith)
              ];
          second = λ k g h.
              elim (dec_lt k z) [
                | yes y ↦ two_other ws' (pair_place x z) v w (pair_place x k + 1) (omega arith) (omega arith) ∙ s.second k g y
                | no y ↦ second_here k (omega arith)
              ];
          other = λ i f. two_other ws' (pair_place x z) v w i (f z ha (omega arith)).0 (f z ha (omega arith)).1 ∙ s.other i (λ k g h. f k g (omega arith));
        }
      where
        first_here : (k : ℕ) → k ≡ z → get_or (two ws' (pair_place x z) v w) (pair_place x k) 0 ≡ pair_word (o.commit k) (o.held k) (o.candidates k)
        first_here k e = rw e (two_first ws' (pair_place x z) v w (omega (arith, l)) ∙ p)

        second_here : (k : ℕ) → k ≡ z → get_or (two ws' (pair_place x z) v w) (pair_place x k + 1) 0 ≡ spare_word (o.spare k)
        second_here k e = rw e (two_second ws' (pair_place x z) v w (omega (arith, l)) ∙ q)

-- ---- the pairs of x below x, and those above

module _ (ws v ws' : List ℕ) (n x : ℕ) (o : Own) (s : Stored ws v x 0 x o) (u : Stored v ws' x (x + 1) n o) where
  pub row_pair : (z i : ℕ) → z < n → z ≢ x → i < 2 → get_or ws' (pair_place x z + i) 0 ≡ get_or (pair_words o z) i 0
  row_pair z i hz d hi = elim (dec_lt z x) [ yes l ↦ below i hi l | no l ↦ above i hi (omega arith) ]
    where
      below : (i : ℕ) → i < 2 → z < x → get_or ws' (pair_place x z + i) 0 ≡ get_or (pair_words o z) i 0
      below zero hi l = rw (add-zero (pair_place x z)) (u.other (pair_place x z) (λ k a b. (omega arith, omega arith)) ∙ s.first z (omega arith) l)
      below (suc zero) hi l = u.other (pair_place x z + 1) (λ k a b. (omega arith, omega arith)) ∙ s.second z (omega arith) l
      below (suc (suc i)) hi l = absurd (omega arith)

      above : (i : ℕ) → i < 2 → x + 1 ≤ z → get_or ws' (pair_place x z + i) 0 ≡ get_or (pair_words o z) i 0
      above zero hi l = rw (add-zero (pair_place x z)) (u.first z l hz)
      above (suc zero) hi l = u.second z l hz
      above (suc (suc i)) hi l = absurd (omega arith)

  pub row_other : x < n → (i : ℕ) → ((z : ℕ) → z < n → z ≢ x → (i ≢ pair_place x z) × (i ≢ pair_place x z + 1)) → get_or ws' i 0 ≡ get_or ws i 0
  row_other hx i f = u.other i (λ z a b. f z b (omega arith)) ∙ s.other i (λ z a b. f z (omega arith) (omega arith))
