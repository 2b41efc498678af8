-- The initial ring, written part by part.
use mathlib.Core.Path.{◌≡◌, refl, sym, ap, ◌∙◌}
use mathlib.Core.Logic.{◌≢◌}
use mathlib.Core.Bool.{Bool, true, false}
use mathlib.Core.List.{List}
use Prim.Native.Nat.{ℕ, ◌+◌, ◌<◌, ◌≤◌}
use native.Mathlib.Omega.{arith}
use native.Mathlib.Nat.{add-zero}
use native.Mathlib.Decide.{dec_lt}
use lib.Dec.{lit<}
use lib.ListN.{length, get_or, set, length-set}
use lib.Seq.{get_or-set_same, get_or-set_other}
use borrow.Author.Tests.{lt-ltb, le-ltb}
use Rattle.model.specs.Leafset.{Table, size, key}
use Rattle.model.specs.Ring.{Ring, initial, cleared}
use Rattle.model.specs.Words.{is_pair, head_word, key_word, clock_word, pair_words, node_place, pair_place, message_place, word_at, encode}
use Rattle.model.proofs.Words.{node_at, pair_at, message_at_lem, every_place, pair_low, pair_other, of_pair}
use Rattle.model.proofs.Laws.{clash}
use Rattle.ring_ranges.specs.Spans.{Patched}
use Rattle.ring_ranges.proofs.Patches.{patched_more}
use Rattle.ring_head.proofs.Holds.{encoded, head_at, pair_yes}
use Rattle.ring_pairs.specs.Stored.{Stored}
use Rattle.ring_pairs.proofs.Stores.{two, row_pair, row_other}
use Rattle.ring_initial.specs.Rows.{Rows}

-- ---- one more row of pairs

pub rows_none : (ws : List ℕ) (n : ℕ) → Rows ws ws n 0
rows_none ws n = record { long = refl; pair = λ x z i h. absurd (omega arith); other = λ i f. refl }

pub rows_more : (ws ws' v w : List ℕ) (n x : ℕ) → x < n → n ≤ 64 → Rows ws ws' n x
    → Stored ws' v x 0 x cleared
    → Stored v w x (x + 1) n cleared
    → Rows ws w n (x + 1)
rows_more ws ws' v w n x hx hn r s u =
    record {
      long = u.long ∙ s.long ∙ r.long;
      pair = λ y z i hy hz d hi.
          elim (dec_lt y x) [
            | yes l ↦ row_other ws' v w n x cleared s u hx (pair_place y z + i) (λ k a b. (omega arith, omega arith)) ∙ r.pair y z i l hz d hi
            | no l ↦ here y z i hz d hi (omega arith)
          ];
      other = λ i f. row_other ws' v w n x cleared s u hx i (λ z. f x z (omega arith)) ∙ r.other i (λ y z l. f y z (omega arith));
    }
  where
    here : (y z i : ℕ) → z < n → z ≢ y → i < 2 → y ≡ x → get_or w (pair_place y z + i) 0 ≡ get_or (pair_words cleared z) i 0
    here y z i hz d hi e = rw e (row_pair ws' v w n x cleared s u z i hz (λ q. d (q ∙ sym e)) hi)

-- ---- the whole

module _ (t : Table) (hn : size t ≤ 64) where
  -- the words of one more node
  pub node_more : (ws ws' : List ℕ) (s : ℕ) → s < size t → length ws ≡ 13441
      → Patched ws ws' (node_place 0) (node_place s) (word_at (initial t))
      → (a b : ℕ) → a ≡ key_word (key t s) false → b ≡ clock_word 0
      → Patched ws (two ws' (node_place s) a b) (node_place 0) (node_place (s + 1)) (word_at (initial t))
  unfolding initial
  node_more ws ws' s hs long p a b ea eb =
      let first : word_at (initial t) (node_place s) ≡ key_word (key t s) false =
      ap (word_at (initial t)) (sym (add-zero (node_place s)))
      ∙ node_at (initial t) s 0 (omega arith) (lit< tt)
      ∙ rw (lt-ltb s (size t) hs)
      in
      let second : word_at (initial t) (node_place s + 1) ≡ clock_word 0 =
      node_at (initial t) s 1 (omega arith) (lit< tt) ∙ rw (lt-ltb s (size t) hs)
      in
      patched_more ws (set ws' (node_place s) a) (node_place 0) (node_place s + 1) (node_place (s + 1)) (word_at (initial t)) b
      (patched_more ws ws' (node_place 0) (node_place s) (node_place s + 1) (word_at (initial t)) a p (omega arith) (omega arith) (ea ∙ sym first) refl)
      (omega arith) (omega arith) (eb ∙ sym second) (omega arith)

  module _ (ws v u ws' : List ℕ) (head : ℕ) (long : length ws ≡ 13441)
      (c : Patched ws v 0 13441 (λ i. 0)) (e : head ≡ head_word t.sides (size t) 0)
      (p : Patched (set v 0 head) u (node_place 0) (node_place (size t)) (word_at (initial t))) (r : Rows u ws' (size t) (size t)) where
    ρ : Ring
    ρ = initial t

    zero_at : (i : ℕ) → 0 < i → i < 13441 → get_or (set v 0 head) i 0 ≡ 0
    zero_at i h l = get_or-set_other v 0 i head 0 (omega arith) ∙ c.inside i (omega arith) l

    -- what is no pair
    kept : (i : ℕ) → (i < 129 → ⊥) → i < 13441
        → ((x z : ℕ) → x < size t → z < size t → z ≢ x → (i ≢ pair_place x z) × (i ≢ pair_place x z + 1))
        → get_or ws' i 0 ≡ 0
    kept i h l f = r.other i f ∙ p.high i (omega arith) ∙ zero_at i (omega arith) l

    at_pair : (x z i : ℕ) → x < 64 → z < 64 → i < 2 → (b : Bool) → is_pair t x z ≡ b → get_or ws' (pair_place x z + i) 0 ≡ of_pair ρ x z i
    unfolding ρ initial
    at_pair x z i hx hz hi true q = let o = pair_other t x z q in rw q (r.pair x z i (pair_low t x z q) o.low o.differs hi)
    at_pair x z i hx hz hi false q = rw q (kept (pair_place x z + i) (omega arith) (omega arith) away)
      where
        away : (y k : ℕ) → y < size t → k < size t → k ≢ y → (pair_place x z + i ≢ pair_place y k) × (pair_place x z + i ≢ pair_place y k + 1)
        away y k hy hk d = (λ e. clash' (omega arith) (omega arith), λ e. clash' (omega arith) (omega arith))
          where
            clash' : x ≡ y → z ≡ k → ⊥
            clash' a b = absurd (clash (rw (a, b) (pair_yes t y k hy hk d)) q)

    pub opened : ws' ≡ encode (initial t)
    unfolding ρ initial
    opened =
        encoded (initial t) ws'
        (record {
          long = r.long ∙ p.long ∙ length-set v 0 head ∙ c.long ∙ long;
          word = every_place (λ i. get_or ws' i 0 ≡ word_at (initial t) i)
              (r.other 0 (λ x z a b d. (omega arith, omega arith))
              ∙ p.low 0 (omega arith)
              ∙ get_or-set_same v 0 head 0 (omega (arith, c.long))
              ∙ e
              ∙ sym (head_at (initial t)))
              (λ s i hs hi.
              r.other (node_place s + i) (λ x z a b d. (omega arith, omega arith))
              ∙ elim (dec_lt s (size t)) [
                | yes l ↦ p.inside (node_place s + i) (omega arith) (omega arith)
                | no l ↦ p.high (node_place s + i) (omega arith)
                    ∙ zero_at (node_place s + i) (omega arith) (omega arith)
                    ∙ sym (node_at (initial t) s i hs hi ∙ rw (le-ltb s (size t) (omega arith)))
              ])
              (λ x z i hx hz hi. at_pair x z i hx hz hi (is_pair t x z) refl ∙ sym (pair_at (initial t) x z i hx hz hi))
              (λ k i hk hi.
              kept (message_place k + i) (omega arith) (omega arith) (λ x z a b d. (omega arith, omega arith))
              ∙ sym (message_at_lem (initial t) k i hi ∙ rw (le-ltb k 0 (omega arith))));
        })
