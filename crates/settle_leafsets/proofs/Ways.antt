-- Going round the ring one way or the other: distances add up, and a node is in a leafset where fewer than A, or B, come before it on its way.
use mathlib.Core.Path.{◌≡◌, refl, sym, ap, ◌∙◌}
use mathlib.Core.Logic.{◌⊎◌, inl, inr}
use Prim.Native.Nat.{ℕ, ◌+◌, ◌≤◌, ◌<◌}
use native.Mathlib.Nat.{add_comm}
use native.Mathlib.Omega.{arith}
use native.Mathlib.Decide.{dec_lt}
use mathlib.Core.Bool.{Bool, true, false, not, ◌&&◌, ◌||◌}
use lib.Dec.{ltb, eqb}
use borrow.Author.Tests.{lt-ltb, ltb-true, eqb-true, eqb-false, eq-eqb, ne_eqb}
use Rattle.model.specs.Key.{clockwise, counter_clockwise}
use Rattle.model.specs.Sets.{Set, with, without, count, some}
use Rattle.model.specs.Leafset.{Table, size, key, nearer, is_near, leafset}
use Rattle.model.specs.WellFormed.{WellFormedTable}
use Rattle.model.proofs.Laws.{clash, and_left, and_right, and_in, or_left, or_right, or_case, not_in, not_out}
use Rattle.model.proofs.Laws.{decide, one, some_out, some_none, count_add, count_mono, count_none, count_more}
use Rattle.model.proofs.LeafsetSize.{clockwise_lt, clockwise_inj, round, small, same_key}
use Rattle.model.proofs.Routes.{Leads, leads_from, away}

-- ---- counts

pub count_some : (n : ℕ) (S : Set) → 0 < count n S → (i : ℕ) × (i < n) × (S i ≡ true)
count_some n S h =
    decide (some n S) (λ e. some_out n S e)
    (λ e. let z : count n S ≡ 0 = count_none n S (some_none n S e) in absurd (omega arith))

pub count_zero : (n : ℕ) (S : Set) → count n S ≡ 0 → (i : ℕ) → i < n → S i ≡ true → ⊥
count_zero n S z i h e =
    let m = count_more (λ u. false) S n (λ u l q. clash q refl) i h refl e in
    omega arith

either : (p q : Bool) → (p ≡ true → q ≡ true → ⊥) → one (p || q) ≡ one p + one q
unfolding one
either true true h = absurd (h refl refl)
either true false h = refl
either false true h = refl
either false false h = refl

-- ---- the two ways

-- d goes round the ring one way: its distances add up
pub record Way (d : ℕ → ℕ → ℕ) : Type 0 where
  pub adds : (a e b : ℕ) → a < 16777216 → e < 16777216 → b < 16777216 → Leads (d a e) (d e b) (d a b)
  pub short : (a b : ℕ) → d a b < 16777216
  pub none : (a : ℕ) → d a a ≡ 0
  pub apart : (a b : ℕ) → a < 16777216 → b < 16777216 → (a ≡ b → ⊥) → 0 < d a b
  pub differs : (a b c : ℕ) → a < 16777216 → b < 16777216 → c < 16777216 → d a b ≡ d a c → b ≡ c

pub ahead_way : Way clockwise
ahead_way =
    record {
      adds = λ a e b ha he hb. leads_from a b e ha hb he;
      short = clockwise_lt;
      none = λ a. omega arith;
      apart = away;
      differs = clockwise_inj;
    }

swapped : (a b c : ℕ) → Leads a b c → Leads b a c
swapped a b c (inl e) = inl (add_comm b a ∙ e)
swapped a b c (inr e) = inr (add_comm b a ∙ e)

counter_inj : (a b c : ℕ) → a < 16777216 → b < 16777216 → c < 16777216 → counter_clockwise a b ≡ counter_clockwise a c → b ≡ c
counter_inj a b c ha hb hc e = omega arith

pub behind_way : Way counter_clockwise
behind_way =
    record {
      adds = λ a e b ha he hb. swapped (clockwise b e) (clockwise e a) (clockwise b a) (leads_from b a e hb ha he);
      short = λ a b. clockwise_lt b a;
      none = λ a. omega arith;
      apart = λ a b ha hb n. away b a hb ha (λ e. n (sym e));
      differs = counter_inj;
    }

-- by way of a nearer one distances just add up
pub through : (c u d : ℕ) → u < 16777216 → c < d → Leads c u d → c + u ≡ d
through c u d hu l (inl e) = e
through c u d hu l (inr e) = absurd (omega arith)

-- and so they do where the sum is known to be less than the whole ring
pub within : (c u d k : ℕ) → c + u < k → k < 16777216 → Leads c u d → c + u ≡ d
within c u d k l h (inl e) = e
within c u d k l h (inr e) = absurd (omega arith)

-- and where the rest of the way is less than the whole
pub rest_of : (c u d : ℕ) → c < 16777216 → u < d → Leads c u d → c + u ≡ d
rest_of c u d hc l (inl e) = e
rest_of c u d hc l (inr e) = absurd (omega arith)

-- ---- leafsets, by how many are nearer

module _ (t : Table) (g : WellFormedTable t) where
  -- nearer on one way, farther on the other: whom either way has before y are no more than there are
  pub two_ways : (x y : ℕ) (S : Set) → x < size t → y < size t → (y ≡ x → ⊥) → ((z : ℕ) → S z ≡ true → z ≡ x → ⊥)
      → nearer t clockwise (key t x) S y + nearer t counter_clockwise (key t x) S y ≤ count (size t) S
  two_ways x y S hx hy d others =
      let whole : count (size t) (λ z. P z || Q z) ≡ count (size t) P + count (size t) Q =
      count_add (size t) P Q (λ z. P z || Q z) (λ z l. either (P z) (Q z) (disjoint z l)) in
      let part : count (size t) (λ z. P z || Q z) ≤ count (size t) S =
      count_mono (λ z. P z || Q z) S (size t) (λ z l e. or_case (P z) (Q z) e (λ p. and_left (S z) _ p) (λ q. and_left (S z) _ q)) in
      omega arith
    where
      P : Set
      P z = S z && ltb (clockwise (key t x) (key t z)) (clockwise (key t x) (key t y))

      Q : Set
      Q z = S z && ltb (clockwise (key t z) (key t x)) (clockwise (key t y) (key t x))

      opposite : (c u c' u' : ℕ) → c + u ≡ 16777216 → c' + u' ≡ 16777216 → c < c' → u < u' → ⊥
      opposite c u c' u' e f l m = omega arith

      disjoint : (z : ℕ) → z < size t → P z ≡ true → Q z ≡ true → ⊥
      disjoint z hz p q =
          opposite (clockwise (key t x) (key t z)) (clockwise (key t z) (key t x)) (clockwise (key t x) (key t y)) (clockwise (key t y) (key t x))
          (round (key t x) (key t z) (small t g x hx) (small t g z hz) (λ i. others z (and_left (S z) _ p) (same_key t g z x hz hx i)))
          (round (key t x) (key t y) (small t g x hx) (small t g y hy) (λ i. d (same_key t g y x hy hx i)))
          (ltb-true _ _ (and_right (S z) _ p))
          (ltb-true _ _ (and_right (S z) _ q))

  nearer_part : (d : ℕ → ℕ → ℕ) (a y : ℕ) (S T : Set) → ((z : ℕ) → T z ≡ true → S z ≡ true) → nearer t d a T y ≤ nearer t d a S y
  nearer_part d a y S T sub =
      count_mono (λ z. T z && ltb (d a (key t z)) (d a (key t y))) (λ z. S z && ltb (d a (key t z)) (d a (key t y))) (size t)
      (λ z l e. and_in (sub z (and_left (T z) _ e)) (and_right (T z) _ e))

  one_of : (p q c a b : ℕ) → p + q ≤ c → c < a + b → (p < a) ⊎ (q < b)
  one_of p q c a b h l = elim (dec_lt p a) [ yes k ↦ inl k | no k ↦ inr (omega arith) ]

  -- whoever is chosen has few before him on one way or on the other
  pub side_of : (x y : ℕ) (S T : Set) → x < size t → y < size t → ((z : ℕ) → T z ≡ true → without S x z ≡ true) → leafset t x S y ≡ true
      → (nearer t clockwise (key t x) T y < t.sides.ahead) ⊎ (nearer t counter_clockwise (key t x) T y < t.sides.behind)
  unfolding leafset
  side_of x y S T hx hy sub e =
      or_case (few || is_near t t.sides.ahead clockwise (key t x) (without S x) y) (is_near t t.sides.behind counter_clockwise (key t x) (without S x) y)
      (and_right (without S x y) _ e)
      (λ p. or_case few (is_near t t.sides.ahead clockwise (key t x) (without S x) y) p
      (λ q.
      let h = ltb-true (count (size t) (without S x)) _ q in
      let m = count_mono T (without S x) (size t) (λ z l k. sub z k) in
      let w = two_ways x y T hx hy (not_x y (and_left (without S x y) _ e)) (λ z k. not_x z (sub z k)) in
      one_of (nearer t clockwise (key t x) T y) (nearer t counter_clockwise (key t x) T y) (count (size t) T) t.sides.ahead t.sides.behind w
      (omega arith))
      (λ q. inl (below clockwise t.sides.ahead (ltb-true _ t.sides.ahead q))))
      (λ p. inr (below counter_clockwise t.sides.behind (ltb-true _ t.sides.behind p)))
    where
      few : Bool
      few = ltb (count (size t) (without S x)) (t.sides.ahead + t.sides.behind)

      not_x : (z : ℕ) → without S x z ≡ true → z ≡ x → ⊥
      not_x z k = eqb-false z x (not_out (eqb z x) (and_right (S z) (not (eqb z x)) k))

      below : (d : ℕ → ℕ → ℕ) (many : ℕ) → nearer t d (key t x) (without S x) y < many → nearer t d (key t x) T y < many
      below d many h = let l = nearer_part d (key t x) y (without S x) T sub in omega arith

  -- y itself does not count: beside a set it has before it whom it has before it in the set
  nearer_with : (d : ℕ → ℕ → ℕ) (x y : ℕ) (T : Set) → nearer t d (key t x) (without (with T y) x) y ≤ nearer t d (key t x) T y
  nearer_with d x y T =
      count_mono (λ z. without (with T y) x z && ltb (d (key t x) (key t z)) (d (key t x) (key t y)))
      (λ z. T z && ltb (d (key t x) (key t z)) (d (key t x) (key t y))) (size t)
      (λ z l e.
      let b = and_right (without (with T y) x z) _ e in
      or_case (T z) (eqb z y) (and_left (with T y z) _ (and_left (without (with T y) x z) _ e))
      (λ p. and_in p b)
      (λ p.
      let i = ltb-true (d (key t x) (key t z)) (d (key t x) (key t y)) b in
      let j : d (key t x) (key t z) ≡ d (key t x) (key t y) = ap (λ (u : ℕ). d (key t x) (key t u)) (eqb-true z y p) in
      absurd (omega arith)))

  -- with few before him on one way, he is chosen
  pub chosen_ahead : (x y : ℕ) (T : Set) → (y ≡ x → ⊥) → nearer t clockwise (key t x) T y < t.sides.ahead → leafset t x (with T y) y ≡ true
  unfolding leafset
  chosen_ahead x y T d h =
      let l = nearer_with clockwise x y T in
      and_in (and_in (or_right (T y) (eq-eqb y y refl)) (not_in (ne_eqb y x d)))
      (or_left (is_near t t.sides.behind counter_clockwise (key t x) (without (with T y) x) y)
      (or_right (ltb (count (size t) (without (with T y) x)) (t.sides.ahead + t.sides.behind))
      (lt-ltb (nearer t clockwise (key t x) (without (with T y) x) y) t.sides.ahead (omega arith))))

  pub chosen_behind : (x y : ℕ) (T : Set) → (y ≡ x → ⊥) → nearer t counter_clockwise (key t x) T y < t.sides.behind → leafset t x (with T y) y ≡ true
  unfolding leafset
  chosen_behind x y T d h =
      let l = nearer_with counter_clockwise x y T in
      and_in (and_in (or_right (T y) (eq-eqb y y refl)) (not_in (ne_eqb y x d)))
      (or_right (ltb (count (size t) (without (with T y) x)) (t.sides.ahead + t.sides.behind) || is_near t t.sides.ahead clockwise (key t x)
      (without (with T y) x) y)
      (lt-ltb (nearer t counter_clockwise (key t x) (without (with T y) x) y) t.sides.behind (omega arith)))
