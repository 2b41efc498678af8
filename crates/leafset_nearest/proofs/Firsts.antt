-- The first of a set by a measure: the lowest of those that none of the set comes before; the nearest to a key.
use Rattle.std.proofs.Common.{◌≡◌, ℕ, ◌<◌, ◌≤◌, true, false, not, ◌&&◌, eqb, ltb, sym, refl, ap, ◌∙◌, arith, ltb-true, lt-ltb, eq-eqb, eqb-true}
use mathlib.Core.Path.{fun_ext}
use Rattle.model.specs.Sets.{Set, count, some, lowest}
use Rattle.model.specs.Leafset.{Table, size, first_met, nearest}
use Rattle.model.proofs.Laws.{clash, is_false, and_in, and_left, and_right, not_in, not_out, some_in, some_out, count_none, count_more}
use Rattle.sets.proofs.Ascending.{lowest_is, lowest_none}
use Rattle.leafset_nearest.specs.Span.{span_of, span_to, Found, nobody, found}
use Rattle.leafset_nearest.specs.declared.Way.{Way}
use Rattle.leafset_nearest.specs.declared.Way.TheVariants.{Either}
use Rattle.leafset_nearest.proofs.Spans.{beats_rank}

module _ (n : ℕ) (S : Set) (low : (y : ℕ) → S y ≡ true → y < n) (m : ℕ → ℕ) where
  -- the lowest of those that none of S comes before is the first of S
  lowest_found : (Q : Set) → ((y : ℕ) → Q y ≡ true → S y ≡ true)
      → ((y : ℕ) → S y ≡ true → ((z : ℕ) → S z ≡ true → m y ≤ m z) → Q y ≡ true)
      → ((y z : ℕ) → S z ≡ true → m z < m y → Q y ≡ true → ⊥)
      → {b : ℕ} → Found S m b → b ≡ lowest n Q
  lowest_found Q into fits beaten (nobody f) = sym (lowest_none n Q (λ y h. is_false (Q y) (λ q. clash (into y q) (f y))))
  lowest_found Q into fits beaten (found {b} l) =
      sym (lowest_is n Q b (record {
        below = low b l.member;
        member = fits b l.member l.least;
        before = λ y h. is_false (Q y) (λ q. beaten y b l.member (l.lowest y (into y q) h) q);
      }))

  abbrev before : ℕ → Set
  before y z = S z && ltb (m z) (m y)

  before_less : (y z : ℕ) → before y z ≡ true → (S z ≡ true) × (m z < m y)
  before_less y z q = (and_left (S z) (ltb (m z) (m y)) q, ltb-true (m z) (m y) (and_right (S z) (ltb (m z) (m y)) q))

  before_none : (y : ℕ) → ((z : ℕ) → S z ≡ true → m y ≤ m z) → (z : ℕ) → before y z ≡ false
  before_none y f z = is_false (before y z) (λ q. let p = before_less y z q in omega (arith, f z p.0, p.1))

  before_in : (y z : ℕ) → S z ≡ true → m z < m y → before y z ≡ true
  before_in y z e h = and_in e (lt-ltb (m z) (m y) h)

  -- none comes before: none is counted
  found_count : {b : ℕ} → Found S m b → b ≡ lowest n (λ y. S y && eqb (count n (before y)) 0)
  found_count =
      lowest_found (λ y. S y && eqb (count n (before y)) 0) (λ y q. and_left (S y) (eqb (count n (before y)) 0) q)
      (λ y e f. and_in e (eq-eqb (count n (before y)) 0 (count_none n (before y) (λ z h. before_none y f z))))
      (λ y z e h q. omega (arith, some_counted y z e h, eqb-true (count n (before y)) 0 (and_right (S y) (eqb (count n (before y)) 0) q)))
    where
      some_counted : (y z : ℕ) → S z ≡ true → m z < m y → 0 < count n (before y)
      some_counted y z e h = omega (arith, count_more (λ i. false) (before y) n (λ i l r. clash r refl) z (low z e) refl (before_in y z e h))

  -- none comes before: there is none that does
  found_none : {b : ℕ} → Found S m b → b ≡ lowest n (λ y. S y && not (some n (before y)))
  found_none =
      lowest_found (λ y. S y && not (some n (before y))) (λ y q. and_left (S y) (not (some n (before y))) q)
      (λ y e f. and_in e (not_in (is_false (some n (before y)) (λ s. let p = some_out n (before y) s in clash p.2 (before_none y f p.0)))))
      (λ y z e h q. clash (some_in n (before y) z (low z e) (before_in y z e h)) (not_out (some n (before y)) (and_right (S y) (not (some n (before y))) q)))

-- by one way round: the model's first met
pub met_found : (t : Table) (way : Way) (a : ℕ) (S : Set) → ((y : ℕ) → S y ≡ true → y < size t) → {b : ℕ}
    → Found S (span_to way a t.keys) b → b ≡ first_met t (span_of way) a S
met_found t way a S low f = found_count (size t) S low (span_to way a t.keys) f

-- by distance, of two equally near the clockwise one: the model's nearest
pub nearest_found : (t : Table) (a : ℕ) (S : Set) → ((y : ℕ) → S y ≡ true → y < size t) → {b : ℕ}
    → Found S (span_to Either a t.keys) b → b ≡ nearest t a S
unfolding nearest
nearest_found t a S low f =
    found_none (size t) S low (span_to Either a t.keys) f
    ∙ ap (lowest (size t)) (fun_ext (λ y. ap (λ (P : Set). S y && not (some (size t) P)) (fun_ext (λ z. ap (◌&&◌ (S z)) (sym (beats_rank t a z y))))))
