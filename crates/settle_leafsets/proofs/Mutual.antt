-- Where A = B, leafsets of one set are mutual: y is in x's exactly if x is in y's, since the nodes between them are the same, counted from either.
use mathlib.Core.Path.{◌≡◌, refl, sym, ◌∙◌}
use mathlib.Core.Logic.{inl, inr}
use Prim.Native.Nat.{ℕ, ◌+◌, ◌≤◌, ◌<◌}
use native.Mathlib.Omega.{arith}
use native.Mathlib.Decide.{ℕ_discrete}
use mathlib.Core.Bool.{Bool, true, false, not, ◌&&◌, ◌||◌}
use lib.Dec.{ltb, eqb}
use borrow.Author.Tests.{lt-ltb, le-ltb, eqb-true, eq-eqb, ne_eqb}
use Rattle.model.specs.Key.{clockwise, counter_clockwise}
use Rattle.model.specs.Sets.{Set, without, count}
use Rattle.model.specs.Leafset.{Table, size, key, nearer, leafset}
use Rattle.model.specs.WellFormed.{WellFormedTable}
use Rattle.model.proofs.Laws.{clash, and_right, and_in, not_in, one, count_add, count_cong, count_one, count_more}
use Rattle.model.proofs.LeafsetSize.{clockwise_lt, small, same_key}
use Rattle.model.proofs.Routes.{Leads, leads_from, away}
use Rattle.settle_leafsets.specs.Covered.{Even}

-- going on by u from 0 leads to c, and by v from there to d: the way to c is shorter than that to d exactly if the rest of it is
arc : (c v d : ℕ) → c < 16777216 → v < 16777216 → 0 < c → 0 < v → Leads c v d → ltb c d ≡ ltb v d
arc c v d hc hv oc ov (inl e) = lt-ltb c d (omega arith) ∙ sym (lt-ltb v d (omega arith))
arc c v d hc hv oc ov (inr e) = le-ltb c d (omega arith) ∙ sym (le-ltb v d (omega arith))

self_not : (k : ℕ) → ltb k k ≡ false
self_not k = le-ltb k k (omega arith)

module _ (t : Table) (g : WellFormedTable t) (S : Set) where
  abbrev n : ℕ
  n = size t

  -- the nodes of S between x and y, clockwise, are the same as those between y and x the other way
  between : (x y : ℕ) → x < n → y < n → ¬ (x ≡ y) → S x ≡ true → S y ≡ true
      → nearer t clockwise (key t x) (without S x) y ≡ nearer t counter_clockwise (key t y) (without S y) x
  between x y hx hy d sx sy =
      count_cong n (λ w. without S x w && ltb (clockwise (key t x) (key t w)) (clockwise (key t x) (key t y)))
      (λ w. without S y w && ltb (clockwise (key t w) (key t y)) (clockwise (key t x) (key t y))) same
    where
      apart : (u v : ℕ) → u < n → v < n → ¬ (u ≡ v) → 0 < clockwise (key t u) (key t v)
      apart u v hu hv q = away (key t u) (key t v) (small t g u hu) (small t g v hv) (λ i. q (same_key t g u v hu hv i))

      same : (w : ℕ) → w < n
          → (without S x w && ltb (clockwise (key t x) (key t w)) (clockwise (key t x) (key t y)))
          ≡ (without S y w && ltb (clockwise (key t w) (key t y)) (clockwise (key t x) (key t y)))
      same w hw =
          elim (ℕ_discrete w x) [
            | yes e ↦ rw (e, eq-eqb x x refl, self_not (clockwise (key t x) (key t y)), ne_eqb x y d, sx)
            | no nx ↦ elim (ℕ_discrete w y) [
              | yes e ↦ rw (e, eq-eqb y y refl, self_not (clockwise (key t x) (key t y)), ne_eqb y x (λ i. d (sym i)), sy)
              | no ny ↦
                  rw (
                    ne_eqb w x nx,
                    ne_eqb w y ny,
                    arc (clockwise (key t x) (key t w)) (clockwise (key t w) (key t y)) (clockwise (key t x) (key t y))
                        (clockwise_lt (key t x) (key t w)) (clockwise_lt (key t w) (key t y)) (apart x w hx hw (λ i. nx (sym i))) (apart w y hw hy ny)
                        (leads_from (key t x) (key t y) (key t w) (small t g x hx) (small t g y hy) (small t g w hw)),
                  )
            ]
          ]

  -- without one member there is one less
  parts : (b k : Bool) → one b ≡ one (b && not k) + one (b && k)
  unfolding one
  parts true true = refl
  parts true false = refl
  parts false k = refl

  one_less : (x : ℕ) → x < n → S x ≡ true → count n S ≡ count n (without S x) + 1
  one_less x hx sx =
      let whole : count n S ≡ count n (without S x) + count n (λ z. S z && eqb z x) =
      count_add n (without S x) (λ z. S z && eqb z x) S (λ z l. parts (S z) (eqb z x)) in
      let most : count n (λ z. S z && eqb z x) ≤ 1 =
      count_one n (λ z. S z && eqb z x) (λ u v hu hv eu ev. eqb-true u x (and_right (S u) _ eu) ∙ sym (eqb-true v x (and_right (S v) _ ev))) in
      let least = count_more (λ z. false) (λ z. S z && eqb z x) n (λ i l q. clash q refl) x hx refl (and_in sx (eq-eqb x x refl)) in
      omega arith

  as_many : (x y : ℕ) → x < n → y < n → S x ≡ true → S y ≡ true → count n (without S x) ≡ count n (without S y)
  as_many x y hx hy sx sy = let p = one_less x hx sx in let q = one_less y hy sy in omega arith

  swap : (f p q : Bool) → (f || p || q) ≡ (f || q || p)
  swap true p q = refl
  swap false true true = refl
  swap false true false = refl
  swap false false true = refl
  swap false false false = refl

  pub leafset_mutual : Even t → (x y : ℕ) → x < n → y < n → S x ≡ true → S y ≡ true → leafset t x S y ≡ leafset t y S x
  unfolding leafset
  leafset_mutual even x y hx hy sx sy =
      elim (ℕ_discrete x y) [
        | yes e ↦ rw e
        | no d ↦
            (let ahead : nearer t clockwise (key t x) (without S x) y ≡ nearer t counter_clockwise (key t y) (without S y) x = between x y hx hy d sx sy in
            let behind : nearer t counter_clockwise (key t x) (without S x) y ≡ nearer t clockwise (key t y) (without S y) x =
            sym (between y x hy hx (λ i. d (sym i)) sy sx) in
            let few : count n (without S x) ≡ count n (without S y) = as_many x y hx hy sx sy in
            join ahead behind few (and_in sy (not_in (ne_eqb y x (λ i. d (sym i))))) (and_in sx (not_in (ne_eqb x y d))))
      ]
    where
      join :
          nearer t clockwise (key t x) (without S x) y ≡ nearer t counter_clockwise (key t y) (without S y) x
          → nearer t counter_clockwise (key t x) (without S x) y ≡ nearer t clockwise (key t y) (without S y) x
          → count n (without S x) ≡ count n (without S y)
          → without S x y ≡ true → without S y x ≡ true
          → leafset t x S y ≡ leafset t y S x
      join ahead behind few lx ly =
          rw (lx, ly, ahead, behind, few, even)
          (swap (ltb (count n (without S y)) (t.sides.behind + t.sides.behind))
          (ltb (nearer t counter_clockwise (key t y) (without S y) x) t.sides.behind)
          (ltb (nearer t clockwise (key t y) (without S y) x) t.sides.behind))
