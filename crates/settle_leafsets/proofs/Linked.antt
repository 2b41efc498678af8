-- In a quiescent ring what goes along leafsets goes along every link: whoever is held outside a leafset offers a nearer node of his own leafset.
-- By induction on how many are nearer. Source 000, Lemma 17.
use mathlib.Core.Path.{◌≡◌, refl, sym, ap, ◌∙◌}
use Prim.Native.Nat.{ℕ, zero, suc, ◌+◌, ◌≤◌, ◌<◌, min}
use native.Mathlib.Omega.{arith}
use native.Mathlib.Decide.{dec_lt, ℕ_discrete}
use mathlib.Core.Bool.{true, false, ◌&&◌}
use lib.Dec.{ltb}
use borrow.Author.Tests.{lt-ltb, ltb-true, le-ltb, ne_eqb}
use Rattle.model.specs.Key.{clockwise, counter_clockwise, distance}
use Rattle.model.specs.Sets.{Set, without, count, some}
use Rattle.model.specs.Leafset.{Table, size, key, nearer, closest}
use Rattle.model.specs.Ring.{Ring, holds, is_running}
use Rattle.model.specs.WellFormed.{WellFormed}
use Rattle.model.specs.Connection.{Connected, itself, onward}
use Rattle.model.proofs.Laws.{clash, and_left, and_right, and_in, or_case, not_in, decide, is_false, some_in, count_none, count_le, count_more}
use Rattle.model.proofs.Choices.{leafset_within}
use Rattle.model.proofs.LeafsetSize.{clockwise_lt, small, same_key}
use Rattle.model.proofs.Routes.{away, nearest_is}
use Rattle.settle_leafsets.specs.Covered.{HoldsRunning, lacks, Even}
use Rattle.settle_leafsets.specs.Quiescent.{Quiescent, chosen, offer_of, Meets, held, replaced}
use Rattle.settle_leafsets.proofs.Closest.{Offer, offer_of_lem}
use Rattle.settle_leafsets.proofs.Ways.{ahead_way, through, rest_of, count_some}
use Rattle.settle_leafsets.proofs.Woven.{Knows, Woven, woven, knows}

shorter_left : (c u d e : ℕ) → c < d → d ≤ e → min c u < min d e
shorter_left c u d e h l = omega arith

shorter_right : (c u d e : ℕ) → u < e → e ≤ d → min c u < min d e
shorter_right c u d e h l = omega arith

-- ---- in a quiescent ring

module _ (r : Ring) (g : WellFormed r) (even : Even r.table) (clean : HoldsRunning r) (q : Quiescent r) where
  abbrev t : Table
  t = r.table

  abbrev R : Set
  R = is_running r

  abbrev C : ℕ → Set
  C = chosen r

  v : Woven t R C
  v = woven r g clean even q.asks q.hears

  abbrev cw : ℕ → ℕ → ℕ
  cw x y = clockwise (key t x) (key t y)

  abbrev far : ℕ → ℕ → ℕ
  far x y = distance (key t x) (key t y)

  -- ---- offers

  -- whom z offers x, if there is any
  abbrev offers : ℕ → ℕ → Set
  offers x z y = without (C z) x y && ltb (far x y) (far x z)

  offer_some : (x z : ℕ) → some (size t) (offers x z) ≡ true → offer_of r z x ≡ 64 → ⊥
  unfolding closest
  offer_some x z e i =
      let n = (nearest_is t (key t x) (offers x z) e).below in
      let h = g.table_well.size_high in
      omega arith

  module _ (x z : ℕ) (on : R x ≡ true) (onz : R z ≡ true) (differ : z ≡ x → ⊥) (out : C x z ≡ false) (none : lacks r z x ≡ false) where
    sm : (y : ℕ) → R y ≡ true → key t y < 16777216
    sm y e = small t g.table_well y (v.low y e)

    not_mine : C z x ≡ false
    not_mine = is_false (C z x) (λ e. clash (v.back z x onz e) out)

    not_x : (u : ℕ) → C z u ≡ true → u ≡ x → ⊥
    not_x u e i = clash e (ap (C z) i ∙ not_mine)

    known : Knows t C z x
    known = knows r g clean z x onz on (λ i. differ (sym i)) none

    is_offered : (u : ℕ) → C z u ≡ true → far x u < far x z → some (size t) (offers x z) ≡ true
    is_offered u e l =
        some_in (size t) (offers x z) u (v.low u (v.run z u onz e))
        (and_in (and_in e (not_in (ne_eqb u x (not_x u e)))) (lt-ltb (far x u) (far x z) l))

    some_ahead : 0 < nearer t clockwise (key t z) (C z) x
    some_ahead =
        elim (dec_lt 0 (nearer t clockwise (key t z) (C z) x)) [
          | yes h ↦ h
          | no h ↦ (let o = g.table_well.sides_well.ahead_low in clash (known.ahead (omega arith)) not_mine)
        ]

    some_behind : 0 < nearer t counter_clockwise (key t z) (C z) x
    some_behind =
        elim (dec_lt 0 (nearer t counter_clockwise (key t z) (C z) x)) [
          | yes h ↦ h
          | no h ↦ (let o = g.table_well.sides_well.behind_low in clash (known.behind (omega arith)) not_mine)
        ]

    apart : (u w : ℕ) → R u ≡ true → R w ≡ true → (u ≡ w → ⊥) → 0 < cw u w
    apart u w hu hw n = away (key t u) (key t w) (sm u hu) (sm w hw) (λ i. n (same_key t g.table_well u w (v.low u hu) (v.low w hw) i))

    -- z has nodes on the shorter way to x
    offer_there : some (size t) (offers x z) ≡ true
    offer_there =
        elim (dec_lt (cw x z) (cw z x)) [
          | yes l ↦
              (let c = count_some (size t) (λ u. C z u && ltb (cw u z) (cw x z)) some_behind in
              let u : ℕ = c.0 in
              let e : C z u ≡ true = and_left (C z u) _ c.2 in
              let k : cw u z < cw x z = ltb-true (cw u z) (cw x z) (and_right (C z u) _ c.2) in
              let onu = v.run z u onz e in
              let o : 0 < cw u z = apart u z onu onz (v.other z u e) in
              let s : cw x u + cw u z ≡ cw x z =
              rest_of (cw x u) (cw u z) (cw x z) (clockwise_lt (key t x) (key t u)) k
              (ahead_way.adds (key t x) (key t u) (key t z) (sm x on) (sm u onu) (sm z onz)) in
              is_offered u e (shorter_left (cw x u) (cw u x) (cw x z) (cw z x) (omega arith) (omega arith)))
          | no l ↦
              (let c = count_some (size t) (λ u. C z u && ltb (cw z u) (cw z x)) some_ahead in
              let u : ℕ = c.0 in
              let e : C z u ≡ true = and_left (C z u) _ c.2 in
              let k : cw z u < cw z x = ltb-true (cw z u) (cw z x) (and_right (C z u) _ c.2) in
              let onu = v.run z u onz e in
              let o : 0 < cw z u = apart z u onz onu (λ i. v.other z u e (sym i)) in
              let s : cw z u + cw u x ≡ cw z x =
              through (cw z u) (cw u x) (cw z x) (clockwise_lt (key t u) (key t x)) k
              (ahead_way.adds (key t z) (key t u) (key t x) (sm z onz) (sm u onu) (sm x on)) in
              is_offered u e (shorter_right (cw x u) (cw u x) (cw x z) (cw z x) (omega arith) (omega arith)))
        ]

  -- ---- links

  -- how many are nearer to x than z is
  abbrev closer_than : ℕ → ℕ → ℕ
  closer_than x z = count (size t) (λ w. ltb (far x w) (far x z))

  fewer : (x y z : ℕ) → y < size t → far x y < far x z → closer_than x y < closer_than x z
  fewer x y z hy l =
      count_more (λ w. ltb (far x w) (far x y)) (λ w. ltb (far x w) (far x z)) (size t)
      (λ w h e. let k = ltb-true (far x w) (far x y) e in lt-ltb (far x w) (far x z) (omega arith))
      y hy (le-ltb (far x y) (far x y) (omega arith)) (lt-ltb (far x y) (far x z) l)

  not_all : (x z : ℕ) → z < size t → closer_than x z < size t
  not_all x z hz =
      let m = count_more (λ w. ltb (far x w) (far x z)) (λ w. true) (size t) (λ w h e. refl) z hz (le-ltb (far x z) (far x z) (omega arith)) refl in
      let l = count_le (size t) (λ w. true) in
      omega arith

  module _
      (P : ℕ → Type 0)
      (along : (x y : ℕ) → R x ≡ true → C x y ≡ true → (P x → P y) × (P y → P x))
    where
      abbrev Alike : ℕ → ℕ → Type 0
      Alike x y = (P x → P y) × (P y → P x)

      -- z is chosen at x, or offers one who is
      met_one : (k x z : ℕ) → R x ≡ true → R z ≡ true → (z ≡ x → ⊥) → Meets r x k z → k < size t
          → ((y : ℕ) → Meets r x (suc k) y → R y ≡ true → Offer t (holds r z) z x y → closer_than x y < closer_than x z → Alike x y) → Alike x z
      met_one k x z on onz differ m b go =
          decide (C x z)
          (λ e. along x z on e)
          (λ out.
          elim (ℕ_discrete (offer_of r z x) 64) [
            | yes i ↦ absurd (offer_some x z (offer_there x z on onz differ out (q.offers x k z on b m out i)) i)
            | no n ↦
                (let o : Offer t (holds r z) z x (offer_of r z x) = offer_of_lem t (holds r z) z x n in
                let ony = v.run z (offer_of r z x) onz o.mine in
                let a : Alike x (offer_of r z x) =
                go (offer_of r z x) (replaced m out refl n) ony o (fewer x (offer_of r z x) z (v.low (offer_of r z x) ony) o.nearer) in
                let c : Alike z (offer_of r z x) = along z (offer_of r z x) onz o.mine in
                ((λ p. c.1 (a.0 p)), (λ p. a.1 (c.0 p))))
          ])

      met : (fuel k x z : ℕ) → R x ≡ true → R z ≡ true → (z ≡ x → ⊥) → Meets r x k z → closer_than x z ≤ fuel → k + fuel < size t → Alike x z
      met zero k x z on onz differ m l b = met_one k x z on onz differ m (omega arith) (λ y m' ony o h. absurd (omega arith))
      met (suc fuel) k x z on onz differ m l b =
          met_one k x z on onz differ m (omega arith) (λ y m' ony o h. met fuel (suc k) x y on ony o.differs m' (omega arith) (omega arith))

      pub along_link : (x z : ℕ) → R x ≡ true → holds r x z ≡ true → Alike x z
      along_link x z on e =
          let onz = clean x on z e in
          met (closer_than x z) 0 x z on onz ((g.node_well x).own_well.held_other z e).differs (held e) (omega arith)
          (let n = not_all x z (v.low z onz) in omega arith)

      pub along_connected : (x y : ℕ) → Connected r x y → P x → P y
      along_connected x y (itself h) p = p
      along_connected x y (onward {b = z} l c) p =
          let runs : (R x && R z) ≡ true = and_left (R x && R z) _ l in
          along_connected z y c
          (or_case (holds r x z) (holds r z x) (and_right (R x && R z) _ l)
          (λ e. (along_link x z (and_left (R x) (R z) runs) e).0 p)
          (λ e. (along_link z x (and_right (R x) (R z) runs) e).1 p))

  -- ---- nobody who is linked holds nobody

  module _ (x : ℕ) (on : R x ≡ true) (empty : some (size t) (holds r x) ≡ false) where
    chooses_none : (y : ℕ) → R y ≡ true → C x y ≡ true → ⊥
    chooses_none y ony e = clash (some_in (size t) (holds r x) y (v.low y ony) (leafset_within t x (holds r x) y e)) empty

    not_held : (b : ℕ) → R b ≡ true → holds r b x ≡ true → ⊥
    not_held b onb e =
        let differ = ((g.node_well b).own_well.held_other x e).differs in
        let hx = v.low x on in
        let none : lacks r x b ≡ false =
        decide (C b x)
        (λ c. q.asks b x onb c)
        (λ out.
        elim (ℕ_discrete (offer_of r x b) 64) [
          | yes i ↦ q.offers b 0 x onb (omega arith) (held e) out i
          | no n ↦
              (let o : Offer t (holds r x) x b (offer_of r x b) = offer_of_lem t (holds r x) x b n in
              absurd (chooses_none (offer_of r x b) (v.run x (offer_of r x b) on o.mine) o.mine))
        ]) in
        let nobody : nearer t clockwise (key t x) (C x) b ≡ 0 =
        count_none (size t) (λ u. C x u && ltb (cw x u) (cw x b))
        (λ u h. is_false (C x u && ltb (cw x u) (cw x b)) (λ k. chooses_none u (v.run x u on (and_left (C x u) _ k)) (and_left (C x u) _ k))) in
        let l = g.table_well.sides_well.ahead_low in
        chooses_none b onb ((knows r g clean x b on onb (λ i. differ (sym i)) none).ahead (omega arith))

    alone : (w : ℕ) → Connected r x w → w ≡ x
    alone w (itself h) = refl
    alone w (onward {b = b} l c) =
        let runs : (R x && R b) ≡ true = and_left (R x && R b) _ l in
        let onb = and_right (R x) (R b) runs in
        or_case (holds r x b) (holds r b x) (and_right (R x && R b) _ l)
        (λ e. clash (some_in (size t) (holds r x) b (v.low b onb) e) empty)
        (λ e. absurd (not_held b onb e))

  pub holds_some : (x w : ℕ) → R x ≡ true → Connected r x w → (w ≡ x → ⊥) → some (size t) (holds r x) ≡ true
  holds_some x w on c d = decide (some (size t) (holds r x)) (λ e. e) (λ e. absurd (d (alone x on e w c)))
