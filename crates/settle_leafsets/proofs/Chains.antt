-- In leafsets that fit together (Woven) a property that goes along successors goes along leafsets, by induction on the clockwise distance.
-- The first node ahead is one of a kind: nobody is the successor of two, and the first behind w has w as its successor.
use mathlib.Core.Path.{◌≡◌, sym, ap, ◌∙◌, subst}
use mathlib.Core.Logic.{inl, inr}
use Prim.Native.Nat.{ℕ, zero, suc, ◌+◌, ◌≤◌, ◌<◌}
use native.Mathlib.Omega.{arith}
use native.Mathlib.Decide.{dec_lt, ℕ_discrete}
use mathlib.Core.Bool.{true, ◌&&◌}
use lib.Dec.{ltb}
use borrow.Author.Tests.{lt-ltb, ltb-true}
use Rattle.model.specs.Key.{clockwise, counter_clockwise}
use Rattle.model.specs.Sets.{Set, some}
use Rattle.model.specs.Leafset.{Table, size, key, nearer}
use Rattle.model.proofs.Laws.{and_left, and_right, and_in, is_false, count_mono, count_none}
use Rattle.model.proofs.Choices.{Least, least}
use Rattle.model.proofs.LeafsetSize.{small, same_key}
use Rattle.settle_leafsets.proofs.Ways.{Way, ahead_way, behind_way, through, within, rest_of}
use Rattle.settle_leafsets.proofs.Woven.{Woven}

module _ (t : Table) (R : Set) (C : ℕ → Set) (v : Woven t R C) where
  sm : (x : ℕ) → R x ≡ true → key t x < 16777216
  sm x on = small t v.well x (v.low x on)

  same : (x y : ℕ) → R x ≡ true → R y ≡ true → key t x ≡ key t y → x ≡ y
  same x y on ony e = same_key t v.well x y (v.low x on) (v.low y ony) e

  -- ---- on one way

  module _ (d : ℕ → ℕ → ℕ) (way : Way d) where
    abbrev to : ℕ → ℕ → ℕ
    to x y = d (key t x) (key t y)

    abbrev near : ℕ → ℕ → ℕ
    near x y = nearer t d (key t x) (C x) y

    -- s is the first of those chosen at x
    pub record First (x s : ℕ) : Type 0 where
      pub mine : C x s ≡ true
      pub nearest : (z : ℕ) → C x z ≡ true → to x s ≤ to x z

    pub away : (x y : ℕ) → R x ≡ true → R y ≡ true → (y ≡ x → ⊥) → 0 < to x y
    away x y on ony n = way.apart (key t x) (key t y) (sm x on) (sm y ony) (λ e. n (sym (same x y on ony e)))

    pub first_of : (x : ℕ) → R x ≡ true → some (size t) (C x) ≡ true → (s : ℕ) × First x s
    first_of x on e =
        let l : Least (size t) (C x) (to x) = least (size t) (C x) (to x) e in (
          l.best,
          record {
            mine = l.member.within;
            nearest = λ z k. l.no_less z (record { below = v.low z (v.run x z on k); within = k });
          },
        )

    -- differing ends are at differing distances
    pub strictly : (x s w : ℕ) → R x ≡ true → R s ≡ true → R w ≡ true → (w ≡ s → ⊥) → to x s ≤ to x w → to x s < to x w
    strictly x s w on ons onw n l =
        let differ : to x s ≡ to x w → ⊥ = λ e. n (sym (same s w ons onw (way.differs (key t x) (key t s) (key t w) (sm x on) (sm s ons) (sm w onw) e))) in
        omega arith

    pub one_first : (x s w : ℕ) → R x ≡ true → First x s → First x w → s ≡ w
    one_first x s w on f h =
        let a = f.nearest w h.mine in
        let b = h.nearest s f.mine in
        let ons = v.run x s on f.mine in
        let onw = v.run x w on h.mine in
        same s w ons onw (way.differs (key t x) (key t s) (key t w) (sm x on) (sm s ons) (sm w onw) (omega arith))

    near_mono : (x z w : ℕ) → to x z ≤ to x w → near x z ≤ near x w
    near_mono x z w l =
        count_mono (λ u. C x u && ltb (to x u) (to x z)) (λ u. C x u && ltb (to x u) (to x w)) (size t)
        (λ u h e.
        let k = ltb-true (to x u) (to x z) (and_right (C x u) _ e) in
        and_in (and_left (C x u) _ e) (lt-ltb (to x u) (to x w) (omega arith)))

    -- who is nearer than the first has nobody before him
    pub before_first : (x s w : ℕ) → First x s → to x w ≤ to x s → near x w ≡ 0
    before_first x s w f l =
        count_none (size t) (λ u. C x u && ltb (to x u) (to x w))
        (λ u h. is_false (C x u && ltb (to x u) (to x w))
        (λ e.
        let k = ltb-true (to x u) (to x w) (and_right (C x u) _ e) in
        let m = f.nearest u (and_left (C x u) _ e) in
        omega arith))

    -- by way of s: w lies beyond s, seen from x
    module _ (x s w : ℕ) (on : R x ≡ true) (mine : C x s ≡ true) (onw : R w ≡ true) (l : to x s < to x w) where
      ons : R s ≡ true
      ons = v.run x s on mine

      pub sum : to x s + to s w ≡ to x w
      sum = through (to x s) (to s w) (to x w) (way.short (key t s) (key t w)) l (way.adds (key t x) (key t s) (key t w) (sm x on) (sm s ons) (sm w onw))

      pub less : to s w < to x w
      less = let o = away x s on ons (v.other x s mine) in let e = sum in omega arith

      -- as few lie between s and w at s as between x and w at x
      pub step : (many : ℕ) → ((z : ℕ) → C s z ≡ true → (z ≡ x → ⊥) → near x z < many → C x z ≡ true) → near x w < many → near s w < many
      step many knows h =
          let m : near s w ≤ near x w =
          count_mono (λ z. C s z && ltb (to s z) (to s w)) (λ z. C x z && ltb (to x z) (to x w)) (size t)
          (λ z hz e. inside z (and_left (C s z) _ e) (ltb-true (to s z) (to s w) (and_right (C s z) _ e))) in
          omega arith
        where
          inside : (z : ℕ) → C s z ≡ true → to s z < to s w → (C x z && ltb (to x z) (to x w)) ≡ true
          inside z e k =
              let onz = v.run s z ons e in
              let whole = sum in
              let part : to x s + to s z ≡ to x z =
              within (to x s) (to s z) (to x z) (to x w) (omega arith) (way.short (key t x) (key t w))
              (way.adds (key t x) (key t s) (key t z) (sm x on) (sm s ons) (sm z onz)) in
              let o = away x s on ons (v.other x s mine) in
              let closer : to x z < to x w = omega arith in
              let few = near_mono x z w (omega arith) in
              and_in
              (knows z e (λ i. let n : to x z ≡ 0 = ap (to x) i ∙ way.none (key t x) in omega arith) (omega arith))
              (lt-ltb (to x z) (to x w) closer)

    -- nobody whom x knows lies before the first
    pub nothing_between : (many : ℕ) → 1 ≤ many → (x s w : ℕ) → First x s → (near x w < many → C x w ≡ true) → to x w < to x s → ⊥
    nothing_between many o x s w f knows l =
        let none = before_first x s w f (omega arith) in
        let h = f.nearest w (knows (omega arith)) in
        omega arith

  -- ---- both ways

  abbrev cw : ℕ → ℕ → ℕ
  cw x y = clockwise (key t x) (key t y)

  -- whom x has behind it has x before it
  turn : (x y : ℕ) → R x ≡ true → C x y ≡ true → nearer t counter_clockwise (key t x) (C x) y < t.sides.behind
      → nearer t clockwise (key t y) (C y) x < t.sides.ahead
  turn x y on e h =
      let m : nearer t clockwise (key t y) (C y) x ≤ nearer t counter_clockwise (key t x) (C x) y =
      count_mono (λ z. C y z && ltb (cw y z) (cw y x)) (λ z. C x z && ltb (cw z x) (cw y x)) (size t)
      (λ z hz k. inside z (and_left (C y z) _ k) (ltb-true (cw y z) (cw y x) (and_right (C y z) _ k))) in
      let i = v.even in
      omega arith
    where
      ony : R y ≡ true
      ony = v.run x y on e

      inside : (z : ℕ) → C y z ≡ true → cw y z < cw y x → (C x z && ltb (cw z x) (cw y x)) ≡ true
      inside z k l =
          let onz = v.run y z ony k in
          let s : cw y z + cw z x ≡ cw y x =
          through (cw y z) (cw z x) (cw y x) (ahead_way.short (key t z) (key t x)) l
          (ahead_way.adds (key t y) (key t z) (key t x) (sm y ony) (sm z onz) (sm x on)) in
          let o = away clockwise ahead_way y z ony onz (v.other y z k) in
          let few = near_mono counter_clockwise behind_way x z y (omega arith) in
          and_in
          ((v.hears x y z on e k (λ i. let n : cw y z ≡ cw y x = ap (cw y) i in omega arith)).behind (omega arith))
          (lt-ltb (cw z x) (cw y x) (omega arith))

  -- the first behind w has w as its first ahead
  pub turned_first : (w u : ℕ) → R w ≡ true → First counter_clockwise behind_way w u → First clockwise ahead_way u w
  turned_first w u on f =
      record {
        mine = back;
        nearest = λ z e. elim (dec_lt (cw u z) (cw u w)) [ yes l ↦ absurd (between z e l) | no l ↦ omega arith ];
      }
    where
      onu : R u ≡ true
      onu = v.run w u on f.mine

      back : C u w ≡ true
      back = v.back w u on f.mine

      between : (z : ℕ) → C u z ≡ true → cw u z < cw u w → ⊥
      between z e l =
          let onz = v.run u z onu e in
          let s : cw u z + cw z w ≡ cw u w =
          through (cw u z) (cw z w) (cw u w) (ahead_way.short (key t z) (key t w)) l
          (ahead_way.adds (key t u) (key t z) (key t w) (sm u onu) (sm z onz) (sm w on)) in
          let o = away clockwise ahead_way u z onu onz (v.other u z e) in
          nothing_between counter_clockwise behind_way t.sides.behind v.well.sides_well.behind_low w u z f
          (v.hears w u z on f.mine e (λ i. let n : cw u z ≡ cw u w = ap (cw u) i in omega arith)).behind
          (omega arith)

  -- ---- along successors

  module _ (next : ℕ → ℕ) (first : (x : ℕ) → R x ≡ true → First clockwise ahead_way x (next x)) where
    next_runs : (x : ℕ) → R x ≡ true → R (next x) ≡ true
    next_runs x on = v.run x (next x) on (first x on).mine

    -- nobody is the next of two
    apart : (x w : ℕ) → R x ≡ true → R w ≡ true → next x ≡ next w → cw w (next x) < cw x (next x) → ⊥
    apart x w on onw e l =
        let s : ℕ = next x in
        let ons = next_runs x on in
        let mine : C s w ≡ true = ap (λ (u : ℕ). C u w) e ∙ v.back w (next w) onw (first w onw).mine in
        let o : 0 < cw w s = away clockwise ahead_way w s onw ons (v.other w s (ap (C w) e ∙ (first w onw).mine)) in
        let sum : cw x w + cw w s ≡ cw x s =
        rest_of (cw x w) (cw w s) (cw x s) (ahead_way.short (key t x) (key t w)) l
        (ahead_way.adds (key t x) (key t w) (key t s) (sm x on) (sm w onw) (sm s ons)) in
        nothing_between clockwise ahead_way t.sides.ahead v.well.sides_well.ahead_low x s w (first x on)
        (v.hears x s w on (first x on).mine mine (λ i. let n : cw w s ≡ cw x s = ap (λ (u : ℕ). cw u s) i in omega arith)).ahead
        (omega arith)

    pub next_one : (x w : ℕ) → R x ≡ true → R w ≡ true → next x ≡ next w → x ≡ w
    next_one x w on onw e =
        elim (dec_lt (cw w (next x)) (cw x (next x))) [
          | yes l ↦ absurd (apart x w on onw e l)
          | no l ↦ elim (dec_lt (cw x (next x)) (cw w (next x))) [
            | yes k ↦ absurd (apart w x onw on (sym e) (rw (← e) k))
            | no k ↦
                same x w on onw (behind_way.differs (key t (next x)) (key t x) (key t w) (sm (next x) (next_runs x on)) (sm x on) (sm w onw) (omega arith))
          ]
        ]

    -- a property that goes along successors both ways goes along leafsets
    module _
        (P : ℕ → Type 0)
        (fore : (x : ℕ) → R x ≡ true → P x → P (next x))
        (aft : (x : ℕ) → R x ≡ true → P (next x) → P x)
      where
        abbrev Alike : ℕ → ℕ → Type 0
        Alike x y = (P x → P y) × (P y → P x)

        follow : (fuel x y : ℕ) → R x ≡ true → C x y ≡ true → nearer t clockwise (key t x) (C x) y < t.sides.ahead → cw x y ≤ fuel → Alike x y
        follow zero x y on e h l = let o = away clockwise ahead_way x y on (v.run x y on e) (v.other x y e) in absurd (omega arith)
        follow (suc fuel) x y on e h l =
            let s : ℕ = next x in
            let ons = next_runs x on in
            let ony = v.run x y on e in
            elim (ℕ_discrete y s) [
              | yes i ↦ ((λ p. subst P (sym i) (fore x on p)), (λ p. aft x on (subst P i p)))
              | no n ↦
                  (let k : cw x s < cw x y = strictly clockwise ahead_way x s y on ons ony n ((first x on).nearest y e) in
                  let few : nearer t clockwise (key t s) (C s) y < t.sides.ahead =
                  step clockwise ahead_way x s y on (first x on).mine ony k t.sides.ahead (λ z c m. (v.hears x s z on (first x on).mine c m).ahead) h in
                  let mine : C s y ≡ true = (v.hears s x y ons (v.back x s on (first x on).mine) e n).ahead few in
                  let shorter = less clockwise ahead_way x s y on (first x on).mine ony k in
                  let q = follow fuel s y ons mine few (omega arith) in
                  ((λ p. q.0 (fore x on p)), (λ p. aft x on (q.1 p))))
            ]

        pub along_leafset : (x y : ℕ) → R x ≡ true → C x y ≡ true → Alike x y
        along_leafset x y on e =
            elim (v.side x y on e) [
              | inl h ↦ follow (cw x y) x y on e h (omega arith)
              | inr h ↦
                  (let q = follow (cw y x) y x (v.run x y on e) (v.back x y on e) (turn x y on e h) (omega arith) in
                  (q.1, q.0))
            ]
