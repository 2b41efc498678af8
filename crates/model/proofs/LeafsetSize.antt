-- "the A nearest clockwise and the B nearest the other way": the leafset in a set that has at least
-- A + B nodes without x.
use mathlib.Core.Path.{◌≡◌, refl, sym, ap, ◌∙◌}
use Prim.Native.Nat.{ℕ, zero, suc, ◌+◌, ◌≤◌, ◌<◌, min, zero-le}
use native.Mathlib.Nat.{le_of_lt, le_of_eq, add_comm}
use native.Mathlib.Omega.{arith}
use native.Mathlib.Decide.{dec_lt}
use mathlib.Core.Bool.{Bool, true, false, not, ◌&&◌, ◌||◌, and-true, and-false}
use lib.Dec.{eqb, ltb}
use lib.Arith.{lt_of_le-ne}
use borrow.Author.Tests.{ne_eqb, eqb-true, eqb-false, lt-ltb, le-ltb, ltb-true, ltb-false}
use Rattle.model.specs.Key.{clockwise, counter_clockwise}
use Rattle.model.specs.Sets.{Set, without, all, count}
use Rattle.model.specs.Leafset.{Table, size, key, nearer, is_near, leafset}
use Rattle.model.specs.WellFormed.{WellFormedTable}
use Rattle.model.specs.Words.{keys_differ}
use Rattle.model.proofs.Laws.{and_left, and_right, and_in, or_case, not_out, decide, one, all_out}
use Rattle.model.proofs.Laws.{count_add, count_cong, count_none, count_one, count_mono}

-- ---- tests

guard : (g k : Bool) → (g ≡ true → k ≡ true) → (g && k) ≡ g
guard true k h = h refl
guard false k h = refl

guard_not : (g k : Bool) → (g ≡ true → k ≡ false) → (g && k) ≡ false
guard_not true k h = h refl
guard_not false k h = refl

-- below suc v: below v, or v itself
cut : (b : Bool) (x v : ℕ) → one (b && ltb x (suc v)) ≡ one (b && ltb x v) + one (b && eqb x v)
unfolding one
cut false x v = refl
cut true x v =
    decide (ltb x v)
    (λ l. let h = ltb-true x v l in rw (l, lt-ltb x (suc v) (omega arith), ne_eqb x v (λ e. omega arith)))
    (λ l.
    let h = ltb-false x v l in
    decide (eqb x v)
    (λ e. let i = eqb-true x v e in rw (l, e, lt-ltb x (suc v) (omega arith)))
    (λ e. let i = eqb-false x v e in rw (l, e, le-ltb x (suc v) (omega arith))))

cut_and : (b k : Bool) (x v : ℕ) → one ((b && ltb x (suc v)) && k) ≡ one ((b && ltb x v) && k) + one ((b && eqb x v) && k)
unfolding one
cut_and b true x v = simp and-true (cut b x v)
cut_and b false x v = simp and-false

split : (b k : Bool) → one b ≡ one (b && k) + one (b && not k)
unfolding one
split true true = refl
split true false = refl
split false k = refl

either : (p q : Bool) → (p ≡ true → q ≡ true → ⊥) → one (p || q) ≡ one p + one q
unfolding one
either true true h = absurd (h refl refl)
either true false h = refl
either false true h = refl
either false false h = refl

distribute : (b p q : Bool) → (b && (p || q)) ≡ ((b && p) || (b && q))
distribute true p q = refl
distribute false p q = refl

-- ---- the L least by d of the members of S below n: there are L of them, or all

module _ (S : Set) (d : ℕ → ℕ) (n : ℕ) (inj : (y z : ℕ) → y < n → z < n → S y ≡ true → S z ≡ true → d y ≡ d z → y ≡ z) (L : ℕ) where
  -- how many have a d below v
  abbrev Below : ℕ → ℕ
  Below v = count n (λ z. S z && ltb (d z) v)

  -- one of the L least, with a d below v
  abbrev chosen : ℕ → Set
  chosen v y = (S y && ltb (d y) v) && ltb (Below (d y)) L

  ranked : (v : ℕ) → count n (chosen v) ≡ min L (Below v)
  ranked zero =
      let none : Below 0 ≡ 0 = count_none n (λ z. S z && ltb (d z) 0) (λ z l. nobody z) in
      let less : count n (chosen 0) ≡ 0 = count_none n (chosen 0) (λ z l. ap (λ (b : Bool). b && ltb (Below (d z)) L) (nobody z)) in
      omega arith
    where
      nobody : (z : ℕ) → (S z && ltb (d z) 0) ≡ false
      nobody z = rw (le-ltb (d z) 0 zero-le) (and-false (S z))
  ranked (suc v) =
      decide (ltb (Below v) L)
      (λ e.
      let h : Below v < L = ltb-true (Below v) L e in
      let whole : count n new ≡ count n here =
      count_cong n new here (λ y l. guard (here y) (ltb (Below (d y)) L) (λ q. ap (λ (x : ℕ). ltb x L) (same y q) ∙ e)) in
      omega (arith, at_most, grows, few, ranked v))
      (λ e.
      let h : L ≤ Below v = ltb-false (Below v) L e in
      let none : count n new ≡ 0 = count_none n new (λ y l. guard_not (here y) (ltb (Below (d y)) L) (λ q. ap (λ (x : ℕ). ltb x L) (same y q) ∙ e)) in
      omega (arith, grows, few, ranked v))
    where
      -- those at v, and those of them that are chosen
      here : Set
      here y = S y && eqb (d y) v

      new : Set
      new y = here y && ltb (Below (d y)) L

      at_most : count n here ≤ 1
      at_most =
          count_one n here
          (λ y z hy hz ey ez.
          inj y z hy hz (and_left (S y) _ ey) (and_left (S z) _ ez)
          (eqb-true (d y) v (and_right (S y) _ ey) ∙ sym (eqb-true (d z) v (and_right (S z) _ ez))))

      grows : Below (suc v) ≡ Below v + count n here
      grows = count_add n (λ z. S z && ltb (d z) v) here (λ z. S z && ltb (d z) (suc v)) (λ z l. cut (S z) (d z) v)

      few : count n (chosen (suc v)) ≡ count n (chosen v) + count n new
      few = count_add n (chosen v) new (chosen (suc v)) (λ y l. cut_and (S y) (ltb (Below (d y)) L) (d y) v)

      same : (y : ℕ) → here y ≡ true → Below (d y) ≡ Below v
      same y e = ap Below (eqb-true (d y) v (and_right (S y) _ e))

  least_count : (top : ℕ) → ((y : ℕ) → y < n → S y ≡ true → d y < top) → count n (λ y. S y && ltb (Below (d y)) L) ≡ min L (count n S)
  least_count top h =
      sym (count_cong n (chosen top) (λ y. S y && ltb (Below (d y)) L) (λ y l. ap (λ (b : Bool). b && ltb (Below (d y)) L) (inside y l)))
      ∙ ranked top
      ∙ ap (min L) (count_cong n (λ z. S z && ltb (d z) top) S inside)
    where
      inside : (y : ℕ) → y < n → (S y && ltb (d y) top) ≡ S y
      inside y l = guard (S y) (ltb (d y) top) (λ e. lt-ltb (d y) top (h y l e))

-- ---- on the ring

-- once round the ring
sums : (x y a b : ℕ) → x + a ≡ b → y + b ≡ a + 16777216 → x + y ≡ 16777216
sums x y a b e f = omega arith

pub up : (a b : ℕ) → a ≤ b → b < 16777216 → clockwise a b + a ≡ b
up a b h hb = omega arith

pub down : (a b : ℕ) → b < a → a < 16777216 → clockwise a b + a ≡ b + 16777216
down a b h ha = omega arith

pub round : (a b : ℕ) → a < 16777216 → b < 16777216 → (b ≡ a → ⊥) → clockwise a b + clockwise b a ≡ 16777216
round a b ha hb n =
    elim (dec_lt a b) [
      | yes h ↦ sums (clockwise a b) (clockwise b a) a b (up a b (le_of_lt h) hb) (down b a h hb)
      | no g ↦
          (let h : b < a = lt_of_le-ne (omega arith) n in
          add_comm (clockwise a b) (clockwise b a) ∙ sums (clockwise b a) (clockwise a b) b a (up b a (le_of_lt h) ha) (down a b h ha))
    ]

-- from one key, different keys are at different distances, on either way
pub clockwise_inj : (a b c : ℕ) → a < 16777216 → b < 16777216 → c < 16777216 → clockwise a b ≡ clockwise a c → b ≡ c
clockwise_inj a b c ha hb hc e = omega arith

counter_inj : (a b c : ℕ) → a < 16777216 → b < 16777216 → c < 16777216 → counter_clockwise a b ≡ counter_clockwise a c → b ≡ c
counter_inj a b c ha hb hc e = omega arith

-- what is nearer on one way is farther on the other
complements : (x u y v : ℕ) → x + u ≡ 16777216 → y + v ≡ 16777216 → x < y → v < u
complements x u y v e f h = omega arith

turned : (a b c : ℕ) → a < 16777216 → b < 16777216 → c < 16777216 → (b ≡ a → ⊥) → (c ≡ a → ⊥) → clockwise a b < clockwise a c → clockwise c a < clockwise b a
turned a b c ha hb hc nb nc h = complements (clockwise a b) (clockwise b a) (clockwise a c) (clockwise c a) (round a b ha hb nb) (round a c ha hc nc) h

pub clockwise_lt : (a b : ℕ) → clockwise a b < 16777216
clockwise_lt a b = omega arith

-- ---- the two sides of a leafset

-- A are `many` members of S, nearer to x by the distance d than any other member of S
pub record Nearest (t : Table) (many : ℕ) (d : ℕ → ℕ → ℕ) (x : ℕ) (S A : Set) : Type 0 where
  pub within : (y : ℕ) → A y ≡ true → S y ≡ true
  pub number : count (size t) A ≡ many
  pub nearest : (y z : ℕ) → A y ≡ true → S z ≡ true → A z ≡ false → d (key t x) (key t y) < d (key t x) (key t z)

-- the leafset of x in S is two sides without a common node
pub record TwoSides (t : Table) (x : ℕ) (S : Set) : Type 0 where
  pub ahead : Set
  pub behind : Set
  pub ahead_nearest : Nearest t t.sides.ahead clockwise x (without S x) ahead
  pub behind_nearest : Nearest t t.sides.behind counter_clockwise x (without S x) behind
  pub apart : (y : ℕ) → y < size t → ahead y ≡ true → behind y ≡ true → ⊥
  pub together : (y : ℕ) → leafset t x S y ≡ (ahead y || behind y)

-- ---- in a well-formed table

module _ (t : Table) (g : WellFormedTable t) where
  pub small : (y : ℕ) → y < size t → key t y < 16777216
  small y h = let l = g.key_high y h in omega arith

  pub same_key : (y z : ℕ) → y < size t → z < size t → key t y ≡ key t z → y ≡ z
  unfolding keys_differ
  same_key y z hy hz e =
      let p = all_out (size t) (λ v. eqb y v || not (eqb (key t y) (key t v)))
      (all_out (size t) (λ u. all (size t) (λ v. eqb u v || not (eqb (key t u) (key t v)))) g.keys_differ_lem y hy) z hz in
      or_case (eqb y z) (not (eqb (key t y) (key t z))) p
      (λ q. eqb-true y z q)
      (λ q. absurd (eqb-false (key t y) (key t z) (not_out (eqb (key t y) (key t z)) q) e))

-- ---- the leafset of x in S

module _ (t : Table) (g : WellFormedTable t) (x : ℕ) (hx : x < size t) (S : Set) where
  abbrev n : ℕ
  n = size t

  abbrev a : ℕ
  a = key t x

  abbrev left : Set
  left = without S x

  other : (y : ℕ) → y < n → left y ≡ true → key t y ≡ a → ⊥
  other y hy e i = eqb-false y x (not_out (eqb y x) (and_right (S y) (not (eqb y x)) e)) (same_key t g y x hy hx i)

  abbrev ahead : ℕ → ℕ
  ahead y = clockwise a (key t y)

  abbrev behind : ℕ → ℕ
  behind y = counter_clockwise a (key t y)

  ahead_inj : (y z : ℕ) → y < n → z < n → left y ≡ true → left z ≡ true → ahead y ≡ ahead z → y ≡ z
  ahead_inj y z hy hz ly lz e = same_key t g y z hy hz (clockwise_inj a (key t y) (key t z) (small t g x hx) (small t g y hy) (small t g z hz) e)

  behind_inj : (y z : ℕ) → y < n → z < n → left y ≡ true → left z ≡ true → behind y ≡ behind z → y ≡ z
  behind_inj y z hy hz ly lz e = same_key t g y z hy hz (counter_inj a (key t y) (key t z) (small t g x hx) (small t g y hy) (small t g z hz) e)

  -- the `many` nearest on one way
  abbrev near : ℕ → (ℕ → ℕ → ℕ) → Set
  near many d y = left y && is_near t many d a left y

  near_ahead : count n (near t.sides.ahead clockwise) ≡ min t.sides.ahead (count n left)
  near_ahead = least_count left ahead n ahead_inj t.sides.ahead 16777216 (λ y l e. clockwise_lt a (key t y))

  near_behind : count n (near t.sides.behind counter_clockwise) ≡ min t.sides.behind (count n left)
  near_behind = least_count left behind n behind_inj t.sides.behind 16777216 (λ y l e. clockwise_lt (key t y) a)

  -- seen from a member y, any other member is nearer on one way or on the other
  past : (y z : ℕ) → y < n → z < n → left y ≡ true
      → one (left z && not (ltb (ahead z) (ahead y))) ≡ one (left z && ltb (behind z) (behind y)) + one (left z && eqb z y)
  unfolding one
  past y z hy hz ly =
      decide (left z)
      (λ lz. decide (eqb z y)
      (λ e.
      let i : z ≡ y = eqb-true z y e in
      rw (lz, e, le-ltb (ahead z) (ahead y) (le_of_eq (ap ahead (sym i))), le-ltb (behind z) (behind y) (le_of_eq (ap behind (sym i)))))
      (λ e. decide (ltb (ahead z) (ahead y))
      (λ q.
      let b = turned a (key t z) (key t y) (small t g x hx) (small t g z hz) (small t g y hy)
      (other z hz lz) (other y hy ly) (ltb-true (ahead z) (ahead y) q) in
      rw (lz, e, q, le-ltb (behind z) (behind y) (le_of_lt b)))
      (λ q.
      let f : ahead y < ahead z = lt_of_le-ne (ltb-false (ahead z) (ahead y) q) (λ i. eqb-false z y e (ahead_inj z y hz hy lz ly (sym i))) in
      let b = turned a (key t y) (key t z) (small t g x hx) (small t g y hy) (small t g z hz) (other y hy ly) (other z hz lz) f in
      rw (lz, e, q, lt-ltb (behind z) (behind y) b))))
      (λ lz. rw lz)

  -- nobody is among the nearest on both ways
  apart : (y : ℕ) → y < n → t.sides.ahead + t.sides.behind ≤ count n left
      → near t.sides.ahead clockwise y ≡ true
      → near t.sides.behind counter_clockwise y ≡ true
      → ⊥
  apart y hy enough p q =
      let ly : left y ≡ true = and_left (left y) _ p in
      let whole : count n left ≡ nearer t clockwise a left y + count n (λ z. left z && not (ltb (ahead z) (ahead y))) =
      count_add n (λ z. left z && ltb (ahead z) (ahead y)) (λ z. left z && not (ltb (ahead z) (ahead y))) left
      (λ z l. split (left z) (ltb (ahead z) (ahead y))) in
      let rest : count n (λ z. left z && not (ltb (ahead z) (ahead y))) ≡ nearer t counter_clockwise a left y + count n (λ z. left z && eqb z y) =
      count_add n (λ z. left z && ltb (behind z) (behind y)) (λ z. left z && eqb z y) (λ z. left z && not (ltb (ahead z) (ahead y)))
      (λ z l. past y z hy l ly) in
      let itself : count n (λ z. left z && eqb z y) ≤ 1 =
      count_one n (λ z. left z && eqb z y) (λ u v hu hv eu ev. eqb-true u y (and_right (left u) _ eu) ∙ sym (eqb-true v y (and_right (left v) _ ev))) in
      let here : nearer t clockwise a left y < t.sides.ahead = ltb-true _ t.sides.ahead (and_right (left y) _ p) in
      let there : nearer t counter_clockwise a left y < t.sides.behind = ltb-true _ t.sides.behind (and_right (left y) _ q) in
      omega arith

  -- a node among the nearest by d is nearer than one that is not
  near_nearest : (many : ℕ) (d : ℕ → ℕ → ℕ) (y z : ℕ) → near many d y ≡ true → left z ≡ true → near many d z ≡ false → d a (key t y) < d a (key t z)
  near_nearest many d y z p lz q =
      elim (dec_lt (d a (key t y)) (d a (key t z))) [
        | yes h ↦ h
        | no h ↦
            (let few : nearer t d a left y < many = ltb-true _ many (and_right (left y) _ p) in
            let enough : many ≤ nearer t d a left z = ltb-false _ many (rw lz at q) in
            let mono : nearer t d a left z ≤ nearer t d a left y =
            count_mono (λ v. left v && ltb (d a (key t v)) (d a (key t z))) (λ v. left v && ltb (d a (key t v)) (d a (key t y))) n
            (λ v l e.
            let i = ltb-true (d a (key t v)) (d a (key t z)) (and_right (left v) _ e) in
            and_in (and_left (left v) _ e) (lt-ltb (d a (key t v)) (d a (key t y)) (omega arith))) in
            absurd (omega arith))
      ]

  nearest_by : (many : ℕ) (d : ℕ → ℕ → ℕ) → count n (near many d) ≡ min many (count n left) → many ≤ count n left → Nearest t many d x left (near many d)
  nearest_by many d e enough =
      record {
        within = λ y p. and_left (left y) (is_near t many d a left y) p;
        number = omega arith;
        nearest = near_nearest many d;
      }

  pub leafset_sides : t.sides.ahead + t.sides.behind ≤ count n left → TwoSides t x S
  unfolding leafset
  leafset_sides enough =
      record {
        ahead = near t.sides.ahead clockwise;
        behind = near t.sides.behind counter_clockwise;
        ahead_nearest = nearest_by t.sides.ahead clockwise near_ahead (omega arith);
        behind_nearest = nearest_by t.sides.behind counter_clockwise near_behind (omega arith);
        apart = λ y l p q. apart y l enough p q;
        together = λ y.
            ap (λ (few : Bool). left y && (few || is_near t t.sides.ahead clockwise a left y || is_near t t.sides.behind counter_clockwise a left y))
            (le-ltb (count n left) (t.sides.ahead + t.sides.behind) enough)
            ∙ distribute (left y) (is_near t t.sides.ahead clockwise a left y) (is_near t t.sides.behind counter_clockwise a left y);
      }

  pub leafset_size : t.sides.ahead + t.sides.behind ≤ count n left → count n (leafset t x S) ≡ t.sides.ahead + t.sides.behind
  leafset_size enough =
      let s : TwoSides t x S = leafset_sides enough in
      let sum : count n (leafset t x S) ≡ count n s.ahead + count n s.behind =
      count_add n s.ahead s.behind (leafset t x S)
      (λ y l. ap one (s.together y) ∙ either (s.ahead y) (s.behind y) (s.apart y l)) in
      omega arith
