-- Laws of the spans.
use Rattle.std.proofs.Common.{◌≡◌, ℕ, ◌+◌, ◌-◌, ◌*◌, ◌%◌, ◌<◌, ◌≤◌, min, true, ◌&&◌, ◌||◌, eqb, ltb, ◌⊎◌, subst₂, inl, inr, mod-lt, arith, lit<, ltb-false}
use Rattle.std.proofs.Common.{ltb-true, lt-ltb, eq-eqb, eqb-true, le-leb}
use native.Mathlib.Decide.{dec_lt, ℕ_discrete}
use native.Mathlib.Nat.{mod-add-mod}
use borrow.Author.Tests.{lt-leb}
use Rattle.model.specs.Key.{clockwise, distance, places}
use Rattle.model.specs.Leafset.{Table, key, beats}
use Rattle.model.proofs.Laws.{decide, same_test, and_in, and_left, and_right, or_left, or_right, or_case}
use Rattle.leafset_nearest.specs.Span.{rank, rank_of, span_of}
use Rattle.leafset_nearest.specs.declared.Way.{Way}
use Rattle.leafset_nearest.specs.declared.Way.TheVariants.{Clockwise, CounterClockwise, Either}

pub rank_on : (c d : ℕ) → c ≤ d → rank c d ≡ 2 * c
rank_on c d h = rw (le-leb c d h)

pub rank_back : (c d : ℕ) → d < c → rank c d ≡ 2 * d + 1
rank_back c d h = rw (lt-leb c d h)

pub clockwise< : (a b : ℕ) → clockwise a b < places
clockwise< a b = omega arith

-- more than any span
abbrev pub beyond : ℕ
beyond = 33554432

rank< : (c d : ℕ) → c < places → d < places → rank c d < beyond
rank< c d h k =
    elim (dec_lt d c) [
      | yes l ↦ rw (rank_back c d l) (omega arith)
      | no l ↦ rw (rank_on c d (omega arith)) (omega arith)
    ]

pub span< : (way : Way) (a b : ℕ) → span_of way a b < beyond
span< Clockwise a b = omega (arith, clockwise< a b)
span< CounterClockwise a b = omega (arith, clockwise< b a)
span< Either a b = rank< (clockwise a b) (clockwise b a) (clockwise< a b) (clockwise< b a)

-- ---- the order by rank is the order by distance, the clockwise one first

-- the two ways round: both 0, or together the whole ring
abbrev Round : ℕ → ℕ → Type 0
Round c d = ((c ≡ 0) × (d ≡ 0)) ⊎ (c + d ≡ places)

round_of : (a b : ℕ) → a < places → b < places → Round ((b + (places - a)) % places) ((a + (places - b)) % places)
round_of a b h k =
    elim (ℕ_discrete a b) [
      | yes e ↦ inl (omega arith, omega arith)
      | no e ↦ inr (omega arith)
    ]

round : (a b : ℕ) → Round (clockwise a b) (clockwise b a)
round a b =
    subst₂ Round (mod-add-mod b places (places - a % places)) (mod-add-mod a places (places - b % places))
    (round_of (a % places) (b % places) (mod-lt a (lit< tt)) (mod-lt b (lit< tt)))

data Side (c d : ℕ) : Type 0 where
  ahead : c ≤ d → rank c d ≡ 2 * c → Side c d
  behind : d < c → rank c d ≡ 2 * d + 1 → Side c d

side : (c d : ℕ) → Side c d
side c d = elim (dec_lt d c) [ yes h ↦ behind h (rank_back c d h) | no h ↦ ahead (omega arith) (rank_on c d (omega arith)) ]

-- c clockwise and d back to one node, c' and d' to another
module _ (c d c' d' : ℕ) where
  nearer_rank : min c d < min c' d' → rank c d < rank c' d'
  nearer_rank h = go (side c d) (side c' d')
    where
      go : Side c d → Side c' d' → rank c d < rank c' d'
      go (ahead p e) (ahead q f) = omega arith
      go (ahead p e) (behind q f) = omega arith
      go (behind p e) (ahead q f) = omega arith
      go (behind p e) (behind q f) = omega arith

  rank_tie : Round c d → Round c' d' → min c d ≡ min c' d' → c < c' → rank c d < rank c' d'
  rank_tie r s h l = go (side c d) (side c' d') r s
    where
      go : Side c d → Side c' d' → Round c d → Round c' d' → rank c d < rank c' d'
      go (ahead p e) (ahead q f) r s = omega arith
      go (ahead p e) (behind q f) r s = omega arith
      go (behind p e) (ahead q f) r s = omega arith
      go (behind p e) (behind q f) (inl r) s = omega arith
      go (behind p e) (behind q f) (inr r) (inl s) = omega arith
      go (behind p e) (behind q f) (inr r) (inr s) = omega arith

  tie_rank : rank c d < rank c' d' → min c' d' ≤ min c d → (min c d ≡ min c' d') × (c < c')
  tie_rank h k = go (side c d) (side c' d')
    where
      go : Side c d → Side c' d' → (min c d ≡ min c' d') × (c < c')
      go (ahead p e) (ahead q f) = absurd (omega arith)
      go (ahead p e) (behind q f) = (omega arith, omega arith)
      go (behind p e) (ahead q f) = absurd (omega arith)
      go (behind p e) (behind q f) = absurd (omega arith)

  closer_rank : Round c d → Round c' d' → (ltb (min c d) (min c' d') || (eqb (min c d) (min c' d') && ltb c c')) ≡ ltb (rank c d) (rank c' d')
  closer_rank r s = same_test _ (ltb (rank c d) (rank c' d')) to from
    where
      to : (ltb (min c d) (min c' d') || (eqb (min c d) (min c' d') && ltb c c')) ≡ true → ltb (rank c d) (rank c' d') ≡ true
      to e =
          lt-ltb (rank c d) (rank c' d')
          (or_case (ltb (min c d) (min c' d')) (eqb (min c d) (min c' d') && ltb c c') e
          (λ p. nearer_rank (ltb-true (min c d) (min c' d') p))
          (λ p.
          rank_tie r s
          (eqb-true (min c d) (min c' d') (and_left (eqb (min c d) (min c' d')) (ltb c c') p))
          (ltb-true c c' (and_right (eqb (min c d) (min c' d')) (ltb c c') p))))

      from : ltb (rank c d) (rank c' d') ≡ true → (ltb (min c d) (min c' d') || (eqb (min c d) (min c' d') && ltb c c')) ≡ true
      from e =
          decide (ltb (min c d) (min c' d')) (λ p. or_left _ p)
          (λ p.
          let t = tie_rank (ltb-true (rank c d) (rank c' d') e) (ltb-false (min c d) (min c' d') p) in
          or_right (ltb (min c d) (min c' d')) (and_in (eq-eqb (min c d) (min c' d') t.0) (lt-ltb c c' t.1)))

pub beats_rank : (t : Table) (a y z : ℕ) → beats t a y z ≡ ltb (rank_of a (key t y)) (rank_of a (key t z))
beats_rank t a y z =
    closer_rank (clockwise a (key t y)) (clockwise (key t y) a) (clockwise a (key t z)) (clockwise (key t z) a) (round a (key t y)) (round a (key t z))

pub rank_nearer : (a y z : ℕ) → distance a y < distance a z → rank_of a y < rank_of a z
rank_nearer a y z = nearer_rank (clockwise a y) (clockwise y a) (clockwise a z) (clockwise z a)
