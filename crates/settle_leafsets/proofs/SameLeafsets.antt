-- What depends on a node's leafset of the held only, and so stays where leafsets stay: its successor, and whether it passes zero.
-- The successor is in the leafset, since A is at least 1.
use mathlib.Core.Path.{◌≡◌, sym, ap, ◌∙◌}
use Prim.Native.Nat.{ℕ, ◌≤◌, ◌<◌}
use native.Mathlib.Omega.{arith}
use native.Mathlib.Decide.{dec_lt}
use mathlib.Core.Bool.{true, ◌&&◌}
use lib.Dec.{ltb, eqb}
use borrow.Author.Tests.{lt-ltb, ltb-true, ne_eqb, eqb-true, eq-eqb}
use Rattle.model.specs.Key.{clockwise}
use Rattle.model.specs.Sets.{Set, without, some, lowest}
use Rattle.model.specs.Leafset.{Table, size, key, nearer, leafset, successor, passes_zero}
use Rattle.model.specs.WellFormed.{WellFormedTable, Other}
use Rattle.model.proofs.Laws.{and_left, and_right, and_in, not_in, is_false, same_test, some_in, count_none}
use Rattle.model.proofs.Choices.{Member, Least, least, leafset_within}
use Rattle.model.proofs.Routes.{next_in_leafset}
use Rattle.settle_leafsets.proofs.Ways.{count_zero}

module _ (t : Table) (g : WellFormedTable t) (x : ℕ) (hx : x < size t) where
  -- of one set
  module _ (S : Set) (others : (z : ℕ) → S z ≡ true → Other (size t) x z) where
    abbrev to : ℕ → ℕ
    to y = clockwise (key t x) (key t y)

    -- y is the nearest clockwise
    pub record Next (y : ℕ) : Type 0 where
      pub within : S y ≡ true
      pub no_nearer : (z : ℕ) → S z ≡ true → to y ≤ to z

    member : (z : ℕ) → S z ≡ true → Member (size t) (without S x) z
    member z k = record { below = (others z k).low; within = and_in k (not_in (ne_eqb z x (others z k).differs)) }

    pub next_chosen : (y : ℕ) → Next y → leafset t x S y ≡ true
    next_chosen y n =
        next_in_leafset t x S g.sides_well.ahead_low
        (record { best = y; member = member y n.within; no_less = λ z m. n.no_nearer z (and_left (S z) _ m.within) })

    pub next_there : some (size t) S ≡ true → (y : ℕ) × Next y
    next_there k =
        let l : Least (size t) S to = least (size t) S to k in
        (l.best, record { within = l.member.within; no_nearer = λ z m. l.no_less z (record { below = (others z m).low; within = m }) })

    -- as the successor is computed
    pub next_in : (y : ℕ) → Next y → (S y && eqb (nearer t clockwise (key t x) S y) 0) ≡ true
    next_in y n =
        and_in n.within
        (eq-eqb (nearer t clockwise (key t x) S y) 0
        (count_none (size t) (λ z. S z && ltb (to z) (to y))
        (λ z l. is_false (S z && ltb (to z) (to y))
        (λ k. let h = ltb-true (to z) (to y) (and_right (S z) _ k) in let m = n.no_nearer z (and_left (S z) _ k) in omega arith))))

    pub next_out : (y : ℕ) → (S y && eqb (nearer t clockwise (key t x) S y) 0) ≡ true → Next y
    next_out y k =
        record {
          within = and_left (S y) _ k;
          no_nearer = λ z m. elim (dec_lt (to z) (to y)) [
            | yes l ↦
                absurd (count_zero (size t) (λ u. S u && ltb (to u) (to y)) (eqb-true (nearer t clockwise (key t x) S y) 0 (and_right (S y) _ k)) z
                (others z m).low
                (and_in m (lt-ltb (to z) (to y) l)))
            | no l ↦ omega arith
          ];
        }

  -- of two from which the same are chosen
  next_half :
      (S T : Set) → ((z : ℕ) → S z ≡ true → Other (size t) x z) → ((z : ℕ) → T z ≡ true → Other (size t) x z) → ((z : ℕ) → leafset t x S z ≡ leafset t x T z)
      → (y : ℕ) → (S y && eqb (nearer t clockwise (key t x) S y) 0) ≡ true → (T y && eqb (nearer t clockwise (key t x) T y) 0) ≡ true
  next_half S T os ot e y k =
      let n : Next S os y = next_out S os y k in
      let mine : T y ≡ true = leafset_within t x T y (sym (e y) ∙ next_chosen S os y n) in
      let m = next_there T ot (some_in (size t) T y (ot y mine).low mine) in
      let u : ℕ = m.0 in
      let l = n.no_nearer u (leafset_within t x S u (e u ∙ next_chosen T ot u m.1)) in
      next_in T ot y (record { within = mine; no_nearer = λ z h. let q = m.1.no_nearer z h in omega arith })

  module _
      (S T : Set)
      (os : (z : ℕ) → S z ≡ true → Other (size t) x z)
      (ot : (z : ℕ) → T z ≡ true → Other (size t) x z)
      (e : (z : ℕ) → leafset t x S z ≡ leafset t x T z)
    where
      pub successor_same : successor t x S ≡ successor t x T
      unfolding successor
      successor_same =
          ap (lowest (size t))
          (λ i y. same_test (S y && eqb (nearer t clockwise (key t x) S y) 0) (T y && eqb (nearer t clockwise (key t x) T y) 0) (next_half S T os ot e y)
          (next_half T S ot os (λ z. sym (e z)) y) i)

      some_half :
          (P Q : Set) → ((z : ℕ) → P z ≡ true → Other (size t) x z) → ((z : ℕ) → Q z ≡ true → Other (size t) x z)
          → ((z : ℕ) → leafset t x P z ≡ leafset t x Q z)
          → some (size t) P ≡ true → some (size t) Q ≡ true
      some_half P Q op oq a k =
          let m = next_there P op k in
          let h : Q m.0 ≡ true = leafset_within t x Q m.0 (sym (a m.0) ∙ next_chosen P op m.0 m.1) in
          some_in (size t) Q m.0 (oq m.0 h).low h

      pub some_same : some (size t) S ≡ some (size t) T
      some_same = same_test (some (size t) S) (some (size t) T) (some_half S T os ot e) (some_half T S ot os (λ z. sym (e z)))

      pub passes_same : passes_zero t x S ≡ passes_zero t x T
      unfolding passes_zero
      passes_same = rw (some_same, successor_same)
