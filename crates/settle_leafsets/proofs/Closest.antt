-- Whom a node offers on type 7: one of its leafset, nearer to the one that asks; it depends on the leafset alone.
use mathlib.Core.Path.{◌≡◌, refl, ap}
use mathlib.Core.Logic.{◌⊎◌, inl, inr}
use Prim.Native.Nat.{ℕ, ◌<◌}
use mathlib.Core.Bool.{true, not, ◌&&◌}
use lib.Dec.{eqb, ltb}
use borrow.Author.Tests.{eqb-false, ltb-true}
use Rattle.model.specs.Key.{distance}
use Rattle.model.specs.Sets.{Set, without, none_node}
use Rattle.model.specs.Leafset.{Table, size, key, leafset, nearest, closest}
use Rattle.model.proofs.Laws.{and_left, and_right, not_out}
use Rattle.model.proofs.Choices.{lowest_law}

-- y is in u's leafset of S, is not a, and is nearer to a than u is
pub record Offer (t : Table) (S : Set) (u a y : ℕ) : Type 0 where
  pub below : y < size t
  pub mine : leafset t u S y ≡ true
  pub differs : ¬ (y ≡ a)
  pub nearer : distance (key t a) (key t y) < distance (key t a) (key t u)

pub closest_offer : (t : Table) (S : Set) (u a : ℕ) → (closest t u S a ≡ none_node) ⊎ Offer t S u a (closest t u S a)
unfolding closest nearest
closest_offer t S u a =
    lowest_law (λ (y : ℕ). (y ≡ none_node) ⊎ Offer t S u a y) (size t) _ (inl refl)
    (λ y m.
    let far : ℕ → ℕ = λ v. distance (key t a) (key t v) in
    let both : (without (leafset t u S) a y && ltb (far y) (far u)) ≡ true = and_left _ _ m.within in
    let in-leafset : without (leafset t u S) a y ≡ true = and_left (without (leafset t u S) a y) _ both in
    inr (record {
      below = m.below;
      mine = and_left (leafset t u S y) (not (eqb y a)) in-leafset;
      differs = eqb-false y a (not_out (eqb y a) (and_right (leafset t u S y) (not (eqb y a)) in-leafset));
      nearer = ltb-true (far y) (far u) (and_right (without (leafset t u S) a y) _ both);
    }))

-- where anybody is offered
pub offer_of_lem : (t : Table) (S : Set) (u a : ℕ) → ¬ (closest t u S a ≡ none_node) → Offer t S u a (closest t u S a)
offer_of_lem t S u a n = elim (closest_offer t S u a) [ inl e ↦ absurd (n e) | inr o ↦ o ]

-- whom u offers depends on its leafset alone
pub offer_same : (t : Table) (u : ℕ) (S T : Set) → ((z : ℕ) → leafset t u S z ≡ leafset t u T z) → (a : ℕ) → closest t u S a ≡ closest t u T a
unfolding closest
offer_same t u S T e a =
    ap (λ (C : Set). nearest t (key t a) (λ y. without C a y && ltb (distance (key t a) (key t y)) (distance (key t a) (key t u)))) (λ i z. e z i)
