-- Leafsets of the held that fit together: what a quiescent ring says of them (types 3 and 4). They are mutual, though each is chosen from a set of its own,
-- since either end lacks nobody whom the other chooses. Source 000, Lemma 11.
use mathlib.Core.Path.{◌≡◌, refl, sym, ap, ◌∙◌}
use mathlib.Core.Logic.{◌⊎◌}
use Prim.Native.Nat.{ℕ, ◌<◌}
use mathlib.Core.Bool.{true, false, not, ◌&&◌}
use lib.Dec.{eqb}
use borrow.Author.Tests.{eqb-true, eq-eqb, ne_eqb}
use Rattle.model.specs.Key.{clockwise, counter_clockwise}
use Rattle.model.specs.Sets.{Set, with, union}
use Rattle.model.specs.Leafset.{Table, size, key, nearer, leafset}
use Rattle.model.specs.Ring.{Ring, holds, is_running}
use Rattle.model.specs.WellFormed.{WellFormedTable, WellFormed}
use Rattle.model.proofs.Laws.{clash, and_left, and_right, and_in, or_left, or_right, or_case, not_in, not_out, decide, is_false}
use Rattle.model.proofs.Choices.{leafset_within, leafset_other}
use Rattle.settle_leafsets.specs.Covered.{HoldsRunning, lacks, Even}
use Rattle.settle_leafsets.specs.Quiescent.{chosen}
use Rattle.settle_leafsets.proofs.LeafsetChoice.{heritage, same_choice, with_none, with_same, chosen_again}
use Rattle.settle_leafsets.proofs.Mutual.{leafset_mutual}
use Rattle.settle_leafsets.proofs.Ways.{side_of, chosen_ahead, chosen_behind}

module _ (t : Table) (C : ℕ → Set) where
  -- with fewer than A, or B, before w on one way, w is chosen at x
  pub record Knows (x w : ℕ) : Type 0 where
    pub ahead : nearer t clockwise (key t x) (C x) w < t.sides.ahead → C x w ≡ true
    pub behind : nearer t counter_clockwise (key t x) (C x) w < t.sides.behind → C x w ≡ true

-- where the nodes of R run and choose C
pub record Woven (t : Table) (R : Set) (C : ℕ → Set) : Type 0 where
  pub well : WellFormedTable t
  pub even : Even t
  pub low : (x : ℕ) → R x ≡ true → x < size t
  pub run : (x z : ℕ) → R x ≡ true → C x z ≡ true → R z ≡ true
  pub other : (x z : ℕ) → C x z ≡ true → z ≡ x → ⊥
  pub side : (x y : ℕ) → R x ≡ true → C x y ≡ true
      → (nearer t clockwise (key t x) (C x) y < t.sides.ahead) ⊎ (nearer t counter_clockwise (key t x) (C x) y < t.sides.behind)
  pub back : (x y : ℕ) → R x ≡ true → C x y ≡ true → C y x ≡ true
  pub hears : (x w y : ℕ) → R x ≡ true → C x w ≡ true → C w y ≡ true → (y ≡ x → ⊥) → Knows t C x y

module _ (r : Ring) (g : WellFormed r) (clean : HoldsRunning r) where
  abbrev t : Table
  t = r.table

  abbrev R : Set
  R = is_running r

  abbrev C : ℕ → Set
  C = chosen r

  low : (x : ℕ) → R x ≡ true → x < size t
  low x on = (g.node_well x).running_low on

  run : (x z : ℕ) → R x ≡ true → C x z ≡ true → R z ≡ true
  run x z on e = clean x on z (leafset_within t x (holds r x) z e)

  -- from those chosen the same are chosen
  again : (x : ℕ) → R x ≡ true → (z : ℕ) → leafset t x (C x) z ≡ C x z
  again x on = chosen_again t x g.table_well (low x on) (holds r x) (C x) (λ z. refl)

  -- who is not lacked, and would be chosen beside those chosen, is one of them
  pub taken : (x w : ℕ) → R x ≡ true → R w ≡ true → lacks r x w ≡ false → leafset t x (with (C x) w) w ≡ true → C x w ≡ true
  taken x w on onw none e =
      let f : leafset t x (with (holds r x) w) w ≡ true = sym (with_same t x g.table_well (low x on) (C x) (holds r x) (again x on) w w) ∙ e in
      decide (holds r x w)
      (λ h. heritage t x (with (holds r x) w) (holds r x) (λ z k. or_left (eqb z w) k) w h f)
      (λ h. clash (and_in (and_in onw (not_in h)) f) none)

  pub knows : (x w : ℕ) → R x ≡ true → R w ≡ true → (w ≡ x → ⊥) → lacks r x w ≡ false → Knows t C x w
  knows x w on onw d none =
      record {
        ahead = λ h. taken x w on onw none (chosen_ahead t g.table_well x w (C x) d h);
        behind = λ h. taken x w on onw none (chosen_behind t g.table_well x w (C x) d h);
      }

  sides : (x y : ℕ) → R x ≡ true → C x y ≡ true
      → (nearer t clockwise (key t x) (C x) y < t.sides.ahead) ⊎ (nearer t counter_clockwise (key t x) (C x) y < t.sides.behind)
  sides x y on e =
      side_of t g.table_well x y (holds r x) (C x) (low x on) (low y (run x y on e))
      (λ z k. and_in (leafset_within t x (holds r x) z k) (not_in (ne_eqb z x (leafset_other t x (holds r x) z k)))) e

  -- who lacks nobody of a view lacks nobody of the set that the view was chosen from
  pub lacks_none_of : (x : ℕ) → R x ≡ true → (S : Set) → ((u : ℕ) → S u ≡ true → R u ≡ true)
      → ((u : ℕ) → leafset t x S u ≡ true → lacks r x u ≡ false) → (w : ℕ) → S w ≡ true → lacks r x w ≡ false
  lacks_none_of x on S runs none w e =
      is_false (lacks r x w)
      (λ k.
      clash (held w (sym (same_choice t x g.table_well (low x on) all (with (holds r x) w) more some_more w) ∙ and_right (R w && not (holds r x w)) _ k))
      (not_out (holds r x w) (and_right (R w) (not (holds r x w)) (and_left (R w && not (holds r x w)) _ k))))
    where
      all : Set
      all = union S (holds r x)

      held : (u : ℕ) → leafset t x all u ≡ true → holds r x u ≡ true
      held u k =
          or_case (S u) (holds r x u) (leafset_within t x all u k)
          (λ p. decide (holds r x u) (λ h. h)
          (λ h. clash
          (and_in (and_in (runs u p) (not_in h))
          (heritage t x all (with (holds r x) u)
          (λ z m. or_case (holds r x z) (eqb z u) m (λ n. or_right (S z) n) (λ n. or_left (holds r x z) (ap S (eqb-true z u n) ∙ p))) u
          (or_right (holds r x u) (eq-eqb u u refl)) k))
          (none u (heritage t x all S (λ z m. or_left (holds r x z) m) u p k))))
          (λ h. h)

      more : (z : ℕ) → with (holds r x) w z ≡ true → all z ≡ true
      more z m = or_case (holds r x z) (eqb z w) m (λ n. or_right (S z) n) (λ n. or_left (holds r x z) (ap S (eqb-true z w n) ∙ e))

      some_more : (z : ℕ) → leafset t x all z ≡ true → with (holds r x) w z ≡ true
      some_more z m = or_left (eqb z w) (held z m)

  -- of a quiescent ring it takes the first two parts only
  module _
      (even : Even t)
      (asks : (x w : ℕ) → R x ≡ true → C x w ≡ true → lacks r w x ≡ false)
      (hears : (x w y : ℕ) → R x ≡ true → C x w ≡ true → C w y ≡ true → lacks r x y ≡ false)
    where
      module _ (x y : ℕ) (on : R x ≡ true) (e : C x y ≡ true) where
        -- those chosen at either
        abbrev both : Set
        both = union (C y) (C x)

        onto : R y ≡ true
        onto = run x y on e

        no_more : (u : ℕ) → leafset t x both u ≡ true → C x u ≡ true
        no_more u k =
            or_case (C y u) (C x u) (leafset_within t x both u k)
            (λ p. taken x u on (run y u onto p) (hears x y u on e p)
            (heritage t x both (with (C x) u)
            (λ z m. or_case (C x z) (eqb z u) m (λ n. or_right (C y z) n) (λ n. or_left (C x z) (ap (C y) (eqb-true z u n) ∙ p))) u
            (or_right (C x u) (eq-eqb u u refl)) k))
            (λ p. p)

        in_both : leafset t x both y ≡ true
        in_both =
            sym (same_choice t x g.table_well (low x on) both (C x) (λ z k. or_right (C y z) k) no_more y)
            ∙ again x on y ∙ e

        in_all : leafset t x (with both x) y ≡ true
        in_all =
            sym (with_none t x g.table_well (low x on) both x (λ k. absurd (leafset_other t x (with both x) x k refl)) y) ∙ in_both

        pub mutual_held : C y x ≡ true
        mutual_held =
            taken y x onto on (asks x y on e)
            (heritage t y (with both x) (with (C y) x)
            (λ z m. or_case (C y z) (eqb z x) m (λ n. or_left (eqb z x) (or_left (C x z) n)) (λ n. or_right (both z) n)) x
            (or_right (C y x) (eq-eqb x x refl))
            (sym (leafset_mutual t g.table_well (with both x) even x y (low x on) (low y onto) (or_right (both x) (eq-eqb x x refl))
            (or_left (eqb y x) (or_right (C y y) e)))
            ∙ in_all))

      pub woven : Woven t R C
      woven =
          record {
            well = g.table_well;
            even = even;
            low = low;
            run = run;
            other = λ x z. leafset_other t x (holds r x) z;
            side = sides;
            back = mutual_held;
            hears = λ x w y on e k d. knows x y on (run w y (run x w on e) k) d (hears x w y on e k);
          }
