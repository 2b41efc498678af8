-- A leafset is a choice from a set that does not depend on those whom it rejects: who is chosen from a set is chosen from any part that has him,
-- and who is not chosen can be taken away. By counting who is nearer, on either way.
use mathlib.Core.Path.{◌≡◌, refl, sym, ap, ◌∙◌}
use Prim.Native.Nat.{ℕ, ◌+◌, ◌≤◌, ◌<◌}
use native.Mathlib.Omega.{arith}
use mathlib.Core.Bool.{Bool, true, false, not, ◌&&◌, ◌||◌}
use lib.Dec.{ltb, eqb}
use borrow.Author.Tests.{lt-ltb, ltb-true, ltb-false, le-ltb, eqb-true, ne_eqb, eq-eqb}
use Rattle.model.specs.Key.{clockwise, counter_clockwise}
use Rattle.model.specs.Sets.{Set, with, without, union, count}
use Rattle.model.specs.Leafset.{Table, size, key, nearer, is_near, leafset}
use Rattle.model.specs.WellFormed.{WellFormedTable}
use Rattle.model.proofs.Laws.{clash, and_left, and_right, and_in, or_left, or_right, or_case}
use Rattle.model.proofs.Laws.{or_none_left, or_none_right, not_in, decide, is_false, same_test, count_mono}
use Rattle.model.proofs.LeafsetSize.{TwoSides, Nearest, leafset_sides, leafset_size}
use Rattle.model.proofs.Choices.{leafset_within, leafset_other}

-- every member of T is one of S
abbrev pub Within : Set → Set → Type 0
Within T S = (z : ℕ) → T z ≡ true → S z ≡ true

module _ (t : Table) (x : ℕ) where
  abbrev n : ℕ
  n = size t

  abbrev left : Set → Set
  left S = without S x

  abbrev few : Set → Bool
  few S = ltb (count n (left S)) (t.sides.ahead + t.sides.behind)

  abbrev near : ℕ → (ℕ → ℕ → ℕ) → Set → Set
  near many d S y = is_near t many d (key t x) (left S) y

  left_within : (S T : Set) → Within T S → Within (left T) (left S)
  left_within S T sub z e = and_in (sub z (and_left (T z) (not (eqb z x)) e)) (and_right (T z) (not (eqb z x)) e)

  few_within : (S T : Set) → Within T S → few S ≡ true → few T ≡ true
  few_within S T sub e =
      let h = ltb-true (count n (left S)) _ e in
      let l = count_mono (left T) (left S) n (λ i k q. left_within S T sub i q) in
      lt-ltb (count n (left T)) _ (omega arith)

  near_within : (many : ℕ) (d : ℕ → ℕ → ℕ) (S T : Set) → Within T S → (y : ℕ) → near many d S y ≡ true → near many d T y ≡ true
  near_within many d S T sub y e =
      let h = ltb-true (nearer t d (key t x) (left S) y) many e in
      let l : nearer t d (key t x) (left T) y ≤ nearer t d (key t x) (left S) y =
      count_mono (λ z. left T z && ltb (d (key t x) (key t z)) (d (key t x) (key t y))) (λ z. left S z && ltb (d (key t x) (key t z)) (d (key t x) (key t y))) n
      (λ i k q. and_in (left_within S T sub i (and_left (left T i) _ q)) (and_right (left T i) _ q)) in
      lt-ltb (nearer t d (key t x) (left T) y) many (omega arith)

  abbrev near_a : Set → Set
  near_a S = near t.sides.ahead clockwise S

  abbrev near_b : Set → Set
  near_b S = near t.sides.behind counter_clockwise S

  -- who is chosen from S is chosen from any part of it that has him
  pub heritage : (S T : Set) → Within T S → (y : ℕ) → T y ≡ true → leafset t x S y ≡ true → leafset t x T y ≡ true
  unfolding leafset
  heritage S T sub y ty e =
      and_in (and_in ty (and_right (S y) (not (eqb y x)) (and_left (left S y) _ e)))
      (or_case (few S || near_a S y) (near_b S y) (and_right (left S y) _ e)
      (λ p. or_left (near_b T y)
      (or_case (few S) (near_a S y) p
      (λ q. or_left (near_a T y) (few_within S T sub q))
      (λ q. or_right (few T) (near_within t.sides.ahead clockwise S T sub y q))))
      (λ p. or_right (few T || near_a T y) (near_within t.sides.behind counter_clockwise S T sub y p)))

  -- in a small set all are chosen
  few_all : (S : Set) (y : ℕ) → few S ≡ true → S y ≡ true → ¬ (y ≡ x) → leafset t x S y ≡ true
  unfolding leafset
  few_all S y f s d = and_in (and_in s (not_in (ne_eqb y x d))) (or_left (near_b S y) (or_left (near_a S y) f))

  -- of a set that is not small, whoever has A before him and B behind him is not chosen
  not_chosen : (T : Set) (y : ℕ) → few T ≡ false → t.sides.ahead ≤ nearer t clockwise (key t x) (left T) y
      → t.sides.behind ≤ nearer t counter_clockwise (key t x) (left T) y → leafset t x T y ≡ false
  unfolding leafset
  not_chosen T y f a b =
      is_false (left T y && (few T || near_a T y || near_b T y))
      (λ e. or_case (few T || near_a T y) (near_b T y) (and_right (left T y) _ e)
      (λ p. or_case (few T) (near_a T y) p (λ q. clash q f) (λ q. clash q (le-ltb _ t.sides.ahead a)))
      (λ p. clash p (le-ltb _ t.sides.behind b)))

  module _ (g : WellFormedTable t) (hx : x < size t) where
    module _ (S T : Set) (sub : Within T S) (has : Within (leafset t x S) T) where
      chosen_left : (z : ℕ) → leafset t x S z ≡ true → left T z ≡ true
      chosen_left z e = and_in (has z e) (not_in (ne_eqb z x (leafset_other t x S z e)))

      farther : (many : ℕ) (d : ℕ → ℕ → ℕ) (side : Set) → Nearest t many d x (left S) side → ((z : ℕ) → side z ≡ true → leafset t x S z ≡ true)
          → (y : ℕ) → left S y ≡ true → side y ≡ false → many ≤ nearer t d (key t x) (left T) y
      farther many d side near chosen y ly out =
          let l = count_mono side (λ z. left T z && ltb (d (key t x) (key t z)) (d (key t x) (key t y))) n
          (λ i k q. and_in (chosen_left i (chosen i q)) (lt-ltb (d (key t x) (key t i)) (d (key t x) (key t y)) (near.nearest i y q ly out))) in
          let c = near.number in
          omega arith

      not_few : few S ≡ false → few T ≡ false
      not_few f =
          let enough = ltb-false (count n (left S)) _ f in
          let size_is = leafset_size t g x hx S enough in
          let l = count_mono (leafset t x S) (left T) n (λ i k q. chosen_left i q) in
          le-ltb (count n (left T)) _ (omega arith)

      beyond : (y : ℕ) → few S ≡ false → left S y ≡ true → leafset t x S y ≡ false → leafset t x T y ≡ false
      beyond y f ly e =
          let s : TwoSides t x S = leafset_sides t g x hx S (ltb-false (count n (left S)) _ f) in
          let o : (s.ahead y || s.behind y) ≡ false = sym (s.together y) ∙ e in
          not_chosen T y (not_few f)
          (farther t.sides.ahead clockwise s.ahead s.ahead_nearest (λ z q. s.together z ∙ or_left (s.behind z) q) y ly
          (or_none_left (s.ahead y) (s.behind y) o))
          (farther t.sides.behind counter_clockwise s.behind s.behind_nearest (λ z q. s.together z ∙ or_right (s.ahead z) q) y ly
          (or_none_right (s.ahead y) (s.behind y) o))

      -- who is chosen from a part that has all who are chosen from S is one of these
      pub outcast : (y : ℕ) → leafset t x T y ≡ true → leafset t x S y ≡ true
      outcast y e =
          let s : S y ≡ true = sub y (leafset_within t x T y e) in
          let d = leafset_other t x T y e in
          decide (leafset t x S y) (λ q. q)
          (λ q. decide (few S)
          (λ f. few_all S y f s d)
          (λ f. clash e (beyond y f (and_in s (not_in (ne_eqb y x d))) q)))

      -- so the same are chosen
      pub same_choice : (y : ℕ) → leafset t x T y ≡ leafset t x S y
      same_choice y = same_test (leafset t x T y) (leafset t x S y) (outcast y) (λ e. heritage S T sub y (has y e) e)

    -- sets from which the same are chosen
    abbrev pub Alike : Set → Set → Type 0
    Alike S T = (z : ℕ) → leafset t x S z ≡ leafset t x T z

    with_old : (S : Set) (y z : ℕ) → S z ≡ true → with S y z ≡ true
    with_old S y z e = or_left (eqb z y) e

    -- one more, beside a set or beside those chosen from it
    with_chosen : (S : Set) (y : ℕ) → Alike (with (leafset t x S) y) (with S y)
    with_chosen S y =
        same_choice (with S y) (with (leafset t x S) y)
        (λ z e. or_case (leafset t x S z) (eqb z y) e (λ p. with_old S y z (leafset_within t x S z p)) (λ p. or_right (S z) p))
        (λ z e. or_case (S z) (eqb z y) (leafset_within t x (with S y) z e)
        (λ p. or_left (eqb z y) (heritage (with S y) S (λ u q. with_old S y u q) z p e))
        (λ p. or_right (leafset t x S z) p))

    -- where one who is chosen is in S anyway, one more makes no difference
    pub with_none : (S : Set) (y : ℕ) → (leafset t x (with S y) y ≡ true → S y ≡ true) → Alike S (with S y)
    with_none S y h =
        same_choice (with S y) S (λ z e. with_old S y z e)
        (λ z e. or_case (S z) (eqb z y) (leafset_within t x (with S y) z e) (λ p. p)
        (λ p. let i = eqb-true z y p in ap S i ∙ h (ap (leafset t x (with S y)) (sym i) ∙ e)))

    -- where the same are chosen from two sets, one more makes the same difference
    pub with_same : (S R : Set) → Alike S R → (y : ℕ) → Alike (with S y) (with R y)
    with_same S R a y z = sym (with_chosen S y z) ∙ ap (λ (C : Set). leafset t x (with C y) z) (λ i u. a u i) ∙ with_chosen R y z

    -- nor does it where the same are chosen from another set
    pub with_alike : (S R : Set) → Alike S R → (y : ℕ) → (leafset t x (with R y) y ≡ true → R y ≡ true) → Alike (with S y) R
    with_alike S R a y h z = with_same S R a y z ∙ sym (with_none R y h z)

    -- one who is not chosen can be taken away
    pub without_alike : (S : Set) (y : ℕ) → leafset t x S y ≡ false → Alike (without S y) S
    without_alike S y h =
        same_choice S (without S y) (λ z e. and_left (S z) (not (eqb z y)) e)
        (λ z e. and_in (leafset_within t x S z e) (not_in (ne_eqb z y (λ i. clash e (ap (leafset t x S) i ∙ h)))))

    -- chosen once, chosen again
    pub chosen_again : (S T : Set) → ((z : ℕ) → T z ≡ leafset t x S z) → Alike T S
    chosen_again S T e =
        same_choice S T (λ z q. leafset_within t x S z (sym (e z) ∙ q)) (λ z q. e z ∙ q)

    -- where T has all who are chosen from S, nobody of S is missing in T
    pub union_alike : (S T : Set) → Within (leafset t x S) T → Alike (union S T) T
    union_alike S T has z =
        sym (same_choice (union S T) T (λ u e. or_right (S u) e)
        (λ u e. or_case (S u) (T u) (leafset_within t x (union S T) u e)
        (λ p. has u (heritage (union S T) S (λ v q. or_left (T v) q) u p e))
        (λ p. p)) z)

    -- of three sets, where nobody of the first is missing in the second and nobody of that in the third, nobody of the first is missing in the third
    pub union_chain : (S T U : Set) → Alike (union S T) T → Alike (union T U) U → Alike (union S U) U
    union_chain S T U a b z =
        let whole : Alike (union (union S T) U) U =
        λ u. sym (with_all (union S T) U u) ∙ ap (λ (C : Set). leafset t x (union C U) u) (λ i v. a v i) ∙ with_all T U u ∙ b u in
        same_choice (union (union S T) U) (union S U)
        (λ u e. or_case (S u) (U u) e (λ p. or_left (U u) (or_left (T u) p)) (λ p. or_right (S u || T u) p))
        (λ u e. or_right (S u) (leafset_within t x U u (sym (whole u) ∙ e))) z
        ∙ whole z
      where
        -- beside a set or beside those chosen from it
        with_all : (P W : Set) → Alike (union (leafset t x P) W) (union P W)
        with_all P W =
            same_choice (union P W) (union (leafset t x P) W)
            (λ u e. or_case (leafset t x P u) (W u) e (λ p. or_left (W u) (leafset_within t x P u p)) (λ p. or_right (P u) p))
            (λ u e. or_case (P u) (W u) (leafset_within t x (union P W) u e)
            (λ p. or_left (W u) (heritage (union P W) P (λ v q. or_left (W v) q) u p e))
            (λ p. or_right (leafset t x P u) p))

    -- where nobody of S is missing in T, whom T would still take in S would take in, too
    pub still_fits : (S T : Set) → Alike (union S T) T → (w : ℕ) → T w ≡ false → leafset t x (with T w) w ≡ true
        → (S w ≡ false) × (leafset t x (with S w) w ≡ true)
    still_fits S T a w out fits = (
      is_false (S w) (λ e.
          clash
          (leafset_within t x T w
          (sym (a w)
          ∙ sym (same_choice (union S T) (with T w)
          (λ u q. or_case (T u) (eqb u w) q (λ p. or_right (S u) p) (λ p. or_left (T u) (ap S (eqb-true u w p) ∙ e)))
          (λ u q. or_left (eqb u w) (leafset_within t x T u (sym (a u) ∙ q))) w)
          ∙ fits))
          out),
      heritage (with (union S T) w) (with S w)
          (λ u q. or_case (S u) (eqb u w) q (λ p. or_left (eqb u w) (or_left (T u) p)) (λ p. or_right (S u || T u) p))
          w (or_right (S w) (eq-eqb w w refl))
          (with_same (union S T) T a w w ∙ fits),
    )
