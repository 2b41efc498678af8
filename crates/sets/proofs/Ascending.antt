-- The members of a set in rising order, the lowest of them, and sets with no member from a number on.
use mathlib.Core.Path.{◌≡◌, refl, sym, ap, ap₂, ◌∙◌}
use mathlib.Core.Bool.{Bool, true, false, not, ◌&&◌, and-true, and-false, or-false}
use mathlib.Core.List.{List, [], ◌∷◌, ◌++◌, append-nil}
use Prim.Native.Nat.{ℕ, zero, suc, ◌+◌, ◌≤◌, ◌<◌}
use native.Mathlib.Nat.{le_refl, add-zero, not-suc-le-zero}
use native.Mathlib.Omega.{arith}
use native.Mathlib.Decide.{ℕ_discrete, dec_lt}
use lib.Dec.{eqb}
use lib.ListN.{get_or}
use borrow.Author.Tests.{eq-eqb, ne_eqb, eqb-true}
use Rattle.std.specs.Prelude.{if◌then◌else◌}
use Rattle.model.specs.Sets.{Set, without, none_node, some, count, members, lowest, to_bits}
use Rattle.model.proofs.Laws.{clash, is_false, decide, some_none, count_none}

-- ---- the set without a member

pub without_here : (S : Set) (x : ℕ) → without S x x ≡ false
without_here S x = rw (eq-eqb x x refl) (and-false (S x))

pub without_else : (S : Set) (x y : ℕ) → (y ≡ x → ⊥) → without S x y ≡ S y
without_else S x y d = rw (ne_eqb y x d) (and-true (S y))

-- ---- members

pub members_none : (n : ℕ) (S : Set) → ((y : ℕ) → y < n → S y ≡ false) → members n S ≡ []
unfolding members
members_none zero S f = refl
members_none (suc n) S f = rw (members_none n S (λ y h. f y (omega arith)), f n (le_refl (suc n)))

pub members_cong : (n : ℕ) (S R : Set) → ((y : ℕ) → y < n → S y ≡ R y) → members n S ≡ members n R
unfolding members
members_cong zero S R e = refl
members_cong (suc n) S R e =
    ap₂ (λ (l : List ℕ) (b : Bool). l ++ (if b then n ∷ [] else [])) (members_cong n S R (λ y h. e y (omega arith))) (e n (le_refl (suc n)))

-- s is the lowest member of S, and below n
pub record First (n : ℕ) (S : Set) (s : ℕ) : Type 0 where
  pub below : s < n
  pub member : S s ≡ true
  pub before : (y : ℕ) → y < s → S y ≡ false

pub members_next : (n : ℕ) (S : Set) (s : ℕ) → First n S s → members n S ≡ s ∷ members n (without S s)
unfolding members
members_next zero S s f = absurd (not-suc-le-zero f.below)
members_next (suc n) S s f =
    elim (ℕ_discrete s n) [
      | yes e ↦ top e
      | no d ↦
          ap (λ (l : List ℕ). l ++ (if S n then n ∷ [] else []))
          (members_next n S s (record { below = omega (arith, f.below); member = f.member; before = f.before }))
          ∙ ap (λ (b : Bool). s ∷ members n (without S s) ++ (if b then n ∷ [] else [])) (sym (without_else S s n (λ e. d (sym e))))
    ]
  where
    top : s ≡ n → members (suc n) S ≡ s ∷ members (suc n) (without S s)
    top e =
        let none : members n S ≡ [] = members_none n S (λ y h. f.before y (omega arith)) in
        let rest : members (suc n) (without S s) ≡ [] =
        members_none (suc n) (without S s) (λ y h. elim (ℕ_discrete y s) [
          | yes q ↦ ap (without S s) q ∙ without_here S s
          | no q ↦ without_else S s y q ∙ f.before y (omega arith)
        ]) in
        ap₂ (λ (l : List ℕ) (b : Bool). l ++ (if b then n ∷ [] else [])) none (sym (ap S e) ∙ f.member)
        ∙ ap₂ (λ (k : ℕ) (l : List ℕ). k ∷ l) (sym e) (sym rest)

pub lowest_is : (n : ℕ) (S : Set) (s : ℕ) → First n S s → lowest n S ≡ s
lowest_is n S s f = ap (λ (l : List ℕ). get_or l 0 none_node) (members_next n S s f)

pub lowest_none : (n : ℕ) (S : Set) → ((y : ℕ) → y < n → S y ≡ false) → lowest n S ≡ none_node
lowest_none n S f = ap (λ (l : List ℕ). get_or l 0 none_node) (members_none n S f)

find : (n : ℕ) (S : Set) → some n S ≡ true → (s : ℕ) × First n S s
unfolding some
find zero S e = clash e refl
find (suc n) S e = decide (some n S) (λ t. further (find n S t)) (λ f. (n, record { below = le_refl (suc n); member = here f; before = some_none n S f }))
  where
    further : (s : ℕ) × First n S s → (s : ℕ) × First (suc n) S s
    further p = (p.0, record { below = omega (arith, p.1.below); member = p.1.member; before = p.1.before })

    here : some n S ≡ false → S n ≡ true
    here f = rw f at e

-- the lowest member of a set that has one
pub lowest_first : (n : ℕ) (S : Set) → some n S ≡ true → First n S (lowest n S)
lowest_first n S e = let p = find n S e in rw (lowest_is n S p.0 p.1) p.1

-- ---- sets with no member from n on

steady : {A : Type 0} (f : ℕ → A) (n m : ℕ) → n ≤ m → ((k : ℕ) → n ≤ k → f (suc k) ≡ f k) → f n ≡ f m
steady f n zero h e = ap f (omega arith)
steady f n (suc m) h e =
    elim (dec_lt m n) [
      | yes l ↦ ap f (omega arith)
      | no l ↦ steady f n m (omega arith) e ∙ sym (e m (omega arith))
    ]

module _ (S : Set) (n : ℕ) (low : (y : ℕ) → S y ≡ true → y < n) where
  pub none_from : (y : ℕ) → n ≤ y → S y ≡ false
  none_from y h = is_false (S y) (λ e. omega (arith, low y e))

  module _ (m : ℕ) (h : n ≤ m) where
    pub count_to : count n S ≡ count m S
    unfolding count
    count_to = steady (λ k. count k S) n m h (λ k l. rw (none_from k l) (add-zero (count k S)))

    pub members_to : members n S ≡ members m S
    unfolding members
    members_to = steady (λ k. members k S) n m h (λ k l. rw (none_from k l) (append-nil (members k S)))

    pub to_bits_to : to_bits n S ≡ to_bits m S
    unfolding to_bits
    to_bits_to = steady (λ k. to_bits k S) n m h (λ k l. rw (none_from k l) (add-zero (to_bits k S)))

    pub some_to : some n S ≡ some m S
    unfolding some
    some_to = steady (λ k. some k S) n m h (λ k l. rw (none_from k l) (or-false (some k S)))

-- ---- counts of a part and of what is left

pub count_split : (n : ℕ) (S R : Set) → ((y : ℕ) → R y ≡ true → S y ≡ true) → count n (λ y. S y && not (R y)) + count n R ≡ count n S
unfolding count
count_split zero S R f = refl
count_split (suc n) S R f = go (S n) (R n) (f n) (count_split n S R f)
  where
    go : (a b : Bool) → (b ≡ true → a ≡ true) → count n (λ y. S y && not (R y)) + count n R ≡ count n S
        → count n (λ y. S y && not (R y)) + (if a && not b then 1 else 0) + (count n R + (if b then 1 else 0)) ≡ count n S + (if a then 1 else 0)
    go true true h e = omega arith
    go true false h e = omega arith
    go false false h e = omega arith
    go false true h e = clash (h refl) refl

count_one : (n b : ℕ) → b < n → count n (λ y. eqb y b) ≡ 1
unfolding count
count_one zero b h = absurd (not-suc-le-zero h)
count_one (suc n) b h =
    elim (ℕ_discrete n b) [
      | yes e ↦ rw (eq-eqb n b e, count_none n (λ y. eqb y b) (λ y l. ne_eqb y b (λ q. omega arith)))
      | no d ↦ rw (ne_eqb n b d, count_one n b (omega arith))
    ]

pub count_without : (n : ℕ) (S : Set) (b : ℕ) → b < n → S b ≡ true → count n (without S b) + 1 ≡ count n S
count_without n S b h e =
    ap (λ (k : ℕ). count n (without S b) + k) (sym (count_one n b h))
    ∙ count_split n S (λ y. eqb y b) (λ y t. ap S (eqb-true y b t) ∙ e)
