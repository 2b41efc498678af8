-- Laws of tests, of choices by a test, of the numbers below n that pass one, and of tables of values.
-- Each is stated of a test that is `true` or `false`.
use mathlib.Core.Path.{◌≡◌, refl, sym, ap, ap₂, ◌∙◌, subst}
use Prim.Native.Nat.{ℕ, zero, suc, ◌+◌, ◌≤◌, ◌<◌, zero-le}
use native.Mathlib.Nat.{le_refl, le_of_suc-le-suc, not-suc-le-zero, add-zero, zero-add, suc-add, add-suc}
use native.Mathlib.Omega.{arith}
use native.Mathlib.Decide.{ℕ_discrete}
use mathlib.Core.Bool.{Bool, true, false, cond, not, ◌&&◌, ◌||◌, or-false, or_assoc}
use mathlib.Core.List.{List, [], ◌∷◌, map}
use lib.ListN.{length, get_or, length-append}
use lib.Dec.{T, eqb, leb}
use borrow.Author.Tests.{eqb-true, eqb-false, eq-eqb, ne_eqb, leb-true, le-leb}
use Rattle.std.specs.Prelude.{if◌then◌else◌}
use Rattle.model.specs.Choice.{◌⇒◌, every}
use Rattle.model.specs.Sets.{Set, put, all, some, count, members, tabulate, tabulate_from}
use Rattle.model.specs.Words.{between}
use Rattle.model.specs.WellFormed.{Each, nil, cons}

-- ---- tests

pub clash {ℓ} : {A : Type ℓ} {b : Bool} → b ≡ true → b ≡ false → A
clash {A} p q = absurd (subst T (sym p ∙ q) tt)

pub and_left : (a b : Bool) → (a && b) ≡ true → a ≡ true
and_left true b e = refl
and_left false b e = e

pub and_right : (a b : Bool) → (a && b) ≡ true → b ≡ true
and_right true b e = e
and_right false b e = clash e refl

pub and_in : {a b : Bool} → a ≡ true → b ≡ true → (a && b) ≡ true
and_in p q = rw (p, q)

pub or_left : {a : Bool} (b : Bool) → a ≡ true → (a || b) ≡ true
or_left b p = rw p

pub or_right : (a : Bool) {b : Bool} → b ≡ true → (a || b) ≡ true
or_right true p = refl
or_right false p = p

pub or_case : {P : Type 0} (a b : Bool) → (a || b) ≡ true → (a ≡ true → P) → (b ≡ true → P) → P
or_case true b e f g = f refl
or_case false b e f g = g e

pub or_none_left : (a b : Bool) → (a || b) ≡ false → a ≡ false
or_none_left true b e = e
or_none_left false b e = refl

pub or_none_right : (a b : Bool) → (a || b) ≡ false → b ≡ false
or_none_right true b e = clash refl e
or_none_right false b e = e

pub implies_in : (a b : Bool) → (a ≡ true → b ≡ true) → (a ⇒ b) ≡ true
implies_in true b f = f refl
implies_in false b f = refl

pub implies_out : (a b : Bool) → (a ⇒ b) ≡ true → a ≡ true → b ≡ true
implies_out true b e h = e
implies_out false b e h = clash h refl

pub not_in : {b : Bool} → b ≡ false → not b ≡ true
not_in e = rw e

pub not_out : (b : Bool) → not b ≡ true → b ≡ false
not_out true e = sym e
not_out false e = refl

pub not_out_false : (b : Bool) → not b ≡ false → b ≡ true
not_out_false true e = refl
not_out_false false e = sym e

-- a test is decided
pub decide : {P : Type 0} (b : Bool) → (b ≡ true → P) → (b ≡ false → P) → P
decide true f g = f refl
decide false f g = g refl

-- what is never true is false
pub is_false : (b : Bool) → (b ≡ true → ⊥) → b ≡ false
is_false true f = absurd (f refl)
is_false false f = refl

-- tests that imply each other are equal
pub same_test : (p q : Bool) → (p ≡ true → q ≡ true) → (q ≡ true → p ≡ true) → p ≡ q
same_test true q f g = sym (f refl)
same_test false q f g = sym (is_false q (λ e. clash (g e) refl))

pub between_in : (low high k : ℕ) → low ≤ k → k ≤ high → between low high k ≡ true
between_in low high k p q = and_in (le-leb low k p) (le-leb k high q)

pub between_low : (low high k : ℕ) → between low high k ≡ true → low ≤ k
between_low low high k e = leb-true low k (and_left (leb low k) (leb k high) e)

pub between_high : (low high k : ℕ) → between low high k ≡ true → k ≤ high
between_high low high k e = leb-true k high (and_right (leb low k) (leb k high) e)

-- every test of a list
pub every_in : {bs : List Bool} → Each (λ b. b ≡ true) bs → every bs ≡ true
every_in nil = refl
every_in (cons p e) = and_in p (every_in e)

pub every_out : (bs : List Bool) → every bs ≡ true → Each (λ b. b ≡ true) bs
every_out [] e = nil
every_out (b ∷ bs) e = cons (and_left b (every bs) e) (every_out bs (and_right b (every bs) e))

-- ---- choice by a test

-- what is shown of both branches is shown of the choice
pub if_law {ℓ} : {A : Type ℓ} (P : A → Type 0) (b : Bool) (v w : A) → (b ≡ true → P v) → (b ≡ false → P w) → P (cond b v w)
if_law P true v w f g = f refl
if_law P false v w f g = g refl

pub then_out : (b v w : Bool) → (if b then v else w) ≡ true → b ≡ true → v ≡ true
then_out true v w e h = e
then_out false v w e h = clash h refl

pub else_out : (b v w : Bool) → (if b then v else w) ≡ true → b ≡ false → w ≡ true
else_out true v w e h = clash refl h
else_out false v w e h = e

-- what is shown of the new value, and of the old one elsewhere, is shown of a function with another value at x
pub put_law : {A : Type 0} (P : A → Type 0) (f : ℕ → A) (x : ℕ) (v : A) (y : ℕ) → (y ≡ x → P v) → ((y ≡ x → ⊥) → P (f y)) → P (put f x v y)
put_law P f x v y p q = if_law P (eqb y x) v (f y) (λ e. p (eqb-true y x e)) (λ e. q (eqb-false y x e))

pub put_each : {A : Type 0} (P : ℕ → A → Type 0) (f : ℕ → A) (x : ℕ) (v : A) → P x v → ((y : ℕ) → (y ≡ x → ⊥) → P y (f y)) → (y : ℕ) → P y (put f x v y)
put_each P f x v p q y = put_law (P y) f x v y (λ e. rw e p) (q y)

pub put_here : {A : Type 0} (f : ℕ → A) (x : ℕ) (v : A) → put f x v x ≡ v
put_here f x v = rw (eq-eqb x x refl)

pub put_else : {A : Type 0} (f : ℕ → A) (x : ℕ) (v : A) (y : ℕ) → (y ≡ x → ⊥) → put f x v y ≡ f y
put_else f x v y n = rw (ne_eqb y x n)

-- ---- the numbers below n that pass a test

pub all_in : (n : ℕ) (S : Set) → ((i : ℕ) → i < n → S i ≡ true) → all n S ≡ true
unfolding all
all_in zero S f = refl
all_in (suc n) S f = and_in (all_in n S (λ i h. f i (omega arith))) (f n (le_refl (suc n)))

pub all_out : (n : ℕ) (S : Set) → all n S ≡ true → (i : ℕ) → i < n → S i ≡ true
unfolding all
all_out zero S t i h = absurd (not-suc-le-zero h)
all_out (suc n) S t i h =
    elim (ℕ_discrete i n) [
      | yes e ↦ ap S e ∙ and_right (all n S) (S n) t
      | no d ↦ all_out n S (and_left (all n S) (S n) t) i (omega arith)
    ]

pub some_in : (n : ℕ) (S : Set) (i : ℕ) → i < n → S i ≡ true → some n S ≡ true
unfolding some
some_in zero S i h t = absurd (not-suc-le-zero h)
some_in (suc n) S i h t =
    elim (ℕ_discrete i n) [
      | yes e ↦ or_right (some n S) (ap S (sym e) ∙ t)
      | no d ↦ or_left (S n) (some_in n S i (omega arith) t)
    ]

pub some_out : (n : ℕ) (S : Set) → some n S ≡ true → (i : ℕ) × (i < n) × (S i ≡ true)
unfolding some
some_out zero S t = clash t refl
some_out (suc n) S t =
    or_case (some n S) (S n) t
    (λ s. let p = some_out n S s in (p.0, omega arith, p.2))
    (λ s. (n, le_refl (suc n), s))

pub some_none : (n : ℕ) (S : Set) → some n S ≡ false → (i : ℕ) → i < n → S i ≡ false
some_none n S e i h = is_false (S i) (λ t. clash (some_in n S i h t) e)

pub some_cong : (n : ℕ) (S R : Set) → ((z : ℕ) → z < n → S z ≡ R z) → some n S ≡ some n R
unfolding some
some_cong zero S R f = refl
some_cong (suc n) S R f = ap₂ ◌||◌ (some_cong n S R (λ z h. f z (omega arith))) (f n (le_refl (suc n)))

-- below n, or from n on
pub some_parts : (n k : ℕ) (S : Set) → some (n + k) S ≡ (some n S || some k (λ z. S (n + z)))
unfolding some
some_parts n zero S = rw (add-zero n) (sym (or-false (some n S)))
some_parts n (suc k) S = rw (add-suc n k) (ap (λ (b : Bool). b || S (n + k)) (some_parts n k S) ∙ or_assoc (some n S) (some k (λ z. S (n + z))) (S (n + k)))

-- ---- counts

unfoldable pub one : Bool → ℕ
one b = if b then 1 else 0

one_le : (b : Bool) → one b ≤ 1
unfolding one
one_le true = le_refl 1
one_le false = zero-le

one_mono : (a b : Bool) → (a ≡ true → b ≡ true) → one a ≤ one b
unfolding one
one_mono true b f = rw (f refl) (le_refl 1)
one_mono false b f = zero-le

one_more_lem : (a b : Bool) → a ≡ false → b ≡ true → one a < one b
unfolding one
one_more_lem a b s t = rw (s, t) (le_refl 1)

pub count_le : (n : ℕ) (S : Set) → count n S ≤ n
unfolding count one
count_le zero S = zero-le
count_le (suc n) S = omega (arith, count_le n S, one_le (S n))

pub count_none : (n : ℕ) (S : Set) → ((z : ℕ) → z < n → S z ≡ false) → count n S ≡ 0
unfolding count
count_none zero S f = refl
count_none (suc n) S f = rw (f n (le_refl (suc n))) (ap (λ (k : ℕ). k + 0) (count_none n S (λ z h. f z (omega arith))))

pub count_all : (n : ℕ) (S : Set) → ((z : ℕ) → z < n → S z ≡ true) → count n S ≡ n
unfolding count
count_all zero S f = refl
count_all (suc n) S f = rw (f n (le_refl (suc n))) (omega (arith, count_all n S (λ z h. f z (omega arith))))

pub map_at : (f : ℕ → ℕ) (l : List ℕ) (i : ℕ) → i < length l → get_or (map f l) i 0 ≡ f (get_or l i 0)
map_at f [] i h = absurd (not-suc-le-zero h)
map_at f (x ∷ l) zero h = refl
map_at f (x ∷ l) (suc i) h = map_at f l i (le_of_suc-le-suc h)

pub length_members : (n : ℕ) (S : Set) → length (members n S) ≡ count n S
unfolding members count
length_members zero S = refl
length_members (suc n) S = simp length-append (ap₂ (λ (a b : ℕ). a + b) (length_members n S) (go (S n)))
  where
    go : (b : Bool) → length (if b then n ∷ [] else []) ≡ (if b then 1 else 0)
    go true = refl
    go false = refl

pub count_cong : (n : ℕ) (S R : Set) → ((z : ℕ) → z < n → S z ≡ R z) → count n S ≡ count n R
unfolding count
count_cong zero S R f = refl
count_cong (suc n) S R f = ap₂ (λ (x : ℕ) (b : Bool). x + (if b then 1 else 0)) (count_cong n S R (λ z h. f z (omega arith))) (f n (le_refl (suc n)))

pub count_parts : (n k : ℕ) (S : Set) → count (n + k) S ≡ count n S + count k (λ z. S (n + z))
unfolding count one
count_parts n zero S = ap (λ (i : ℕ). count i S) (add-zero n) ∙ sym (add-zero (count n S))
count_parts n (suc k) S =
    rw (add-suc n k) (let e : count (n + k) S ≡ count n S + count k (λ z. S (n + z)) = count_parts n k S in omega (arith, one_le (S (n + k))))

-- where at each number p and q together count as often as r
pub count_add : (n : ℕ) (P Q R : Set) → ((z : ℕ) → z < n → one (R z) ≡ one (P z) + one (Q z)) → count n R ≡ count n P + count n Q
unfolding count one
count_add zero P Q R h = refl
count_add (suc n) P Q R h =
    let here : one (R n) ≡ one (P n) + one (Q n) = h n (le_refl (suc n)) in
    let rest : count n R ≡ count n P + count n Q = count_add n P Q R (λ z l. h z (omega arith)) in
    omega arith

-- at most one member
pub count_one : (n : ℕ) (S : Set) → ((y z : ℕ) → y < n → z < n → S y ≡ true → S z ≡ true → y ≡ z) → count n S ≤ 1
unfolding count one
count_one zero S h = zero-le
count_one (suc n) S h =
    decide (S n)
    (λ e.
    let none : count n S ≡ 0 = count_none n S (λ z l. is_false (S z) (λ q. let i = h z n (omega arith) (le_refl (suc n)) q e in absurd (omega arith))) in
    omega (arith, one_le (S n)))
    (λ e. rw e (let i = count_one n S (λ y z hy hz. h y z (omega arith) (omega arith)) in omega arith))

module _ (S R : Set) where
  pub count_mono : (n : ℕ) → ((i : ℕ) → i < n → S i ≡ true → R i ≡ true) → count n S ≤ count n R
  unfolding count one
  count_mono zero f = zero-le
  count_mono (suc n) f = omega (arith, count_mono n (λ i h. f i (omega arith)), one_mono (S n) (R n) (f n (le_refl (suc n))))

  -- a part that lacks a member has fewer
  pub count_more : (n : ℕ) → ((i : ℕ) → i < n → S i ≡ true → R i ≡ true) → (b : ℕ) → b < n → S b ≡ false → R b ≡ true → count n S < count n R
  unfolding count one
  count_more zero f b h s t = absurd (not-suc-le-zero h)
  count_more (suc n) f b h s t =
      elim (ℕ_discrete b n) [
        | yes e ↦
            omega (arith, count_mono n (λ i l. f i (omega arith)), one_more_lem (S n) (R n) (ap S (sym e) ∙ s) (ap R (sym e) ∙ t))
        | no d ↦
            omega (arith, count_more n (λ i l. f i (omega arith)) b (omega arith) s t, one_mono (S n) (R n) (f n (le_refl (suc n))))
      ]

-- a member is counted
pub count_some : (n : ℕ) (S : Set) (i : ℕ) → i < n → S i ≡ true → 0 < count n S
count_some n S i h t = let k = count_more (λ z. false) S n (λ z l e. clash e refl) i h refl t in omega arith

-- ---- tables of values

from_cong : {A : Type 0} (f g : ℕ → A) (i k : ℕ) → ((j : ℕ) → i ≤ j → j < i + k → f j ≡ g j) → tabulate_from i k f ≡ tabulate_from i k g
unfolding tabulate_from
from_cong f g i zero e = refl
from_cong f g i (suc k) e =
    ap₂ (λ x xs. x ∷ xs) (e i (omega arith) (omega arith)) (from_cong f g (suc i) k (λ j h l. e j (omega arith) (omega arith)))

pub tabulate_cong : {A : Type 0} (f g : ℕ → A) (k : ℕ) → ((j : ℕ) → j < k → f j ≡ g j) → tabulate k f ≡ tabulate k g
tabulate_cong f g k e = from_cong f g 0 k (λ j h l. e j (omega arith))

-- shifting the start
from_suc : {A : Type 0} (f : ℕ → A) (i k : ℕ) → tabulate_from (suc i) k f ≡ tabulate_from i k (λ j. f (suc j))
unfolding tabulate_from
from_suc f i zero = refl
from_suc f i (suc k) = ap (λ xs. f (suc i) ∷ xs) (from_suc f (suc i) k)

pub tabulate_get_d : {A : Type 0} (d : A) (l : List A) → tabulate (length l) (λ j. get_or l j d) ≡ l
unfolding tabulate_from
tabulate_get_d d [] = refl
tabulate_get_d d (x ∷ xs) = ap (λ ys. x ∷ ys) (from_suc (λ j. get_or (x ∷ xs) j d) 0 (length xs) ∙ tabulate_get_d d xs)

length_from : {A : Type 0} (f : ℕ → A) (i k : ℕ) → length (tabulate_from i k f) ≡ k
unfolding tabulate_from
length_from f i zero = refl
length_from f i (suc k) = ap suc (length_from f (suc i) k)

pub length_tabulate : {A : Type 0} (f : ℕ → A) (k : ℕ) → length (tabulate k f) ≡ k
length_tabulate f k = length_from f 0 k

get_d_from : {A : Type 0} (f : ℕ → A) (d : A) (i k j : ℕ) → j < k → get_or (tabulate_from i k f) j d ≡ f (i + j)
unfolding tabulate_from
get_d_from f d i zero j h = absurd (not-suc-le-zero h)
get_d_from f d i (suc k) zero h = ap f (sym (add-zero i))
get_d_from f d i (suc k) (suc j) h = get_d_from f d (suc i) k j (le_of_suc-le-suc h) ∙ ap f (suc-add i j ∙ sym (add-suc i j))

pub get_d_tabulate : {A : Type 0} (f : ℕ → A) (d : A) (k j : ℕ) → j < k → get_or (tabulate k f) j d ≡ f j
get_d_tabulate f d k j h = get_d_from f d 0 k j h ∙ ap f (zero-add j)

beyond_from : {A : Type 0} (f : ℕ → A) (d : A) (i k j : ℕ) → k ≤ j → get_or (tabulate_from i k f) j d ≡ d
unfolding tabulate_from
beyond_from f d i zero j h = refl
beyond_from f d i (suc k) zero h = absurd (not-suc-le-zero h)
beyond_from f d i (suc k) (suc j) h = beyond_from f d (suc i) k j (le_of_suc-le-suc h)

pub beyond_tabulate : {A : Type 0} (f : ℕ → A) (d : A) (k j : ℕ) → k ≤ j → get_or (tabulate k f) j d ≡ d
beyond_tabulate f d k j h = beyond_from f d 0 k j h
