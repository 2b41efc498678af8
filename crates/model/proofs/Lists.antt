-- Laws of `Each`, that is of what holds of each element of a list, and of lists read by place.
use mathlib.Core.Path.{sym, ◌∙◌, subst}
use Prim.Native.Nat.{ℕ, zero, suc, ◌+◌, ◌<◌}
use native.Mathlib.Nat.{not-suc-le-zero, le_of_suc-le-suc, add-zero, zero-add, suc-add, add-suc}
use native.Mathlib.Omega.{arith}
use mathlib.Core.List.{List, [], ◌∷◌, ◌++◌, map}
use lib.ListN.{length, get_or, take, drop}
use Rattle.model.specs.WellFormed.{Each, nil, cons}

pub first : {A : Type 0} {P : A → Type 0} {a : A} {l : List A} → Each P (a ∷ l) → P a
first (cons p e) = p

pub rest : {A : Type 0} {P : A → Type 0} {a : A} {l : List A} → Each P (a ∷ l) → Each P l
rest (cons p e) = e

pub each_of : {A : Type 0} {P : A → Type 0} (d : A) (l : List A) → ((k : ℕ) → k < length l → P (get_or l k d)) → Each P l
each_of d [] f = nil
each_of d (a ∷ l) f = cons (f 0 (omega arith)) (each_of d l (λ k h. f (suc k) (omega arith)))

pub each_at : {A : Type 0} {P : A → Type 0} {l : List A} → Each P l → (d : A) (k : ℕ) → k < length l → P (get_or l k d)
each_at nil d k h = absurd (not-suc-le-zero h)
each_at (cons p e) d zero h = p
each_at (cons p e) d (suc k) h = each_at e d k (le_of_suc-le-suc h)

pub each_append : {A : Type 0} {P : A → Type 0} {k l : List A} → Each P k → Each P l → Each P (k ++ l)
each_append nil f = f
each_append (cons p e) f = cons p (each_append e f)

pub each_left : {A : Type 0} {P : A → Type 0} (k l : List A) → Each P (k ++ l) → Each P k
each_left [] l e = nil
each_left (a ∷ k) l (cons p e) = cons p (each_left k l e)

pub each_right : {A : Type 0} {P : A → Type 0} (k l : List A) → Each P (k ++ l) → Each P l
each_right [] l e = e
each_right (a ∷ k) l (cons p e) = each_right k l e

pub each_take : {A : Type 0} {P : A → Type 0} {l : List A} (k : ℕ) → Each P l → Each P (take k l)
each_take zero e = nil
each_take (suc k) nil = nil
each_take (suc k) (cons p e) = cons p (each_take k e)

pub each_drop : {A : Type 0} {P : A → Type 0} {l : List A} (k : ℕ) → Each P l → Each P (drop k l)
each_drop zero e = e
each_drop (suc k) nil = nil
each_drop (suc k) (cons p e) = each_drop k e

pub each_imp : {A : Type 0} {P Q : A → Type 0} {l : List A} → ((a : A) → P a → Q a) → Each P l → Each Q l
each_imp f nil = nil
each_imp f (cons {a} p e) = cons (f a p) (each_imp f e)

pub each_map : {A B : Type 0} {P : A → Type 0} {Q : B → Type 0} {l : List A} (f : A → B) → ((a : A) → P a → Q (f a)) → Each P l → Each Q (map f l)
each_map f h nil = nil
each_map f h (cons {a} p e) = cons (h a p) (each_map f h e)

-- each of a list, with its place, counted from i
pub data Listed {A : Type 0} (P : ℕ → A → Type 0) : ℕ → List A → Type 0 where
  end : {i : ℕ} → Listed P i []
  item : {i : ℕ} {a : A} {l : List A} → P i a → Listed P (suc i) l → Listed P i (a ∷ l)

-- what is shown of each place of a list, and of the default at any place, is shown of what is read at a place
listed_from : {A : Type 0} (P : ℕ → A → Type 0) (d : A) → ((k : ℕ) → P k d) → {i : ℕ} {l : List A} → Listed P i l → (k : ℕ) → P (i + k) (get_or l k d)
listed_from P d f {i = i} end k = f (i + k)
listed_from P d f {i = i} (item {a = a} p e) zero = subst (λ (j : ℕ). P j a) (sym (add-zero i)) p
listed_from P d f {i = i} (item {l = l} p e) (suc k) = subst (λ (j : ℕ). P j (get_or l k d)) (suc-add i k ∙ sym (add-suc i k)) (listed_from P d f e k)

pub listed_at : {A : Type 0} (P : ℕ → A → Type 0) (d : A) → ((k : ℕ) → P k d) → {l : List A} → Listed P 0 l → (k : ℕ) → P k (get_or l k d)
listed_at P d f {l = l} e k = subst (λ (j : ℕ). P j (get_or l k d)) (zero-add k) (listed_from P d f e k)
