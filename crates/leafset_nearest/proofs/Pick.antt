-- A pass over the members of a set in rising order that keeps the best so far: what it finds.
use Rattle.std.proofs.Common.{◌≡◌, ℕ, zero, suc, ◌<◌, ◌≤◌, Bool, true, false, ltb, List, [], ◌∷◌, ◌++◌, sym, refl, ap, ◌∙◌, le_refl, not-suc-le-zero, arith}
use Rattle.std.proofs.Common.{ltb-false, ltb-true, le-ltb, lt-ltb, if◌then◌else◌}
use native.Mathlib.Decide.{ℕ_discrete}
use Rattle.model.specs.Sets.{Set, none_node, members}
use Rattle.model.proofs.Laws.{clash, is_false}
use Rattle.leafset_nearest.specs.Span.{Least, Found, nobody, found, Nearest}
use Rattle.std.specs.Prelude.{Option, None, Some}
use Rattle.model.specs.declared.values.NodeNumber.{NodeNumber}
use Rattle.sets.specs.Numbers.{number_or_none}

-- a node, and what is compared of it
abbrev pub Pair : Type 0
Pair = ℕ × ℕ

module _ (m : ℕ → ℕ) where
  abbrev pub better : Pair → ℕ → Pair
  better p y = if ltb (m y) p.1 then (y, m y) else p

  unfoldable pub pick : List ℕ → Pair → Pair
  pick [] p = p
  pick (y ∷ l) p = pick l (better p y)

  pick_append : (k l : List ℕ) (p : Pair) → pick (k ++ l) p ≡ pick l (pick k p)
  unfolding pick
  pick_append [] l p = refl
  pick_append (y ∷ k) l p = pick_append k l (better p y)

  -- a turn that takes the next node, and one that does not
  pub pick_next : (k l : List ℕ) (y b v f : ℕ) → k ≡ y ∷ l → f ≡ m y → f < v → pick l (y, f) ≡ pick k (b, v)
  unfolding pick
  pick_next k l y b v f e q h =
      ap (λ (g : ℕ). pick l (y, g)) q
      ∙ ap (λ (c : Bool). pick l (if c then (y, m y) else (b, v))) (sym (lt-ltb (m y) v (rw q at h)))
      ∙ ap (λ (k : List ℕ). pick k (b, v)) (sym e)

  pub pick_same : (k l : List ℕ) (y b v f : ℕ) → k ≡ y ∷ l → f ≡ m y → v ≤ f → pick l (b, v) ≡ pick k (b, v)
  unfolding pick
  pick_same k l y b v f e q h =
      ap (λ (c : Bool). pick l (if c then (y, m y) else (b, v))) (sym (le-ltb (m y) v (rw q at h))) ∙ ap (λ (k : List ℕ). pick k (b, v)) (sym e)

  pub pick_end : (l : List ℕ) (p : Pair) → l ≡ [] → p ≡ pick l p
  unfolding pick
  pick_end l p e = ap (λ (k : List ℕ). pick k p) (sym e)

  -- what is kept after the numbers below n: nobody, or the best of them
  record Best (S : Set) (n b : ℕ) : Type 0 where
    below : b < n
    member : S b ≡ true
    least : (y : ℕ) → y < n → S y ≡ true → m b ≤ m y
    lowest : (y : ℕ) → y < b → S y ≡ true → m b < m y

  data Kept (S : Set) (bound n : ℕ) : Pair → Type 0 where
    none : ((y : ℕ) → y < n → S y ≡ false) → Kept S bound n (none_node, bound)
    some : {b : ℕ} → Best S n b → Kept S bound n (b, m b)

  module _ (S : Set) (bound : ℕ) (room : (y : ℕ) → S y ≡ true → m y < bound) where
    passed : {n : ℕ} {p : Pair} → S n ≡ false → Kept S bound n p → Kept S bound (suc n) p
    passed {n} e (none f) = none (λ y h. elim (ℕ_discrete y n) [ yes q ↦ ap S q ∙ e | no q ↦ f y (omega arith) ])
    passed {n} e (some {b} k) =
        some {b = b} (record {
          below = omega (arith, k.below);
          member = k.member;
          least = λ y h t. elim (ℕ_discrete y n) [ yes q ↦ clash t (ap S q ∙ e) | no q ↦ k.least y (omega arith) t ];
          lowest = k.lowest;
        })

    met : {n : ℕ} {p : Pair} → S n ≡ true → Kept S bound n p → Kept S bound (suc n) (better p n)
    met {n} e (none f) =
        rw (lt-ltb (m n) bound (room n e)) (some (record {
          below = le_refl (suc n);
          member = e;
          least = λ y h t. elim (ℕ_discrete y n) [ yes q ↦ rw q (le_refl (m n)) | no q ↦ clash t (f y (omega arith)) ];
          lowest = λ y h t. clash t (f y h);
        }))
    met {n} e (some {b} k) = go (ltb (m n) (m b)) refl
      where
        go : (c : Bool) → ltb (m n) (m b) ≡ c → Kept S bound (suc n) (if c then (n, m n) else (b, m b))
        go true l =
            let h : m n < m b = ltb-true (m n) (m b) l in
            some (record {
              below = le_refl (suc n);
              member = e;
              least = λ y g t. elim (ℕ_discrete y n) [ yes q ↦ rw q (le_refl (m n)) | no q ↦ omega (arith, k.least y (omega arith) t) ];
              lowest = λ y g t. omega (arith, k.least y g t);
            })
        go false l =
            let h : m b ≤ m n = ltb-false (m n) (m b) l in
            some {b = b} (record {
              below = omega (arith, k.below);
              member = k.member;
              least = λ y g t. elim (ℕ_discrete y n) [ yes q ↦ rw q h | no q ↦ k.least y (omega arith) t ];
              lowest = k.lowest;
            })

    kept : (n : ℕ) → Kept S bound n (pick (members n S) (none_node, bound))
    unfolding members pick
    kept zero = none (λ y h. absurd (not-suc-le-zero h))
    kept (suc n) = rw (pick_append (members n S)) (go (S n) refl (kept n))
      where
        go : (c : Bool) → S n ≡ c
            → Kept S bound n (pick (members n S) (none_node, bound))
            → Kept S bound (suc n) (pick (if c then n ∷ [] else []) (pick (members n S) (none_node, bound)))
        go true e k = met e k
        go false e k = passed e k

    pub picked : (n : ℕ) → ((y : ℕ) → S y ≡ true → y < n) → Found S m (pick (members n S) (none_node, bound)).0
    picked n low = go (kept n)
      where
        go : {p : Pair} → Kept S bound n p → Found S m p.0
        go (none f) = nobody (λ y. is_false (S y) (λ e. clash e (f y (low y e))))
        go (some k) = found (record { member = k.member; least = λ y e. k.least y (low y e) e; lowest = λ y e h. k.lowest y h e })

-- of a set with a member, the first is found
pub found_least : {S : Set} {m : ℕ → ℕ} {b : ℕ} (y : ℕ) → S y ≡ true → Found S m b → Least S m b
found_least y e (nobody f) = clash e (f y)
found_least y e (found l) = l

-- what is found, as a number
pub found_number : {S : Set} {m : ℕ → ℕ} (r : Option NodeNumber) → Nearest S m r → Found S m (number_or_none r)
found_number None f = nobody f
found_number (Some b) l = found l
