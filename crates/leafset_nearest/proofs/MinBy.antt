-- What `sets::members(set).min_by_key(..)` finds: the nearest of the set.
use mathlib.Core.Path.{◌≡◌, refl, sym, ap, ap₂, ◌∙◌, subst}
use mathlib.Core.List.{List, [], ◌∷◌}
use Prim.Native.Nat.{ℕ, ◌<◌}
use native.Mathlib.Omega.{arith}
use denote.Ref.{Bor}
use denote.Param.Members.{Mut}
use Rattle.std.specs.Prelude.{Option, None, Some}
use Rattle.std.specs.Iterator.{YieldsFirstBy, Yields, KeyTurn, CallableInMinByKey, PicksMinByKey}
use Rattle.std.proofs.Common.{Ordering}
use Rattle.std.specs.declared.cmp.Ordering.TheVariants.{Less, Equal, Greater}
use Rattle.std.specs.Ordering.{nat_cmp, min_by_ordering}
use Rattle.std.specs.Cmp.{ranked}
use Rattle.std.specs.List.{FoldsTo}
use Rattle.std.specs.Fn.{CalledAt, TakesAt}
use Rattle.model.specs.Sets.{none_node, members, of_bits}
use Rattle.model.specs.declared.values.NodeNumber.{NodeNumber}
use Rattle.model.proofs.Bits.{bit_below}
use Rattle.sets.specs.Within.{Within}
use Rattle.sets.specs.declared.iter.Iter.{Iter}
use Rattle.sets.proofs.Bits.{Rising, none_left}
use Rattle.sets.proofs.Turns.{turn, turn_first, turn_below, turn_rising, no_more}
use Rattle.leafset_nearest.specs.Span.{Found, Nearest}
use Rattle.leafset_nearest.proofs.Pick.{Pair, pick, picked, pick_next, pick_same, pick_end, found_least}

abbrev left : Iter → List ℕ
left s = members 64 (of_bits s.rest)

abbrev steps : Iter → Option NodeNumber → Iter → Type 0
steps = YieldsFirstBy (λ (y : NodeNumber). y.0) left

-- a closure f that computes m of each node below n
module _ {F : Type 0} (g : Mut F (Bor NodeNumber × Unit {0}) ℕ) (f : F) (n bound : ℕ) (m : ℕ → ℕ)
    (takes : (y : NodeNumber) → y.0 < n → TakesAt g f y)
    (gives : (y : NodeNumber) (k : ℕ) (h : F) → CalledAt g f y k h → (h ≡ f) × (k ≡ m y.0))
    (room : (y : ℕ) → m y < bound) where
  abbrev State : Type 0
  State = (F × ℕ) × NodeNumber

  abbrev turns : State → NodeNumber → State → Type 0
  turns = KeyTurn min_by_ordering min_by_ordering g nat_cmp

  abbrev pair : State → Pair
  pair p = (p.1.0, p.0.1)

  low_after : (s : Iter) (xs : List NodeNumber) (t : Iter) → Yields steps s xs t → Rising n s.rest → Rising n t.rest
  low_after s [] t e i = subst (λ (u : Iter). Rising n u.rest) e i
  low_after s (x ∷ xs) t e i = low_after e.0 xs t e.2 (turn_rising i (turn s e.0 e.1))

  same_after : (p : State) (xs : List NodeNumber) (q : State) → FoldsTo turns p xs q → p.0.0 ≡ f → q.0.0 ≡ f
  same_after p [] q e i = subst (λ (r : State). r.0.0 ≡ f) e i
  same_after p (x ∷ xs) q e i = same_after e.0 xs q e.2 (turned p x e.0 i e.1)
    where
      turned : (p : State) (x : NodeNumber) (q : State) → p.0.0 ≡ f → turns p x q → q.0.0 ≡ f
      turned p x q i t = (gives x t.0 q.0.0 (subst (λ (h : F). CalledAt g h x t.0 q.0.0) i t.2)).0

  pub callable : (s : Iter) → Within n s.rest → CallableInMinByKey steps g nat_cmp s f
  callable s w x t e =
      let i : Rising n s.rest = record { fits = s.word; low = w } in
      let r = turn s t e in (
        takes x (turn_below i r),
        λ k h called. record {
          at = λ xs u q y v ys folds next.
              subst (λ (h : F). TakesAt g h y) (sym (same_after ((h, k), x) xs q folds (gives x k h called).0))
              (takes y (turn_below (low_after t xs u ys (turn_rising i r)) (turn u v next)));
        },
      )

  -- one turn of the method is a turn of `pick`
  step : (p : State) (x : NodeNumber) (q : State) (k l : List ℕ) → p.0.0 ≡ f → k ≡ x.0 ∷ l → turns p x q → pick m l (pair q) ≡ pick m k (pair p)
  step p x q k l i e t = go t.1 t.3 t.4 t.5
    where
      far : t.0 ≡ m x.0
      far = (gives x t.0 q.0.0 (subst (λ (h : F). CalledAt g h x t.0 q.0.0) i t.2)).1

      go : (o : Ordering) → nat_cmp p.0.1 t.0 ≡ o → q.0.1 ≡ min_by_ordering o p.0.1 t.0 → q.1 ≡ min_by_ordering o p.1 x
          → pick m l (pair q) ≡ pick m k (pair p)
      go Less c a b = ap₂ (λ (y : NodeNumber) (v : ℕ). pick m l (y.0, v)) b a
          ∙ pick_same m k l x.0 p.1.0 p.0.1 t.0 e far (omega (arith, ranked p.0.1 t.0 Less (sym c)))
      go Equal c a b = ap₂ (λ (y : NodeNumber) (v : ℕ). pick m l (y.0, v)) b a
          ∙ pick_same m k l x.0 p.1.0 p.0.1 t.0 e far (omega (arith, ranked p.0.1 t.0 Equal (sym c)))
      go Greater c a b = ap₂ (λ (y : NodeNumber) (v : ℕ). pick m l (y.0, v)) b a ∙ pick_next m k l x.0 p.1.0 p.0.1 t.0 e far (ranked p.0.1 t.0 Greater (sym c))

  run : (s : Iter) (xs : List NodeNumber) (t : Iter) (p q : State) → Yields steps s xs t → FoldsTo turns p xs q → p.0.0 ≡ f
      → pick m (left t) (pair q) ≡ pick m (left s) (pair p)
  run s [] t p q e h i = ap₂ (λ (u : Iter) (r : State). pick m (left u) (pair r)) (sym e) (sym h)
  run s (x ∷ xs) t p q e h i = run e.0 xs t h.0 q e.2 h.2 (same_after p (x ∷ []) h.0 (h.0, h.1, refl) i) ∙ step p x h.0 (left s) (left e.0) i e.1 h.1

  first : (s t : Iter) (x : NodeNumber) (k : ℕ) (h : F) → left s ≡ x.0 ∷ left t → CalledAt g f x k h
      → pick m (left t) (x.0, k) ≡ pick m (left s) (none_node, bound)
  first s t x k h e c = let far = (gives x k h c).1 in pick_next m (left s) (left t) x.0 none_node bound k e far (omega (arith, far, room x.0))

  pub found_nearest : (s : Iter) (r : Option NodeNumber) → PicksMinByKey steps g nat_cmp s f r → Nearest (of_bits s.rest) m r
  found_nearest s None h = none_left (no_more s (subst (λ (t : Iter). left t ≡ []) (sym h.1.1) h.1.2.0, tt {0}))
  found_nearest s (Some y) h =
      let d = h.5.1 in
      let q : State = (h.4, y) in
      let start : State = ((h.3, h.2), h.0) in
      let all = run d.1.0 h.1 d.0 start q d.1.2 h.7 (gives h.0 h.2 h.3 h.6).0 ∙ first s d.1.0 h.0 h.2 h.3 d.1.1 h.6 in
      found_least h.0.0 (turn_first {n = 64} (record { fits = s.word; low = λ z. bit_below 64 s.rest z s.word }) (turn s d.1.0 d.1.1)).member
      (subst (Found (of_bits s.rest) m) (sym (ap (λ (p : Pair). p.0) (pick_end m (left d.0) (pair q) d.2.0 ∙ all)))
      (picked m (of_bits s.rest) bound (λ z e. room z) 64 (λ z e. bit_below 64 s.rest z s.word e)))
