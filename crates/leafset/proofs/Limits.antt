-- Taking the nearest out of a set, one after another: the limit below which the nearest lie.
use mathlib.Core.Path.{◌≡◌, refl, sym, ◌∙◌, subst}
use mathlib.Core.Bool.{Bool, true, false, not, ◌&&◌}
use Prim.Native.Nat.{ℕ, ◌+◌, ◌≤◌, ◌<◌}
use native.Mathlib.Nat.{not-suc-le-zero}
use native.Mathlib.Omega.{arith}
use native.Mathlib.Decide.{ℕ_discrete}
use lib.Dec.{eqb, ltb}
use borrow.Author.Tests.{ltb-true, ltb-false, lt-ltb, le-ltb}
use Rattle.model.specs.Sets.{Set, without, count}
use Rattle.model.proofs.Laws.{clash, is_false, decide, and_in, and_left, and_right, not_in, not_out, count_none, count_mono, count_more}
use Rattle.leafset_nearest.specs.Span.{Least, Nearest}
use Rattle.std.specs.Prelude.{Option, None, Some}
use Rattle.std.specs.Option.{IsSome}
use Rattle.model.specs.declared.values.NodeNumber.{NodeNumber}
use Rattle.leafset.specs.Near.{is_near, IsLimit}
use Rattle.sets.proofs.Ascending.{without_here, without_else, count_split, count_without}

-- ---- the nearest, taken out one after another

-- k members of S, of numbers below 64, are taken, those of R are left
pub record Taken (S : Set) (m : ℕ → ℕ) (R : Set) (limit k : ℕ) : Type 0 where
  pub low : (y : ℕ) → S y ≡ true → y < 64
  pub part : (y : ℕ) → R y ≡ true → S y ≡ true
  pub size : count 64 R + k ≡ count 64 S
  pub taken : (y : ℕ) → S y ≡ true → R y ≡ false → m y < limit
  pub left : (y : ℕ) → R y ≡ true → limit ≤ m y + 1
  -- the last one taken
  pub last : 0 < limit → (w : ℕ) × (S w ≡ true) × (R w ≡ false) × (m w + 1 ≡ limit)

pub taken_none : (S : Set) (m : ℕ → ℕ) → ((y : ℕ) → S y ≡ true → y < 64) → Taken S m S 0 0
taken_none S m low = record {
  low = low;
  part = λ y e. e;
  size = omega arith;
  taken = λ y t f. clash t f;
  left = λ y e. omega arith;
  last = λ h. absurd (not-suc-le-zero h);
}

module _ {S : Set} {m : ℕ → ℕ} {R : Set} {limit k : ℕ} (t : Taken S m R limit k) where
  -- while fewer are taken than S has, there is a nearest of the rest
  pub taken_some : k < count 64 S → (r : Option NodeNumber) → Nearest R m r → IsSome r
  taken_some h None f = absurd (omega (arith, count_none 64 R (λ y l. f y), t.size))
  taken_some h (Some b) l = refl

  pub taken_more : {b : ℕ} → Least R m b → Taken S m (without R b) (m b + 1) (k + 1)
  taken_more {b} l = record {
    low = t.low;
    part = λ y e. t.part y (and_left (R y) (not (eqb y b)) e);
    size = omega (arith, t.size, count_without 64 R b (t.low b (t.part b l.member)) l.member);
    taken =
        λ y e f. elim (ℕ_discrete y b) [
          | yes q ↦ rw q (omega arith)
          | no q ↦ omega (arith, t.taken y e (sym (without_else R b y q) ∙ f), t.left b l.member)
        ];
    left = λ y e. omega (arith, l.least y (and_left (R y) (not (eqb y b)) e));
    last = λ h. (b, t.part b l.member, without_here R b, refl);
  }

  abbrev gone : Set
  gone y = S y && not (R y)

  count_gone : count 64 gone ≡ k
  count_gone = omega (arith, count_split 64 S R t.part, t.size)

  abbrev nearer : ℕ → Set
  nearer y z = S z && ltb (m z) (m y)

  -- those nearer than one below the limit are taken, and the last one taken is not one of them
  below : (y : ℕ) → m y < limit → count 64 (nearer y) < k
  below y h =
      let w = t.last (omega arith) in
      subst (λ (c : ℕ). count 64 (nearer y) < c) count_gone
      (count_more (nearer y) gone 64
      (λ z l q.
      and_in (and_left (S z) (ltb (m z) (m y)) q)
      (not_in (is_false (R z) (λ r. omega (arith, t.left z r, ltb-true (m z) (m y) (and_right (S z) (ltb (m z) (m y)) q))))))
      w.0 (t.low w.0 w.1) (rw w.1 (le-ltb (m w.0) (m y) (omega (arith, w.3)))) (and_in w.1 (not_in w.2)))

  -- all that are taken are nearer than one at the limit or beyond
  beyond : (y : ℕ) → limit ≤ m y → k ≤ count 64 (nearer y)
  beyond y h =
      subst (λ (c : ℕ). c ≤ count 64 (nearer y)) count_gone
      (count_mono gone (nearer y) 64
      (λ z l q.
      let inside = and_left (S z) (not (R z)) q in
      and_in inside (lt-ltb (m z) (m y) (omega (arith, t.taken z inside (not_out (R z) (and_right (S z) (not (R z)) q)))))))

  pub taken_limit : IsLimit k S m limit
  taken_limit y e =
      decide (ltb (m y) limit)
      (λ h. h ∙ sym (lt-ltb (count 64 (nearer y)) k (below y (ltb-true (m y) limit h))))
      (λ h. h ∙ sym (le-ltb (count 64 (nearer y)) k (beyond y (ltb-false (m y) limit h))))

-- the members below the limit
pub limit_near : (many : ℕ) (S : Set) (m : ℕ → ℕ) (limit : ℕ) → IsLimit many S m limit
    → (r : Set) → ((y : ℕ) → r y ≡ (S y && ltb (m y) limit)) → (y : ℕ) → r y ≡ (S y && is_near many S m y)
limit_near many S m limit f r e y = e y ∙ go (S y) (f y)
  where
    go : (b : Bool) → (b ≡ true → ltb (m y) limit ≡ is_near many S m y) → (b && ltb (m y) limit) ≡ (b && is_near many S m y)
    go true g = g refl
    go false g = refl
