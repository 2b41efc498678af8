-- From point to point of rounds: what each turn keeps is kept, and what is in flight at the end of a round, or before, is delivered in the next.
use mathlib.Core.Path.{◌≡◌, sym, ap, ◌∙◌, subst}
use mathlib.Core.Logic.{◌⊎◌, inl, inr}
use Prim.Native.Nat.{ℕ, zero, suc, ◌+◌, ◌-◌, ◌≤◌, ◌<◌}
use native.Mathlib.Nat.{le_refl}
use native.Mathlib.Omega.{arith}
use mathlib.Core.List.{Memᴰ}
use Rattle.model.specs.Ring.{Ring, Message}
use Rattle.model.specs.Play.{after}
use Rattle.settle_rounds.proofs.Turns.{Delivered, Turn, stands, turns, flies_on, Arrival, Fair}

-- what holds at a point holds at a later one, or breaks between
until : (A B : ℕ → Type 0) (i d : ℕ) → A i → ((k : ℕ) → i ≤ k → k < i + d → A k → A (suc k) ⊎ B k) → A (i + d) ⊎ ((k : ℕ) × (i ≤ k) × (k < i + d) × B k)
until A B i zero a f = let e : i + 0 ≡ i = omega arith in inl (subst A (sym e) a)
until A B i (suc d) a f =
    let e : i + suc d ≡ suc (i + d) = omega arith in
    elim (until A B i d a (λ k p q. f k p (omega arith))) [
      | inr s ↦ inr (s.0, s.1, omega (arith, s.2), s.3)
      | inl h ↦ elim (f (i + d) (omega arith) (omega arith) h) [
        | inl g ↦ inl (subst A (sym e) g)
        | inr g ↦ inr (i + d, omega arith, omega arith, g)
      ]
    ]

pub until_at : (A B : ℕ → Type 0) (i f : ℕ) → i ≤ f → A i → ((k : ℕ) → i ≤ k → k < f → A k → A (suc k) ⊎ B k) → A f ⊎ ((k : ℕ) × (i ≤ k) × (k < f) × B k)
until_at A B i f h a g =
    let e : i + (f - i) ≡ f = omega arith in
    elim (until A B i (f - i) a (λ k p q. g k p (omega arith))) [
      | inl s ↦ inl (subst A e s)
      | inr s ↦ inr (s.0, s.1, omega (arith, s.2), s.3)
    ]

-- what each step keeps is kept
pub walk_to : (P : ℕ → Type 0) (i f : ℕ) → i ≤ f → P i → ((k : ℕ) → i ≤ k → k < f → P k → P (suc k)) → P f
walk_to P i f h p g = elim (until_at P (λ k. ⊥) i f h p (λ k a l q. inl (g k a l q))) [ inl q ↦ q | inr s ↦ absurd s.3 ]

module _ (at : ℕ → Ring) (b : ℕ → ℕ) (K : ℕ) (fair : Fair at b K) where
  pub rises : (j k : ℕ) → j ≤ k → k ≤ K → b j ≤ b k
  rises j k h l = walk_to (λ n. b j ≤ b n) j k h (le_refl (b j)) (λ n f g p. let o = fair.order n (omega arith) in omega arith)

  -- a message in flight stays so, or is delivered for good
  flies :
      (m : Message) (k : ℕ) → Memᴰ m (at k).messages → Turn (at k) (at (suc k))
      → Memᴰ m (at (suc k)).messages ⊎ (Delivered at m k)
  flies m k h (stands e) = inl (subst (λ (s : Ring). Memᴰ m s.messages) (sym e) h)
  flies m k h (turns e l runs is) =
      elim (flies_on (at k) m h e l) [
        | inl q ↦ inl (subst (λ (s : Ring). Memᴰ m s.messages) (sym is) q)
        | inr q ↦ inr (q.0, q.2, is ∙ ap (after (at k)) q.1)
      ]

  pub arrives : (i j : ℕ) → b 0 ≤ i → i ≤ b j → j < K → (m : Message) → Memᴰ m (at i).messages → Arrival at m i (b (suc j))
  arrives i j f l h m q =
      let up = fair.order j h in
      let top = rises (suc j) K (omega arith) (le_refl K) in
      elim (until_at (λ k. Memᴰ m (at k).messages) (λ k. Delivered at m k) i (b j) l q
      (λ k p g a. flies m k a (fair.turn k (omega arith) (omega arith)))) [
        | inr s ↦ (s.0, s.1, omega (arith, s.2), s.3)
        | inl a ↦ let s = fair.arrives j h m a in (s.0, omega (arith, s.1), s.2, s.3)
      ]
