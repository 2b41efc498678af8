-- The two passes over the nodes: how far they lie, and the farthest of those that are near enough.
use mathlib.Core.Path.{◌≡◌, refl, sym, ap, ◌∙◌}
use mathlib.Core.Logic.{◌⊎◌, inl, inr}
use mathlib.Core.Bool.{true, false}
use mathlib.Core.List.{List}
use Prim.Native.Nat.{ℕ, ◌+◌, ◌≤◌, ◌<◌, ◌^◌}
use native.Mathlib.Nat.{not-suc-le-zero}
use native.Mathlib.Omega.{arith}
use native.Mathlib.Decide.{ℕ_discrete}
use lib.ListN.{length, get_or, set, replicate, length-set, length-replicate, get_or-replicate}
use lib.Seq.{get_or-set_same, get_or-set_other}
use Rattle.model.specs.Key.{places, clockwise}
use Rattle.model.specs.Sets.{Set, without, lowest, of_bits}
use Rattle.model.proofs.Laws.{clash, and_left}
use Rattle.sets.specs.Rest.{IsRest}
use Rattle.sets.specs.Within.{Within}
use Rattle.sets.proofs.Ascending.{without_else}
use Rattle.sets.proofs.Bits.{Rising, rising_first, rising_below, rising_rest, rising_set, none_left}
use Rattle.call_reach.specs.Walks.{Distances, Greatest}

-- ---- the distances, as far as they are written

pub record Filling (keys : List ℕ) (S to : ℕ) (far : List ℕ) (rest : ℕ) : Type 0 where
  pub few : length keys ≤ 64
  pub rising : Rising (length keys) rest
  pub part : (y : ℕ) → of_bits rest y ≡ true → of_bits S y ≡ true
  pub room : length far ≡ 64
  pub members : (y : ℕ) → of_bits S y ≡ true → of_bits rest y ≡ false → get_or far y 0 ≡ clockwise (get_or keys y 0) to
  pub others : (y : ℕ) → y < 64 → of_bits S y ≡ false → get_or far y 0 ≡ places

pub filling_none : {keys : List ℕ} {S to : ℕ} → length keys ≤ 64 → Within (length keys) S → S < 2 ^ 64 → Filling keys S to (replicate 64 places) S
filling_none few low fits =
    record {
      few = few;
      rising = record { fits = fits; low = low };
      part = λ y e. e;
      room = length-replicate 64 places;
      members = λ y e f. clash e f;
      others = λ y h e. get_or-replicate {A = ℕ} 64 y places 0 h;
    }

module _ {keys : List ℕ} {S to : ℕ} {far : List ℕ} {rest : ℕ} (f : Filling keys S to far rest) where
  pub filling_end : rest ≡ 0 → Distances keys S to far
  filling_end e = record { room = f.room; members = λ y s. f.members y s (none_left e y); others = f.others }

  module _ (some : rest ≡ 0 → ⊥) (y : ℕ) (first : y ≡ lowest 64 (of_bits rest)) where
    pub filling_place : y < 64
    filling_place = omega (arith, f.few, rising_below f.rising some y first)

    pub filling_more : {v r : ℕ} → v ≡ clockwise (get_or keys y 0) to → IsRest rest r → Filling keys S to (set far y v) r
    filling_more {v} {r} is left =
        let here : of_bits S y ≡ true = f.part y (rising_first f.rising some y first).member in
        let others_are : of_bits r ≡ without (of_bits rest) y = rising_set f.rising left y first in
        record {
          few = f.few;
          rising = rising_rest f.rising left;
          part = λ z e. f.part z (and_left (of_bits rest z) _ (sym (ap (λ (T : Set). T z) others_are) ∙ e));
          room = length-set far y v ∙ f.room;
          members = λ z e g. elim (ℕ_discrete z y) [
            | yes q ↦ rw q (get_or-set_same far y v 0 (rw f.room filling_place) ∙ is)
            | no q ↦ get_or-set_other far y z v 0 q ∙ f.members z e (sym (without_else (of_bits rest) y z q) ∙ sym (ap (λ (T : Set). T z) others_are) ∙ g)
          ];
          others = λ z h e. elim (ℕ_discrete z y) [
            | yes q ↦ clash here (ap (of_bits S) (sym q) ∙ e)
            | no q ↦ get_or-set_other far y z v 0 q ∙ f.others z h e
          ];
        }

-- ---- the greatest, as far as it is looked for

pub greatest_none : (list : List ℕ) (limit : ℕ) → Greatest list 0 limit 0
greatest_none list limit = record { one_of = inl refl; above = λ i h l. absurd (not-suc-le-zero h) }

module _ {list : List ℕ} {n limit best : ℕ} (g : Greatest list n limit best) {near best' : ℕ} where
  -- the next number, or 0 where it is above the limit; and the greater of that and the best one
  pub greatest_more : ((get_or list n 0 ≤ limit) × (near ≡ get_or list n 0)) ⊎ ((limit < get_or list n 0) × (near ≡ 0))
      → ((best < near) × (best' ≡ near)) ⊎ ((near ≤ best) × (best' ≡ best)) → Greatest list (n + 1) limit best'
  greatest_more (inl p) (inl q) =
      record {
        one_of = inr (n, omega arith, omega arith, omega arith);
        above = λ i h l. elim (ℕ_discrete i n) [ yes e ↦ rw e (omega arith) | no e ↦ omega (arith, g.above i (omega arith) l) ];
      }
  greatest_more (inr p) (inl q) = absurd (omega arith)
  greatest_more p (inr q) =
      record {
        one_of = kept g.one_of;
        above = λ i h l. elim (ℕ_discrete i n) [ yes e ↦ at_next p e l | no e ↦ omega (arith, g.above i (omega arith) l) ];
      }
    where
      at_next : {i : ℕ} → ((get_or list n 0 ≤ limit) × (near ≡ get_or list n 0)) ⊎ ((limit < get_or list n 0) × (near ≡ 0))
          → i ≡ n → get_or list i 0 ≤ limit → get_or list i 0 ≤ best'
      at_next (inl c) e l = rw e (omega (arith, c.1, q.0, q.1))
      at_next (inr c) e l = absurd (let h : get_or list n 0 ≤ limit = rw e at l in omega (arith, c.0))

      kept : (best ≡ 0) ⊎ ((i : ℕ) × (i < n) × (get_or list i 0 ≡ best) × (best ≤ limit))
          → (best' ≡ 0) ⊎ ((i : ℕ) × (i < n + 1) × (get_or list i 0 ≡ best') × (best' ≤ limit))
      kept (inl e) = inl (q.1 ∙ e)
      kept (inr e) = inr (e.0, omega (arith, e.1), e.2 ∙ sym q.1, omega (arith, e.3))
