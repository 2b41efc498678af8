-- A value at each member of a set: the loop over the members, in rising order.
use mathlib.Core.Path.{◌≡◌, refl, sym, ap, ◌∙◌}
use mathlib.Core.Bool.{true, false, not}
use mathlib.Core.List.{List}
use Prim.Native.Nat.{ℕ, ◌^◌, ◌<◌}
use native.Mathlib.Omega.{arith}
use native.Mathlib.Decide.{ℕ_discrete}
use lib.Dec.{eqb}
use lib.ListN.{length, get_or, set, length-set}
use lib.Seq.{get_or-set_same, get_or-set_other}
use Rattle.model.specs.Sets.{Set, without, of_bits}
use Rattle.model.proofs.Laws.{clash, and_left}
use Rattle.model.proofs.Bits.{bit_below}
use Rattle.sets.proofs.Ascending.{without_else}
use Rattle.sets.proofs.Bits.{Rising, none_left}
use Rattle.sets.proofs.Turns.{Turn, turn_below, turn_first, turn_rising, turn_set}
use Rattle.audit_parting.specs.Groups.{Filled}

-- the value stands at the members of S that are not in the rest
pub record Filling (entry out : List ℕ) (S value rest : ℕ) : Type 0 where
  pub rising : Rising 64 rest
  pub long : length out ≡ length entry
  pub part : (x : ℕ) → of_bits rest x ≡ true → of_bits S x ≡ true
  pub here : (x : ℕ) → of_bits S x ≡ true → of_bits rest x ≡ false → get_or out x 0 ≡ value
  pub else : (x : ℕ) → of_bits S x ≡ false → get_or out x 0 ≡ get_or entry x 0

pub filling_none : (entry : List ℕ) (S value rest : ℕ) → rest ≡ S → S < 2 ^ 64 → Filling entry entry S value rest
filling_none entry S value rest e h =
    record {
      rising = rw e (record { fits = h; low = λ y. bit_below 64 S y h });
      long = refl;
      part = λ x t. sym (ap (λ (w : ℕ). of_bits w x) e) ∙ t;
      here = λ x t f. clash t (sym (ap (λ (w : ℕ). of_bits w x) e) ∙ f);
      else = λ x f. refl;
    }

module _ {entry out : List ℕ} {S value rest : ℕ} (i : Filling entry out S value rest) where
  pub filling_all : rest ≡ 0 → Filled entry out S value
  filling_all e = record { long = i.long; here = λ x t. i.here x t (none_left e x); else = i.else }

  module _ {y r : ℕ} (t : Turn rest y r) where
    pub filling_below : y < 64
    filling_below = turn_below i.rising t

    pub filling_more : length entry ≡ 64 → Filling entry (set out y value) S value r
    filling_more room =
        record {
          rising = turn_rising i.rising t;
          long = length-set out y value ∙ i.long;
          part = λ x f. i.part x (and_left (of_bits rest x) (not (eqb x y)) (sym (left x) ∙ f));
          here = λ x e f. elim (ℕ_discrete x y) [
            | yes h ↦ ap (λ (k : ℕ). get_or (set out y value) k 0) h ∙ get_or-set_same out y value 0 (omega (arith, filling_below, i.long))
            | no n ↦ get_or-set_other out y x value 0 n ∙ i.here x e (sym (without_else (of_bits rest) y x n) ∙ sym (left x) ∙ f)
          ];
          else = λ x f. get_or-set_other out y x value 0 (λ e. clash (ap (of_bits S) e ∙ member) f) ∙ i.else x f;
        }
      where
        left : (x : ℕ) → of_bits r x ≡ without (of_bits rest) y x
        left x = ap (λ (R : Set). R x) (turn_set i.rising t)

        member : of_bits S y ≡ true
        member = i.part y (turn_first i.rising t).member
