-- What each message type uses: the columns of the table, as sets of types.
use mathlib.Core.Path.{◌≡◌, refl, sym, ap, ◌∙◌}
use Prim.Native.Nat.{ℕ, ◌≤◌, ◌<◌}
use native.Mathlib.Omega.{arith}
use native.Mathlib.Decide.{dec_lt}
use mathlib.Core.Bool.{Bool, true, false}
use mathlib.Core.List.{◌∷◌}
use lib.ListN.{length, get_or-eq_default}
use lib.Dec.{eqb}
use borrow.Author.Tests.{eqb-true}
use Rattle.model.specs.Sets.{Set, to_bits, of_bits}
use Rattle.model.specs.Types.{Uses, nothing_used, used_by_type, types, uses_of, uses_view, uses_subject, names_spare, uses_stamp}
use Rattle.model.specs.Leafset.{Table}
use Rattle.model.specs.Ring.{Own, Message}
use Rattle.model.specs.Steps.{step_by_type}
use Rattle.model.specs.Words.{between, is_type}
use Rattle.model.proofs.Laws.{clash, between_high}
use Rattle.model.proofs.Bits.{bits_back}

-- the type has room in its four bits
pub type_room : (k : ℕ) → is_type k ≡ true → k < 16
unfolding used_by_type
type_room k e = omega (arith, between_high 1 types k e)

-- a number beyond the table uses nothing
beyond : (k : ℕ) → 16 ≤ k → uses_of k ≡ nothing_used
unfolding used_by_type
beyond k h = get_or-eq_default (nothing_used ∷ used_by_type) nothing_used {n = k} (omega arith)

-- a column is a set of types that has the same bits
column : (used : Uses → Bool) (S : Set) → used nothing_used ≡ false → to_bits 16 (λ k. used (uses_of k)) ≡ to_bits 16 S → ((k : ℕ) → S k ≡ true → k < 16)
    → (k : ℕ) → used (uses_of k) ≡ S k
column used S none e low k = ap (λ (R : Set). R k) (sym (bits_back 16 (λ k. used (uses_of k)) below) ∙ ap of_bits e ∙ bits_back 16 S low)
  where
    below : (k : ℕ) → used (uses_of k) ≡ true → k < 16
    below k u = elim (dec_lt k 16) [ yes h ↦ h | no d ↦ clash u (ap used (beyond k (omega arith)) ∙ none) ]

-- "types are 1 to 12", and 13; "Type 4 uses the view; 8 and 11 the subject; 9 and 10 subject and stamp; the others none"; "Of the four that use the
-- subject, only type 8 may have 64 there"
pub record TypesUse : Type 0 where
  pub number : types ≡ 13
  pub view : (k : ℕ) → uses_view k ≡ eqb k 4
  pub subject : (k : ℕ) → uses_subject k ≡ between 8 11 k
  pub stamp : (k : ℕ) → uses_stamp k ≡ between 9 10 k
  pub spare : (k : ℕ) → names_spare k ≡ eqb k 8

-- every type has a step
pub types_step : (t : Table) (me now : ℕ) (o : Own) (m : Message) → length (step_by_type t me now o m) ≡ types
unfolding used_by_type
types_step t me now o m = refl

pub types_use : TypesUse
unfolding used_by_type to_bits
types_use =
    record {
      number = refl;
      view = column (λ u. u.view) (λ k. eqb k 4) refl refl (λ k e. omega (arith, eqb-true k 4 e));
      subject = column (λ u. u.subject) (between 8 11) refl refl (λ k e. omega (arith, between_high 8 11 k e));
      stamp = column (λ u. u.stamp) (between 9 10) refl refl (λ k e. omega (arith, between_high 9 10 k e));
      spare = column (λ u. u.spare) (λ k. eqb k 8) refl refl (λ k e. omega (arith, eqb-true k 8 e));
    }
