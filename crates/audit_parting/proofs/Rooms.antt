-- The room for the sides: each takes its members out of those that are left, so no node is put twice.
use mathlib.Core.Path.{◌≡◌, refl, sym, ap, ◌∙◌}
use mathlib.Core.Bool.{true, not, ◌&&◌}
use mathlib.Core.List.{List}
use Prim.Native.Nat.{ℕ, ◌+◌, ◌*◌, ◌^◌, ◌≤◌, ◌<◌}
use native.Mathlib.Omega.{arith}
use lib.Bits.{bit_and}
use lib.ListN.{length}
use Rattle.model.specs.Sets.{Set, count, of_bits}
use Rattle.model.proofs.Laws.{and_right, count_le, count_mono}
use Rattle.sets.proofs.Ascending.{count_split}
use Rattle.sets.proofs.Bits.{and_both}

-- the places before x are looked at
pub record Roomy (out₀ out : List ℕ) (at end left x : ℕ) : Type 0 where
  pub long : length out ≡ length out₀
  pub room : end + 21 * count 64 (of_bits left) ≤ at + 1344 + 2 * x
  pub fits : left < 2 ^ 64

pub roomy_none : (out : List ℕ) (at left : ℕ) → left < 2 ^ 64 → Roomy out out at at left 0
roomy_none out at left h = record { long = refl; room = omega (arith, count_le 64 (of_bits left)); fits = h }

module _ {out₀ out : List ℕ} {at end left x : ℕ} (i : Roomy out₀ out at end left x) where
  pub roomy_passed : Roomy out₀ out at end left (x + 1)
  roomy_passed = record { long = i.long; room = omega (arith, i.room); fits = i.fits }

  pub roomy_end : x ≤ 64 → end ≤ at + 1472
  roomy_end h = omega (arith, i.room)

  -- the side, of which those that are left
  module _ (group : ℕ) where
    abbrev side : ℕ
    side = bit_and group left

    part : (y : ℕ) → of_bits side y ≡ true → of_bits left y ≡ true
    part y t = and_right (of_bits group y) (of_bits left y) (sym (ap (λ (S : Set). S y) (and_both group left)) ∙ t)

    pub roomy_room : x < 64 → at + 1472 ≤ length out₀ → end + 2 + 21 * count 64 (of_bits side) ≤ length out
    roomy_room h q = omega (arith, i.room, i.long, count_mono (of_bits side) (of_bits left) 64 (λ y l. part y))

    pub roomy_more : {out' : List ℕ} {end' left' : ℕ} → length out' ≡ length out → end' ≤ end + 2 + 21 * count 64 (of_bits side)
        → left' < 2 ^ 64 → of_bits left' ≡ (λ (y : ℕ). of_bits left y && not (of_bits side y)) → Roomy out₀ out' at end' left' (x + 1)
    roomy_more e h f s =
        record {
          long = e ∙ i.long;
          room = omega (arith, i.room, ap (count 64) s, count_split 64 (of_bits left) (of_bits side) part);
          fits = f;
        }
