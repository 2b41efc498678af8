-- The leafset from the two limits.
use mathlib.Core.Path.{◌≡◌, refl, sym, ap, ap₂, ◌∙◌, fun_ext}
use mathlib.Core.Bool.{Bool, true, false, not, ◌&&◌, ◌||◌, and-true}
use mathlib.Core.List.{List}
use Prim.Native.Nat.{ℕ, ◌+◌, ◌^◌, ◌≤◌, ◌<◌}
use native.Mathlib.Nat.{le_trans}
use lib.Dec.{eqb, ltb}
use lib.ListN.{length, get_or}
use borrow.Author.Tests.{lt-ltb, le-ltb}
use Rattle.model.specs.Key.{clockwise, counter_clockwise}
use Rattle.model.specs.Sets.{Set, without, union, count, to_bits, of_bits}
use Rattle.model.specs.Leafset.{Table, leafset}
use Rattle.model.proofs.Laws.{and_left}
use Rattle.model.proofs.Bits.{bits_back}
use Rattle.model.specs.Leafset as model
use Rattle.sets.specs.Within.{InTable}
use Rattle.model.specs.Structs.{table_of}
use Rattle.model.specs.declared.values.Sides.{Sides}
use Rattle.leafset_nearest.specs.Span.{span_of, span_to}
use Rattle.leafset.specs.Near.{is_near}
use Rattle.leafset_nearest.specs.declared.Way.{Way}
use Rattle.leafset_nearest.specs.declared.Way.TheVariants.{Clockwise, CounterClockwise}
use Rattle.sets.proofs.Ascending.{count_to}
use Rattle.sets.proofs.Bits.{to_bits_of_bits}

module _ (sides : Sides) {keys : List ℕ} {x set : ℕ} (q : InTable keys x set) where
  abbrev t : Table
  t = table_of sides keys

  abbrev S : Set
  S = of_bits set

  -- a leafset is a part of the set, without x
  pub leafset_part : (y : ℕ) → leafset t x S y ≡ true → without S x y ≡ true
  unfolding leafset
  leafset_part y e = and_left (without S x y) _ e

  pub leafset_low : (y : ℕ) → leafset t x S y ≡ true → y < length keys
  leafset_low y e = q.within y (and_left (S y) (not (eqb y x)) (leafset_part y e))

  -- the answer, read back
  pub leafset_back : {r : ℕ} → r ≡ to_bits 64 (leafset t x S) → of_bits r ≡ leafset t x S
  leafset_back e = ap of_bits e ∙ bits_back 64 (leafset t x S) (λ y l. le_trans (leafset_low y l) q.few)

  -- the leafset, from the set without x
  abbrev leaves : Set → Set
  leaves left y =
      left y
      && (ltb (count (length keys) left) (sides.ahead + sides.behind)
      || model.is_near t sides.ahead clockwise (get_or keys x 0) left y
      || model.is_near t sides.behind counter_clockwise (get_or keys x 0) left y)

  module _ {left : Set} (e : left ≡ without S x) where
    leaves_are : (y : ℕ) → leaves left y ≡ leafset t x S y
    unfolding leafset
    leaves_are y = ap (λ (R : Set). leaves R y) e

    pub left_low : (y : ℕ) → left y ≡ true → y < length keys
    left_low y l = q.within y (and_left (S y) (not (eqb y x)) (sym (ap (λ (R : Set). R y) e) ∙ l))

    left_count : count (length keys) left ≡ count 64 left
    left_count = count_to left (length keys) left_low 64 q.few

    -- "everything if fewer than A + B are left"
    pub leafset_all : count 64 left < sides.ahead + sides.behind → left ≡ leafset t x S
    leafset_all h = fun_ext (λ y. all y ∙ leaves_are y)
      where
        all : (y : ℕ) → left y ≡ leaves left y
        all y = rw (left_count, lt-ltb (count 64 left) (sides.ahead + sides.behind) h) (sym (and-true (left y)))

    -- the nearest of 64 are the nearest of the table
    near : (many : ℕ) (way : Way) (y : ℕ)
        → is_near many left (span_to way (get_or keys x 0) keys) y ≡ model.is_near t many (span_of way) (get_or keys x 0) left y
    near many way y =
        ap (λ (k : ℕ). ltb k many)
        (sym (count_to (λ z. left z && ltb (span_to way (get_or keys x 0) keys z) (span_to way (get_or keys x 0) keys y)) (length keys)
        (λ z r. left_low z (and_left (left z) _ r)) 64 q.few))

    -- "else the A nearest clockwise and the B nearest the other way"
    pub leafset_near : sides.ahead + sides.behind ≤ count 64 left → {ahead behind : Set}
        → ((y : ℕ) → ahead y ≡ (left y && is_near sides.ahead left (span_to Clockwise (get_or keys x 0) keys) y))
        → ((y : ℕ) → behind y ≡ (left y && is_near sides.behind left (span_to CounterClockwise (get_or keys x 0) keys) y))
        → union ahead behind ≡ leafset t x S
    leafset_near h f g = fun_ext (λ y.
        ap₂ ◌||◌
        (f y ∙ ap (◌&&◌ (left y)) (near sides.ahead Clockwise y))
        (g y ∙ ap (◌&&◌ (left y)) (near sides.behind CounterClockwise y))
        ∙ both y
        ∙ leaves_are y)
      where
        distribute : (a b c d : Bool) → b ≡ false → ((a && c) || (a && d)) ≡ (a && (b || c || d))
        distribute true b c d e = rw e
        distribute false b c d e = refl

        both : (y : ℕ)
            → ((left y && model.is_near t sides.ahead clockwise (get_or keys x 0) left y)
            || (left y && model.is_near t sides.behind counter_clockwise (get_or keys x 0) left y))
            ≡ leaves left y
        both y =
            distribute (left y) _ _ _
            (ap (λ (k : ℕ). ltb k (sides.ahead + sides.behind)) left_count ∙ le-ltb (count 64 left) (sides.ahead + sides.behind) h)

-- a number whose set is known
pub from_set : {r : ℕ} {S : Set} → r < 2 ^ 64 → of_bits r ≡ S → r ≡ to_bits 64 S
from_set {r} h e = sym (to_bits_of_bits 64 r h) ∙ ap (to_bits 64) e
