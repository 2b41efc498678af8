-- The successor is the first of a set by a measure; passing zero.
use mathlib.Core.Path.{◌≡◌, refl}
use mathlib.Core.Bool.{true, false}
use mathlib.Core.List.{List}
use Prim.Native.Nat.{ℕ, ◌≤◌, ◌<◌}
use native.Mathlib.Omega.{arith}
use Rattle.std.specs.Prelude.{Option, None, Some}
use Rattle.model.specs.declared.values.NodeNumber.{NodeNumber}
use Rattle.sets.specs.Numbers.{number_or_none}
use lib.Dec.{ltb}
use lib.ListN.{length, get_or}
use Rattle.model.specs.Key.{clockwise}
use Rattle.model.specs.Sets.{Set, some, of_bits}
use Rattle.model.specs.Leafset.{Table, successor, passes_zero}
use Rattle.model.proofs.Laws.{clash, is_false, and_left, some_in, some_out}
use Rattle.sets.specs.Within.{InTable}
use Rattle.model.specs.Structs.{table_of}
use Rattle.model.specs.declared.values.Sides.{Sides}
use Rattle.leafset_nearest.specs.Span.{span_to, Found}
use Rattle.leafset_nearest.specs.declared.Way.TheVariants.{Clockwise}
use Rattle.leafset_nearest.proofs.Spans.{beyond, span<}
use Rattle.leafset_nearest.proofs.Pick.{picked, found_least}
use Rattle.leafset_nearest.proofs.Firsts.{met_found}

module _ (sides : Sides) (keys : List ℕ) where
  abbrev t : Table
  t = table_of sides keys

  pub successor_found : (x : ℕ) (S : Set) → ((y : ℕ) → S y ≡ true → y < length keys) → {b : ℕ}
      → Found S (span_to Clockwise (get_or keys x 0) keys) b → b ≡ successor t x S
  unfolding successor
  successor_found x S low f = met_found t Clockwise (get_or keys x 0) S low f

  -- the successor of a node that holds somebody
  pub successor_low : (x : ℕ) (S : Set) → ((y : ℕ) → S y ≡ true → y < length keys) → (y : ℕ) → S y ≡ true → successor t x S < length keys
  successor_low x S low y e =
      let f = picked (span_to Clockwise (get_or keys x 0) keys) S beyond (λ y e. span< Clockwise (get_or keys x 0) (get_or keys y 0)) (length keys) low in
      rw (← successor_found x S low f) (low _ (found_least y e f).member)

  -- passing zero, where somebody is held
  pub passes_found : (x : ℕ) (held : Set) (some : (y : ℕ) × (y < length keys) × (held y ≡ true)) (b u v : ℕ) → b ≡ successor t x held
      → u ≡ clockwise (get_or keys x 0) 0 → v ≡ clockwise (get_or keys x 0) (get_or keys b 0) → ltb u v ≡ passes_zero t x held
  unfolding passes_zero
  passes_found x held s b u v e f g = rw (some_in (length keys) held s.0 s.1 s.2, ← e, f, g)

  pub passes_nobody : (x : ℕ) (held : Set) → ((y : ℕ) → held y ≡ false) → false ≡ passes_zero t x held
  unfolding passes_zero
  passes_nobody x held f = rw (is_false (some (length keys) held) (λ s. let p = some_out (length keys) held s in clash p.2 (f p.0)))

  -- where there is no successor
  pub passes_none : (x : ℕ) (held : Set) → length keys ≤ 64 → ((y : ℕ) → held y ≡ true → y < length keys)
      → (r : Option NodeNumber) → ((y : NodeNumber) → r ≡ Some y → ⊥) → number_or_none r ≡ successor t x held → false ≡ passes_zero t x held
  passes_none x held few low None f e =
      passes_nobody x held (λ y. is_false (held y) (λ h. omega (arith, few, e, successor_low x held low y h)))
  passes_none x held few low (Some y) f e = absurd (f y refl)

module _ (sides : Sides) {keys : List ℕ} {x held : ℕ} (q : InTable keys x held) where
  -- the successor of a node that holds somebody, as one that passes zero does
  pub some_successor : some (length keys) (of_bits held) ≡ true → successor (table_of sides keys) x (of_bits held) < length keys
  some_successor e = let p = some_out (length keys) (of_bits held) e in successor_low sides keys x (of_bits held) q.within p.0 p.2

  pub passes_some : passes_zero (table_of sides keys) x (of_bits held) ≡ true → some (length keys) (of_bits held) ≡ true
  unfolding passes_zero
  passes_some e = and_left (some (length keys) (of_bits held)) _ e
