-- The hops to the last running node before the key: a turn of the loop over the spans, from the greatest down.
use mathlib.Core.Path.{◌≡◌, refl, sym, ap, ◌∙◌}
use mathlib.Core.Logic.{◌⊎◌, inl, inr}
use mathlib.Core.Bool.{true}
use mathlib.Core.List.{List}
use Prim.Native.Nat.{ℕ, suc, ◌+◌, ◌-◌, ◌*◌, ◌≤◌, ◌<◌, zero-le}
use native.Mathlib.Nat.{le_antisymm, zero-add}
use native.Mathlib.Omega.{arith}
use lib.ListN.{length, get_or}
use borrow.Author.Tests.{eq-eqb}
use Rattle.model.specs.Key.{places}
use Rattle.model.specs.Ring.{Ring, is_running}
use Rattle.model.specs.Reach.{spans, Ending, owner, next, reach, last_before, to_last}
use Rattle.model.specs.WellFormed.{WellFormed}
use Rattle.model.proofs.Laws.{decide}
use Rattle.model.proofs.Reaches.{doubles, first_span, last_span, Present, Hop, hop, last_hop, owner_runs, reach_from, one_hop}
use Rattle.leafset_nearest.proofs.Spans.{clockwise<}
use Rattle.call_reach.specs.Walks.{Greatest, From}

module _ {r : Ring} (well : WellFormed r) {a : ℕ} (low : a ≤ 16777215) where
  -- a reach from the owner has no hop, one from the last node before the key has one
  owner_stays : (x : ℕ) → is_running r x ≡ true → (reach r a (owner r a)).hops ≡ 0
  owner_stays x runs =
      ap (λ (e : Ending). e.hops) (reach_from r well a low (owner r a) (owner_runs r well a low x runs))
      ∙ rw (eq-eqb (owner r a) (owner r a) refl)

  last_hops : {x : ℕ} → Present r a x → to_last r a x ≡ 0 → (reach r a x).hops ≡ 1
  last_hops {x} p e = one_hop r well a low x p ∙ ap suc (ap (λ (y : ℕ). (reach r a y).hops) (last_hop r well a low x p e) ∙ owner_stays x p.runs)

-- the reach from x has come to `node`, so far before the last one, with spans from place i on behind it
pub record Turn (r : Ring) (a x left hops i : ℕ) : Type 0 where
  pub node : ℕ
  pub present : Present r a node
  pub left_is : left ≡ to_last r a node
  pub hops_are : (reach r a x).hops ≡ hops + (reach r a node).hops
  pub below : (j : ℕ) → j + 1 ≡ i → left < 2 * get_or spans j 0
  pub none_left : i ≡ 0 → left ≡ 0

-- less than a span is less than twice the span before it
less_before : {left i : ℕ} → i < 24 → left < get_or spans i 0 → (j : ℕ) → j + 1 ≡ i → left < 2 * get_or spans j 0
less_before {left} {i} h l j e =
    let d : get_or spans i 0 ≡ 2 * get_or spans j 0 = ap (λ (k : ℕ). get_or spans k 0) (sym e) ∙ doubles j (omega arith) in
    omega (arith, d)

less_first : {left i : ℕ} → left < get_or spans i 0 → i ≡ 0 → left ≡ 0
less_first {left} {i} l e =
    let d : get_or spans i 0 ≡ 1 = ap (λ (k : ℕ). get_or spans k 0) e ∙ first_span in
    omega (arith, d)

-- of numbers only
at_most : (d s : ℕ) {l : ℕ} → d + s ≤ l → d ≤ l - s
at_most d s h = omega arith

in_all : {d s l : ℕ} → s ≤ l → d ≤ l - s → d + s ≤ l
in_all g h = omega arith

too_far : (s l : ℕ) {d : ℕ} → d ≡ places → d ≤ l - s → l < places → ⊥
too_far s l e h g = omega arith

half : (d k : ℕ) {s l : ℕ} → d + s ≤ l → l < 2 * k → s ≡ k → d < k
half d k g h e = omega arith

one_on : (h m : ℕ) {k : ℕ} → k ≡ suc m → h + k ≡ h + 1 + m
one_on h m e = omega arith

module _ {r : Ring} {a x : ℕ} {far : List ℕ} {distance : ℕ} (from : From r a x far distance) where
  pub turn_first : Turn r a x distance 0 24
  turn_first =
      record {
        node = x;
        present = record { runs = from.runs; not_owner = from.not_owner };
        left_is = from.distance_is;
        hops_are = sym (zero-add _);
        below = λ j e.
            let d : get_or spans j 0 ≡ 8388608 = ap (λ (k : ℕ). get_or spans k 0) (the_last j e) ∙ last_span in
            omega (arith, d, from.distance_is, clockwise< (get_or r.table.keys x 0) (get_or r.table.keys (last_before r a) 0));
        none_left = λ e. absurd (omega arith);
      }
    where
      the_last : (j : ℕ) → j + 1 ≡ 24 → j ≡ 23
      the_last j e = omega arith

  module _ {left hops i : ℕ} (t : Turn r a x left hops i) where
    pub turn_end : i ≡ 0 → (reach r a x).hops ≡ hops + 1
    turn_end e =
        t.hops_are
        ∙ ap (◌+◌ hops) (last_hops from.well from.low t.present (sym t.left_is ∙ t.none_left e))

    module _ {j : ℕ} (below : j < 24) (before : j + 1 ≡ i) {span : ℕ} where
      pub turn_past : left < span → span ≡ get_or spans j 0 → Turn r a x left hops j
      turn_past h is =
          let l : left < get_or spans j 0 = rw (← is) h in
          record {
            node = t.node;
            present = t.present;
            left_is = t.left_is;
            hops_are = t.hops_are;
            below = less_before below l;
            none_left = less_first l;
          }

      module _ (over : span ≤ left) (is : span ≡ get_or spans j 0) where
        the_hop : Hop r a t.node span
        the_hop =
            rw is
            (hop r from.well a from.low t.node t.present j below
            (rw (← t.left_is, ← is) over) (rw (← t.left_is) (t.below j before)))

        -- the greatest of the distances is that of the next node
        module _ {best : ℕ} (g : Greatest far (length far) (left - span) best) where
          not_nearer : to_last r a (next r a t.node) ≤ best
          not_nearer =
              let next_in = from.listed (next r a t.node) the_hop.present.runs in
              let room : to_last r a (next r a t.node) + span ≤ left = rw t.left_is the_hop.over in
              rw (← next_in.1) (g.above (next r a t.node) next_in.0 (rw next_in.1 (at_most _ span room)))

          not_farther : (best ≡ 0) ⊎ ((y : ℕ) × (y < length far) × (get_or far y 0 ≡ best) × (best ≤ left - span)) → best ≤ to_last r a (next r a t.node)
          not_farther (inl e) = rw e zero-le
          not_farther (inr m) =
              decide (is_running r m.0)
              (λ on.
              let same : to_last r a m.0 ≡ best = sym (from.listed m.0 on).1 ∙ m.2 in
              rw (← same) (the_hop.farthest m.0 on (rw (same, ← t.left_is) (in_all over m.3))))
              (λ off. absurd (too_far span left (sym m.2 ∙ from.off m.0 m.1 off) m.3 (rw t.left_is (clockwise< _ _))))

          pub turn_over : Turn r a x best (hops + 1) j
          turn_over =
              let b : best ≡ to_last r a (next r a t.node) = le_antisymm (not_farther g.one_of) not_nearer in
              let l : best < get_or spans j 0 = rw b (half _ (get_or spans j 0) the_hop.over (rw (← t.left_is) (t.below j before)) is) in
              record {
                node = next r a t.node;
                present = the_hop.present;
                left_is = b;
                hops_are = t.hops_are ∙ one_on hops _ (one_hop r from.well a from.low t.node t.present);
                below = less_before below l;
                none_left = less_first l;
              }
