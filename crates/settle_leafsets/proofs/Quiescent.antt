-- Where A = B, a quiescent ring whose running nodes are all connected is covered. The first node to pass zero is the same from everywhere (Zero, Linked),
-- so every successor is the next of all running nodes, and leafsets follow by induction on the distance. Source 000, Lemmata 18 and 19.
use mathlib.Core.Path.{◌≡◌, refl, sym, ap, ◌∙◌}
use mathlib.Core.Logic.{inl, inr}
use Prim.Native.Nat.{ℕ, zero, suc, ◌+◌, ◌≤◌, ◌<◌}
use native.Mathlib.Omega.{arith}
use native.Mathlib.Decide.{dec_lt, ℕ_discrete}
use mathlib.Core.Bool.{true, false, not, ◌&&◌}
use lib.Dec.{eqb}
use borrow.Author.Tests.{ne_eqb}
use Rattle.model.specs.Key.{clockwise, counter_clockwise}
use Rattle.model.specs.Sets.{Set, with, some}
use Rattle.model.specs.Leafset.{Table, size, key, nearer, leafset}
use Rattle.model.specs.Ring.{Ring, holds, is_running}
use Rattle.model.specs.WellFormed.{WellFormed}
use Rattle.model.specs.Connection.{Connected}
use Rattle.model.proofs.Laws.{clash, and_left, and_right, and_in, or_left, not_in, not_out, is_false, some_in, count_none}
use Rattle.model.proofs.Choices.{leafset_within, leafset_other}
use Rattle.model.proofs.LeafsetSize.{clockwise_lt, small}
use Rattle.settle_leafsets.specs.Covered.{Covered, HoldsRunning, lacks, Even}
use Rattle.settle_leafsets.specs.Quiescent.{Quiescent, chosen}
use Rattle.settle_leafsets.proofs.LeafsetChoice.{with_same, chosen_again}
use Rattle.settle_leafsets.proofs.Lacking.{lacking_decides}
use Rattle.settle_leafsets.proofs.Ways.{Way, ahead_way, behind_way, rest_of, side_of}
use Rattle.settle_leafsets.proofs.Woven.{Woven, woven}
use Rattle.settle_leafsets.proofs.Chains.{First, away, strictly, step, less, first_of, one_first, turned_first, along_leafset}
use Rattle.settle_leafsets.proofs.Linked.{along_connected, holds_some}
use Rattle.settle_leafsets.proofs.Zero.{next, next_first, lower_than, Arrival, arrival, Reaches, fore, aft, true_next}

-- ---- where on one way everybody's first is the first of all

module _
    (t : Table) (R : Set) (C : ℕ → Set) (v : Woven t R C) (d : ℕ → ℕ → ℕ) (way : Way d) (many : ℕ)
    (start : (x : ℕ) → R x ≡ true → (s : ℕ) × (C x s ≡ true) × ((w : ℕ) → R w ≡ true → (w ≡ x → ⊥) → d (key t x) (key t s) ≤ d (key t x) (key t w)))
    (hears : (x s z : ℕ) → R x ≡ true → C x s ≡ true → C s z ≡ true → (z ≡ x → ⊥) → nearer t d (key t x) (C x) z < many → C x z ≡ true)
  where
    -- whoever has few before him is chosen
    whole : (fuel x w : ℕ) → R x ≡ true → R w ≡ true → (w ≡ x → ⊥) → nearer t d (key t x) (C x) w < many → d (key t x) (key t w) ≤ fuel → C x w ≡ true
    whole zero x w on onw n h l = let o = away t R C v d way x w on onw n in absurd (omega arith)
    whole (suc fuel) x w on onw n h l =
        let b = start x on in
        let s : ℕ = b.0 in
        let mine : C x s ≡ true = b.1 in
        let ons = v.run x s on mine in
        elim (ℕ_discrete w s) [
          | yes i ↦ ap (C x) i ∙ mine
          | no m ↦
              (let k = strictly t R C v d way x s w on ons onw m (b.2 w onw n) in
              let few = step t R C v d way x s w on mine onw k many (λ z e f. hears x s z on mine e f) h in
              let shorter = less t R C v d way x s w on mine onw k in
              hears x s w on mine (whole fuel s w ons onw m few (omega arith)) n h)
        ]

module _
    (r : Ring) (g : WellFormed r) (even : Even r.table) (clean : HoldsRunning r)
    (connected : (a b : ℕ) → is_running r a ≡ true → is_running r b ≡ true → Connected r a b)
    (q : Quiescent r)
  where
    abbrev t : Table
    t = r.table

    abbrev R : Set
    R = is_running r

    abbrev C : ℕ → Set
    C = chosen r

    abbrev v : Woven t R C
    v = woven r g clean even q.asks q.hears

    abbrev cw : ℕ → ℕ → ℕ
    cw x y = clockwise (key t x) (key t y)

    sm : (x : ℕ) → R x ≡ true → key t x < 16777216
    sm x on = small t g.table_well x (v.low x on)

    module _ (x w : ℕ) (on : R x ≡ true) (onw : R w ≡ true) (differ : w ≡ x → ⊥) where
      -- everybody holds somebody
      any : (a : ℕ) → R a ≡ true → some (size t) (holds r a) ≡ true
      any a ona =
          elim (ℕ_discrete a x) [
            | yes i ↦ holds_some r g even clean q a w ona (connected a w ona onw) (λ j. differ (j ∙ i))
            | no n ↦ holds_some r g even clean q a x ona (connected a x ona on) (λ j. n (sym j))
          ]

      abbrev succ : ℕ → ℕ
      succ = next r g even clean q any

      first : (a : ℕ) → R a ≡ true → First t R C v clockwise ahead_way a (succ a)
      first = next_first r g even clean q any

      abbrev start : Arrival r g even clean q any x (lower_than r g even clean q any x)
      start = arrival r g even clean q any x on

      all : (a : ℕ) → R a ≡ true → Reaches r g even clean q any start.end a
      all a ona =
          along_connected r g even clean q (Reaches r g even clean q any start.end)
          (along_leafset t R C v succ first (Reaches r g even clean q any start.end) (fore r g even clean q any start.end)
          (aft r g even clean q any start.end))
          x a (connected x a on ona) (start.steps, start.arrives)

      next_of_all : (a b : ℕ) → R a ≡ true → R b ≡ true → (b ≡ a → ⊥) → cw a (succ a) ≤ cw a b
      next_of_all = true_next r g even clean q any start.end start.runs all

      -- and so is the one before
      record Before (a u : ℕ) : Type 0 where
        mine : C a u ≡ true
        nearest : (b : ℕ) → R b ≡ true → (b ≡ a → ⊥) → cw u a ≤ cw b a

      before : (a : ℕ) → R a ≡ true → (u : ℕ) × Before a u
      before a ona =
          let some-chosen : some (size t) (C a) ≡ true =
          some_in (size t) (C a) (succ a) (v.low (succ a) (v.run a (succ a) ona (first a ona).mine)) (first a ona).mine in
          let f = first_of t R C v counter_clockwise behind_way a ona some-chosen in
          let u : ℕ = f.0 in
          let onu : R u ≡ true = v.run a u ona f.1.mine in
          let i : succ u ≡ a = one_first t R C v clockwise ahead_way u (succ u) a onu (first u onu) (turned_first t R C v a u ona f.1) in (
            u,
            record {
              mine = f.1.mine;
              nearest = λ b onb n.
                  elim (dec_lt (cw b a) (cw u a)) [
                    | no l ↦ omega arith
                    | yes l ↦
                        (let s : cw u b + cw b a ≡ cw u a =
                        rest_of (cw u b) (cw b a) (cw u a) (clockwise_lt (key t u) (key t b)) l
                        (ahead_way.adds (key t u) (key t b) (key t a) (sm u onu) (sm b onb) (sm a ona)) in
                        let o = away t R C v clockwise ahead_way b a onb ona (λ j. n (sym j)) in
                        let k = next_of_all u b onu onb (λ j. let m : cw b a ≡ cw u a = ap (λ (z : ℕ). cw z a) j in omega arith) in
                        let e : cw u (succ u) ≡ cw u a = ap (cw u) i in
                        absurd (omega arith))
                  ];
            },
          )

      pub lacks_nobody : lacks r x w ≡ false
      lacks_nobody =
          is_false (lacks r x w)
          (λ e.
          let out : holds r x w ≡ false = not_out (holds r x w) (and_right (R w) (not (holds r x w)) (and_left (R w && not (holds r x w)) _ e)) in
          let fits : leafset t x (with (C x) w) w ≡ true =
          with_same t x g.table_well (v.low x on) (C x) (holds r x) (chosen_again t x g.table_well (v.low x on) (holds r x) (C x) (λ z. refl)) w w
          ∙ and_right (R w && not (holds r x w)) _ e in
          clash
          (leafset_within t x (holds r x) w
          (elim (side_of t g.table_well x w (with (C x) w) (C x) (v.low x on) (v.low w onw)
          (λ z k. and_in (or_left (eqb z w) k) (not_in (ne_eqb z x (v.other x z k)))) fits) [
            | inl h ↦
                whole t R C v clockwise ahead_way t.sides.ahead
                (λ a ona. (succ a, (first a ona).mine, λ b onb n. next_of_all a b ona onb n))
                (λ a s z ona m k n h. (v.hears a s z ona m k n).ahead h)
                (cw x w) x w on onw differ h (omega arith)
            | inr h ↦
                whole t R C v counter_clockwise behind_way t.sides.behind
                (λ a ona. ((before a ona).0, (before a ona).1.mine, (before a ona).1.nearest))
                (λ a s z ona m k n h. (v.hears a s z ona m k n).behind h)
                (cw w x) x w on onw differ h (omega arith)
          ]))
          out)

    nobody : (x : ℕ) → R x ≡ true → (w : ℕ) → lacks r x w ≡ false
    nobody x on w =
        is_false (lacks r x w)
        (λ e.
        let onw : R w ≡ true = and_left (R w) _ (and_left (R w && not (holds r x w)) _ e) in
        clash e (lacks_nobody x w on onw (leafset_other t x (with (holds r x) w) w (and_right (R w && not (holds r x w)) _ e))))

    covers : Covered r
    covers = (lacking_decides r g clean).0 (λ x on. count_none (size t) (lacks r x) (λ w l. nobody x on w))

pub quiescent_covers :
    (r : Ring) → WellFormed r → Even r.table → HoldsRunning r
    → ((a b : ℕ) → is_running r a ≡ true → is_running r b ≡ true → Connected r a b)
    → Quiescent r → Covered r
quiescent_covers r g even clean connected q = covers r g even clean connected q
