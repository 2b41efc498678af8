-- Passing zero in a quiescent ring: along successors the clockwise distance to key 0 falls until one passes zero, and of two that do one would lack the other.
-- Where that one is reached from everywhere, each node's successor is the next of all running nodes. Source 000, Lemmata 12 and 18.
use mathlib.Core.Path.{◌≡◌, refl, sym, ap, ◌∙◌, subst}
use mathlib.Core.Logic.{inl, inr}
use Prim.Native.Nat.{ℕ, zero, suc, ◌+◌, ◌≤◌, ◌<◌}
use native.Mathlib.Omega.{arith}
use native.Mathlib.Decide.{dec_lt, ℕ_discrete}
use mathlib.Core.Bool.{Bool, true, false, ◌&&◌}
use lib.Dec.{ltb, eqb}
use borrow.Author.Tests.{lt-ltb, ltb-true, ltb-false, le-ltb, eqb-true, eq-eqb, ne_eqb}
use Rattle.model.specs.Key.{clockwise, counter_clockwise}
use Rattle.model.specs.Sets.{Set, count, some}
use Rattle.model.specs.Leafset.{Table, size, key, nearer, successor, passes_zero}
use Rattle.model.specs.Ring.{Ring, holds, is_running}
use Rattle.model.specs.WellFormed.{WellFormed}
use Rattle.model.proofs.Laws.{clash, and_left, and_right, and_in, not_in, decide, some_in, count_le, count_more}
use Rattle.model.proofs.Choices.{Member, Least, least, lowest_in, none_nearer, leafset_within}
use Rattle.model.proofs.LeafsetSize.{clockwise_lt, small, same_key}
use Rattle.model.proofs.Routes.{Leads, next_in_leafset}
use Rattle.settle_leafsets.specs.Covered.{HoldsRunning, lacks, Even}
use Rattle.settle_leafsets.specs.Quiescent.{Quiescent, chosen, Arrives, here, onward}
use Rattle.settle_leafsets.proofs.Ways.{ahead_way, behind_way, rest_of, count_zero}
use Rattle.settle_leafsets.proofs.Woven.{Knows, Woven, woven, knows}
use Rattle.settle_leafsets.proofs.Chains.{First, away, first_of, one_first, nothing_between, turned_first, next_one}

not_over : (c u d : ℕ) → u < 16777216 → c ≤ d → Leads c u d → c + u ≡ d
not_over c u d hu l (inl e) = e
not_over c u d hu l (inr e) = absurd (omega arith)

over : (c u d : ℕ) → d < c → Leads c u d → c + u ≡ d + 16777216
over c u d l (inl e) = absurd (omega arith)
over c u d l (inr e) = e

to_zero : (a b : ℕ) → a < 16777216 → b < 16777216 → clockwise a 0 ≡ clockwise b 0 → a ≡ b
to_zero a b ha hb e = omega arith

module _
    (r : Ring) (g : WellFormed r) (even : Even r.table) (clean : HoldsRunning r) (q : Quiescent r)
    (any : (x : ℕ) → is_running r x ≡ true → some (size r.table) (holds r x) ≡ true)
  where
    abbrev t : Table
    t = r.table

    abbrev R : Set
    R = is_running r

    abbrev C : ℕ → Set
    C = chosen r

    abbrev v : Woven t R C
    v = woven r g clean even q.asks q.hears

    abbrev cw : ℕ → ℕ → ℕ
    cw x y = clockwise (key t x) (key t y)

    sm : (x : ℕ) → R x ≡ true → key t x < 16777216
    sm x on = small t g.table_well x (v.low x on)

    -- ---- successors

    abbrev pub next : ℕ → ℕ
    next x = successor t x (holds r x)

    abbrev Ahead : ℕ → ℕ → Type 0
    Ahead = First t R C v clockwise ahead_way

    -- nobody held is nearer than the successor
    next_is : (x : ℕ) → R x ≡ true → Member (size t) (λ y. holds r x y && eqb (nearer t clockwise (key t x) (holds r x) y) 0) (next x)
    unfolding successor
    next_is x on =
        let l : Least (size t) (holds r x) (cw x) = least (size t) (holds r x) (cw x) (any x on) in
        lowest_in (size t) (λ y. holds r x y && eqb (nearer t clockwise (key t x) (holds r x) y) 0) l.best
        (record {
          below = l.member.below;
          within = and_in l.member.within (eq-eqb (nearer t clockwise (key t x) (holds r x) l.best) 0 (none_nearer t clockwise (key t x) (holds r x) l));
        })

    next_nearest : (x : ℕ) → R x ≡ true → (z : ℕ) → holds r x z ≡ true → cw x (next x) ≤ cw x z
    next_nearest x on z e =
        elim (dec_lt (cw x z) (cw x (next x))) [
          | yes l ↦
              absurd (count_zero (size t) (λ u. holds r x u && ltb (cw x u) (cw x (next x)))
              (eqb-true (nearer t clockwise (key t x) (holds r x) (next x)) 0 (and_right (holds r x (next x)) _ (next_is x on).within))
              z ((g.node_well x).own_well.held_other z e).low (and_in e (lt-ltb (cw x z) (cw x (next x)) l)))
          | no l ↦ omega arith
        ]

    pub next_first : (x : ℕ) → R x ≡ true → Ahead x (next x)
    next_first x on =
        let m = next_is x on in
        let h : holds r x (next x) ≡ true = and_left (holds r x (next x)) _ m.within in
        record {
          mine = next_in_leafset t x (holds r x) g.table_well.sides_well.ahead_low
              (record {
                best = next x;
                member = record { below = m.below; within = and_in h (not_in (ne_eqb (next x) x ((g.node_well x).own_well.held_other (next x) h).differs)) };
                no_less = λ z k. next_nearest x on z (and_left (holds r x z) _ k.within);
              });
          nearest = λ z k. next_nearest x on z (leafset_within t x (holds r x) z k);
        }

    next_runs : (x : ℕ) → R x ≡ true → R (next x) ≡ true
    next_runs x on = v.run x (next x) on (next_first x on).mine

    -- ---- the way to zero

    abbrev left : ℕ → ℕ
    left x = clockwise (key t x) 0

    abbrev goes : ℕ → Bool
    goes x = passes_zero t x (holds r x)

    passing : (x : ℕ) → goes x ≡ true → left x < cw x (next x)
    unfolding passes_zero
    passing x e = ltb-true (left x) (cw x (next x)) (and_right (some (size t) (holds r x)) _ e)

    staying : (x : ℕ) → R x ≡ true → goes x ≡ false → cw x (next x) ≤ left x
    unfolding passes_zero
    staying x on e = ltb-false (left x) (cw x (next x)) (ap (λ (b : Bool). b && ltb (left x) (cw x (next x))) (sym (any x on)) ∙ e)

    adds : (x y : ℕ) → R x ≡ true → R y ≡ true → Leads (cw x y) (left y) (left x)
    adds x y on ony = ahead_way.adds (key t x) (key t y) 0 (sm x on) (sm y ony) (omega arith)

    short : (x : ℕ) → left x < 16777216
    short x = clockwise_lt (key t x) 0

    apart : (x y : ℕ) → R x ≡ true → R y ≡ true → (y ≡ x → ⊥) → 0 < cw x y
    apart x y on ony n = away t R C v clockwise ahead_way x y on ony n

    next_other : (x : ℕ) → R x ≡ true → next x ≡ x → ⊥
    next_other x on = v.other x (next x) (next_first x on).mine

    -- one that does not pass zero comes before its successor
    falls : (x : ℕ) → R x ≡ true → goes x ≡ false → cw x (next x) + left (next x) ≡ left x
    falls x on e = not_over (cw x (next x)) (left (next x)) (left x) (short (next x)) (staying x on e) (adds x (next x) on (next_runs x on))

    lower : (x : ℕ) → R x ≡ true → goes x ≡ false → left (next x) < left x
    lower x on e = let s = falls x on e in let o = apart x (next x) on (next_runs x on) (next_other x on) in omega arith

    jumps : (x : ℕ) → R x ≡ true → goes x ≡ true → cw x (next x) + left (next x) ≡ left x + 16777216
    jumps x on e = over (cw x (next x)) (left (next x)) (left x) (passing x e) (adds x (next x) on (next_runs x on))

    same_left : (x y : ℕ) → R x ≡ true → R y ≡ true → left x ≡ left y → x ≡ y
    same_left x y on ony e = same_key t g.table_well x y (v.low x on) (v.low y ony) (to_zero (key t x) (key t y) (sm x on) (sm y ony) e)

    -- ---- arriving

    abbrev pub lower_than : ℕ → ℕ
    lower_than a = count (size t) (λ z. ltb (left z) (left a))

    pub record Arrival (a bound : ℕ) : Type 0 where
      pub steps : ℕ
      pub end : ℕ
      pub few : steps ≤ bound
      pub runs : R end ≡ true
      pub ends : goes end ≡ true
      pub arrives : Arrives r steps a end

    fewer : (a b : ℕ) → b < size t → left b < left a → lower_than b < lower_than a
    fewer a b hb l =
        count_more (λ z. ltb (left z) (left b)) (λ z. ltb (left z) (left a)) (size t)
        (λ z h e. let k = ltb-true (left z) (left b) e in lt-ltb (left z) (left a) (omega arith))
        b hb (le-ltb (left b) (left b) (omega arith)) (lt-ltb (left b) (left a) l)

    arrived : (a bound : ℕ) → R a ≡ true → goes a ≡ true → Arrival a bound
    arrived a bound on e = record { steps = 0; end = a; few = omega arith; runs = on; ends = e; arrives = here e }

    arrival_within : (bound a : ℕ) → R a ≡ true → lower_than a ≤ bound → Arrival a bound
    arrival_within zero a on l =
        decide (goes a) (λ e. arrived a 0 on e)
        (λ e. let h = fewer a (next a) (v.low (next a) (next_runs a on)) (lower a on e) in absurd (omega arith))
    arrival_within (suc bound) a on l =
        decide (goes a) (λ e. arrived a (suc bound) on e)
        (λ e.
        let h = fewer a (next a) (v.low (next a) (next_runs a on)) (lower a on e) in
        let s : Arrival (next a) bound = arrival_within bound (next a) (next_runs a on) (omega arith) in
        let f = s.few in
        record { steps = suc s.steps; end = s.end; few = omega arith; runs = s.runs; ends = s.ends; arrives = onward e refl s.arrives })

    pub arrival : (a : ℕ) → R a ≡ true → Arrival a (lower_than a)
    arrival a on = arrival_within (lower_than a) a on (omega arith)

    soon : (a : ℕ) (on : R a ≡ true) → (arrival a on).steps < size t
    soon a on =
        let f = (arrival a on).few in
        let m = count_more (λ z. ltb (left z) (left a)) (λ z. true) (size t) (λ z h e. refl) a (v.low a on) (le-ltb (left a) (left a) (omega arith)) refl in
        let c = count_le (size t) (λ z. true) in
        omega arith

    -- there is one end only
    same_end : {k l a p s : ℕ} → Arrives r k a p → Arrives r l a s → p ≡ s
    same_end (here e) (here f) = refl
    same_end (here e) (onward f i a) = clash e f
    same_end (onward f i a) (here e) = clash e f
    same_end {s = s} (onward f i a) (onward {k = l} f' j b) = same_end a (subst (λ (u : ℕ). Arrives r l u s) (sym j ∙ i) b)

    -- ---- of two that pass zero one lacks the other

    passed_over : (o p : ℕ) → R o ≡ true → R p ≡ true → goes o ≡ true → Knows t C o p → left p < left o → ⊥
    passed_over o p on onp e k l =
        let s = rest_of (cw o p) (left p) (left o) (clockwise_lt (key t o) (key t p)) l (adds o p on onp) in
        let h = passing o e in
        nothing_between t R C v clockwise ahead_way t.sides.ahead g.table_well.sides_well.ahead_low o (next o) p (next_first o on) k.ahead
        (omega arith)

    one_passes : (o p : ℕ) → R o ≡ true → R p ≡ true → goes o ≡ true → goes p ≡ true → lacks r o p ≡ false → lacks r p o ≡ false → p ≡ o
    one_passes o p on onp eo ep lo lp =
        elim (ℕ_discrete p o) [
          | yes i ↦ i
          | no n ↦ elim (dec_lt (left p) (left o)) [
            | yes l ↦ absurd (passed_over o p on onp eo (knows r g clean o p on onp n lo) l)
            | no l ↦ elim (dec_lt (left o) (left p)) [
              | yes k ↦ absurd (passed_over p o onp on ep (knows r g clean p o onp on (λ i. n (sym i)) lp) k)
              | no k ↦ same_left p o onp on (omega arith)
            ]
          ]
        ]

    -- so from the successor of one that passes zero the end is itself
    comes_back : (o : ℕ) (on : R o ≡ true) → goes o ≡ true → (arrival (next o) (next_runs o on)).end ≡ o
    comes_back o on e =
        let a = arrival (next o) (next_runs o on) in
        let n = q.passes o a.steps a.end on e (soon (next o) (next_runs o on)) a.arrives in
        one_passes o a.end on a.runs e a.ends n.0 n.1

    -- from a the end is o
    abbrev pub Reaches : ℕ → ℕ → Type 0
    Reaches o a = (k : ℕ) × Arrives r k a o

    onto_next : {k x o : ℕ} → R x ≡ true → Arrives r k x o → Reaches o (next x)
    onto_next on (here {p = o} e) =
        let a = arrival (next o) (next_runs o on) in
        (a.steps, subst (Arrives r a.steps (next o)) (comes_back o on e) a.arrives)
    onto_next {o = o} on (onward {k = k} f i a) = (k, subst (λ (u : ℕ). Arrives r k u o) (sym i) a)

    pub fore : (o x : ℕ) → R x ≡ true → Reaches o x → Reaches o (next x)
    fore o x on p = onto_next on p.1

    pub aft : (o x : ℕ) → R x ≡ true → Reaches o (next x) → Reaches o x
    aft o x on p =
        decide (goes x)
        (λ e.
        let i : o ≡ x = same_end p.1 (arrival (next x) (next_runs x on)).arrives ∙ comes_back x on e in
        (0, subst (Arrives r 0 x) (sym i) (here e)))
        (λ e. (suc p.0, onward e refl p.1))

    -- ---- where from everybody the end is o

    lowest_end : {k a p : ℕ} → R a ≡ true → Arrives r k a p → left p ≤ left a
    lowest_end on (here {p = p} e) = omega arith
    lowest_end on (onward {a = a} {b = b} {p = p} f i s) =
        let l = lower a on f in
        let h : left b ≤ left (next a) = rw i (omega arith) in
        let m = lowest_end (ap R (sym i) ∙ next_runs a on) s in
        omega arith

    ends_at_once : {k a p : ℕ} → goes a ≡ true → Arrives r k a p → a ≡ p
    ends_at_once e (here f) = refl
    ends_at_once e (onward f i a) = clash e f

    module _ (o : ℕ) (ono : R o ≡ true) (all : (a : ℕ) → R a ≡ true → Reaches o a) where
      only : (a : ℕ) → R a ≡ true → goes a ≡ true → a ≡ o
      only a on e = ends_at_once e (all a on).1

      bottom : (a : ℕ) → R a ≡ true → left o ≤ left a
      bottom a on = lowest_end on (all a on).1

      -- nobody comes between one that does not pass zero and its successor
      between : (fuel x w : ℕ) → R x ≡ true → R w ≡ true → goes x ≡ false → left (next x) < left w → left w < left x → left x + left w ≤ fuel → ⊥
      between zero x w on onw e l h f = omega arith
      between (suc fuel) x w on onw e l h f =
          let quiet : goes w ≡ false =
          decide (goes w)
          (λ k.
          let b = bottom (next x) (next_runs x on) in
          let i : left w ≡ left o = ap left (only w onw k) in
          absurd (omega arith))
          (λ k. k) in
          let lw = lower w onw quiet in
          elim (dec_lt (left (next x)) (left (next w))) [
            | yes k ↦ between fuel x (next w) on (next_runs w onw) e k (omega arith) (omega arith)
            | no k ↦ elim (dec_lt (left (next w)) (left (next x))) [
              | yes m ↦ between fuel w (next x) onw (next_runs x on) quiet m l (omega arith)
              | no m ↦
                  (let i : next x ≡ next w = same_left (next x) (next w) (next_runs x on) (next_runs w onw) (omega arith) in
                  let j : left x ≡ left w = ap left (next_one t R C v next next_first x w on onw i) in
                  omega arith)
            ]
          ]

      -- the successor of the one that passes zero comes first
      top : (fuel w : ℕ) → R w ≡ true → 16777216 ≤ left w + fuel → left w ≤ left (next o)
      top zero w on f = let s = short w in absurd (omega arith)
      top (suc fuel) w on f =
          let some-chosen : some (size t) (C w) ≡ true = some_in (size t) (C w) (next w) (v.low (next w) (next_runs w on)) (next_first w on).mine in
          let b = first_of t R C v counter_clockwise behind_way w on some-chosen in
          let u : ℕ = b.0 in
          let onu : R u ≡ true = v.run w u on b.1.mine in
          let turned : Ahead u w = turned_first t R C v w u on b.1 in
          let i : next u ≡ w = one_first t R C v clockwise ahead_way u (next u) w onu (next_first u onu) turned in
          decide (goes u)
          (λ e. let j : left w ≡ left (next o) = ap left (sym i) ∙ ap (λ (z : ℕ). left (next z)) (only u onu e) in omega arith)
          (λ e.
          let l = lower u onu e in
          let j : left (next u) ≡ left w = ap left i in
          let h = top fuel u onu (omega arith) in
          omega arith)

      -- every node's successor is the next of all
      pub true_next : (x w : ℕ) → R x ≡ true → R w ≡ true → (w ≡ x → ⊥) → cw x (next x) ≤ cw x w
      true_next x w on onw n =
          elim (dec_lt (cw x w) (cw x (next x))) [
            | no l ↦ omega arith
            | yes l ↦
                (let o' = apart x w on onw n in
                decide (goes x)
                (λ e.
                let p = passing x e in
                let j = jumps x on e in
                let i : left x ≡ left o = ap left (only x on e) in
                let k : left (next x) ≡ left (next o) = ap (λ (z : ℕ). left (next z)) (only x on e) in
                let b = bottom w onw in
                let h = top 16777216 w onw (omega arith) in
                elim (dec_lt (left x) (cw x w)) [
                  | no m ↦ (let s = not_over (cw x w) (left w) (left x) (short w) (omega arith) (adds x w on onw) in absurd (omega arith))
                  | yes m ↦ (let s = over (cw x w) (left w) (left x) m (adds x w on onw) in absurd (omega arith))
                ])
                (λ e.
                let s = staying x on e in
                let f = falls x on e in
                let m = not_over (cw x w) (left w) (left x) (short w) (omega arith) (adds x w on onw) in
                absurd (between (left x + left w) x w on onw e (omega arith) (omega arith) (omega arith))))
          ]
