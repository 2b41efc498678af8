-- Where A = B no ring jams: in a covered ring whoever is held outside a leafset offers a nearer node that holds him.
-- The node next to z on the shorter way to x is in its leafset and nearer to x; and leafsets are mutual. Source 000, Lemma 13.
use mathlib.Core.Path.{◌≡◌, sym, ap, ◌∙◌}
use mathlib.Core.Logic.{inl, inr}
use Prim.Native.Nat.{ℕ, ◌≤◌, ◌<◌, min}
use native.Mathlib.Omega.{arith}
use native.Mathlib.Decide.{dec_lt}
use mathlib.Core.Bool.{true, false, not, ◌&&◌}
use lib.Dec.{ltb, eqb}
use borrow.Author.Tests.{lt-ltb, ltb-true, ne_eqb, eqb-false}
use Rattle.model.specs.Key.{clockwise, counter_clockwise, distance}
use Rattle.model.specs.Sets.{Set, without, some}
use Rattle.model.specs.Leafset.{Table, size, key, leafset, closest}
use Rattle.model.specs.Ring.{Ring, holds, is_running}
use Rattle.model.specs.WellFormed.{WellFormed}
use Rattle.model.proofs.Laws.{clash, and_left, and_right, and_in, not_in, not_out, some_in}
use Rattle.model.proofs.Choices.{Member, Least, least, leafset_within}
use Rattle.model.proofs.LeafsetSize.{clockwise_lt, clockwise_inj, small, same_key}
use Rattle.model.proofs.Routes.{Leads, leads_from, away, next_in_leafset, before_in_leafset, IsNearest, nearest_is}
use Rattle.settle_leafsets.specs.Covered.{Covered, Even}
use Rattle.settle_leafsets.proofs.Mutual.{leafset_mutual}
use Rattle.settle_kept.specs.Jammed.{Jammed}
use Rattle.settle_kept.specs.Improving.{Clean}

-- a part of a way is shorter than the way
first_part_lem : (c v d : ℕ) → c < 16777216 → v < d → 0 < v → Leads c v d → c < d
first_part_lem c v d hc hv o (inl e) = omega arith
first_part_lem c v d hc hv o (inr e) = absurd (omega arith)

last_part : (c v d : ℕ) → v < 16777216 → c < d → 0 < c → Leads c v d → v < d
last_part c v d hv hc o (inl e) = omega arith
last_part c v d hv hc o (inr e) = absurd (omega arith)

strictly : (c d : ℕ) → c ≤ d → (c ≡ d → ⊥) → c < d
strictly c d l n = omega arith

shorter_left : (c v d e : ℕ) → c < d → d ≤ e → min c v < min d e
shorter_left c v d e h l = omega arith

shorter_right : (c v d e : ℕ) → v < e → e ≤ d → min c v < min d e
shorter_right c v d e h l = omega arith

module _
    (r : Ring) (g : WellFormed r) (clean : Clean r) (covered : Covered r)
    (even : Even r.table)
    (x z : ℕ) (on : is_running r x ≡ true) (held : holds r x z ≡ true) (far : leafset r.table x (is_running r) z ≡ false)
  where
    abbrev t : Table
    t = r.table

    abbrev R : Set
    R = is_running r

    runs : R z ≡ true
    runs = clean.holds_running x on z held

    hx : x < size t
    hx = (g.node_well x).running_low on

    hz : z < size t
    hz = (g.node_well z).running_low runs

    differ : z ≡ x → ⊥
    differ = ((g.node_well x).own_well.held_other z held).differs

    -- x is not in z's leafset either
    not_mine : leafset t z R x ≡ false
    not_mine = leafset_mutual t g.table_well R even z x hz hx runs on ∙ far

    sm : (y : ℕ) → y < size t → key t y < 16777216
    sm y h = small t g.table_well y h

    abbrev others : Set
    others = without R z

    me : Member (size t) others x
    me = record { below = hx; within = and_in on (not_in (ne_eqb x z (λ i. differ (sym i)))) }

    any : some (size t) others ≡ true
    any = some_in (size t) others x hx me.within

    next : Least (size t) others (λ w. clockwise (key t z) (key t w))
    next = least (size t) others (λ w. clockwise (key t z) (key t w)) any

    before : Least (size t) others (λ w. counter_clockwise (key t z) (key t w))
    before = least (size t) others (λ w. counter_clockwise (key t z) (key t w)) any

    next_mine : leafset t z R next.best ≡ true
    next_mine = next_in_leafset t z R g.table_well.sides_well.ahead_low next

    before_mine : leafset t z R before.best ≡ true
    before_mine = before_in_leafset t z R g.table_well.sides_well.behind_low before

    not_x : (w : ℕ) → leafset t z R w ≡ true → w ≡ x → ⊥
    not_x w e i = clash e (ap (leafset t z R) i ∙ not_mine)

    apart : (u v : ℕ) → u < size t → v < size t → (u ≡ v → ⊥) → 0 < clockwise (key t u) (key t v)
    apart u v hu hv n = away (key t u) (key t v) (sm u hu) (sm v hv) (λ i. n (same_key t g.table_well u v hu hv i))

    out : (w : ℕ) → others w ≡ true → w ≡ z → ⊥
    out w e i = eqb-false w z (not_out (eqb w z) (and_right (R w) (not (eqb w z)) e)) i

    -- whom z may offer x
    abbrev offered : Set
    offered w = without (leafset t z (holds r z)) x w && ltb (distance (key t x) (key t w)) (distance (key t x) (key t z))

    offers : (w : ℕ) → w < size t → leafset t z R w ≡ true → distance (key t x) (key t w) < distance (key t x) (key t z) → some (size t) offered ≡ true
    offers w hw e l =
        some_in (size t) offered w hw
        (and_in (and_in (covered.leafset_held z runs w ∙ e) (not_in (ne_eqb w x (not_x w e))))
        (lt-ltb (distance (key t x) (key t w)) (distance (key t x) (key t z)) l))

    -- on the shorter way from z to x lies the next node on that side
    some_offered : some (size t) offered ≡ true
    some_offered =
        elim (dec_lt (clockwise (key t x) (key t z)) (clockwise (key t z) (key t x))) [
          | yes l ↦
              (let p : ℕ = before.best in
              let hp = before.member.below in
              let near : clockwise (key t p) (key t z) < clockwise (key t x) (key t z) =
              strictly _ _ (before.no_less x me) (λ i. not_x p before_mine (same_key t g.table_well p x hp hx (turned p hp i))) in
              offers p hp before_mine
              (shorter_left (clockwise (key t x) (key t p)) (clockwise (key t p) (key t x)) (clockwise (key t x) (key t z)) (clockwise (key t z) (key t x))
              (first_part_lem (clockwise (key t x) (key t p)) (clockwise (key t p) (key t z)) (clockwise (key t x) (key t z))
              (clockwise_lt (key t x) (key t p)) near
              (apart p z hp hz (out p before.member.within))
              (leads_from (key t x) (key t z) (key t p) (sm x hx) (sm z hz) (sm p hp)))
              (omega arith)))
          | no l ↦
              (let s : ℕ = next.best in
              let hs = next.member.below in
              let near : clockwise (key t z) (key t s) < clockwise (key t z) (key t x) =
              strictly _ _ (next.no_less x me)
              (λ i. not_x s next_mine (same_key t g.table_well s x hs hx (clockwise_inj (key t z) (key t s) (key t x) (sm z hz) (sm s hs) (sm x hx) i))) in
              offers s hs next_mine
              (shorter_right (clockwise (key t x) (key t s)) (clockwise (key t s) (key t x)) (clockwise (key t x) (key t z)) (clockwise (key t z) (key t x))
              (last_part (clockwise (key t z) (key t s)) (clockwise (key t s) (key t x)) (clockwise (key t z) (key t x)) (clockwise_lt (key t s) (key t x)) near
              (apart z s hz hs (λ i. out s next.member.within (sym i)))
              (leads_from (key t z) (key t x) (key t s) (sm z hz) (sm x hx) (sm s hs)))
              (omega arith)))
        ]
      where
        to_same : (a b c : ℕ) → a < 16777216 → b < 16777216 → c < 16777216 → clockwise a c ≡ clockwise b c → a ≡ b
        to_same a b c ha hb hc i = omega arith

        turned : (p : ℕ) → p < size t → clockwise (key t p) (key t z) ≡ clockwise (key t x) (key t z) → key t p ≡ key t x
        turned p hp i = to_same (key t p) (key t x) (key t z) (sm p hp) (sm x hx) (sm z hz) i

    pub offer_is : IsNearest t (key t x) offered (closest t z (holds r z) x)
    unfolding closest
    offer_is = nearest_is t (key t x) offered some_offered

    -- the offer runs, is nearer to x than z is, and holds z
    pub record GoodOffer (y : ℕ) : Type 0 where
      pub offer_runs : R y ≡ true
      pub offer_nearer : distance (key t x) (key t y) < distance (key t x) (key t z)
      pub offer_holds : holds r y z ≡ true

    pub even_offers : GoodOffer (closest t z (holds r z) x)
    even_offers =
        let y : ℕ = closest t z (holds r z) x in
        let w : (without (leafset t z (holds r z)) x y && ltb (distance (key t x) (key t y)) (distance (key t x) (key t z))) ≡ true = offer_is.within in
        let mine : leafset t z R y ≡ true =
        sym (covered.leafset_held z runs y) ∙ and_left (leafset t z (holds r z) y) _ (and_left (without (leafset t z (holds r z)) x y) _ w) in
        let there : R y ≡ true = leafset_within t z R y mine in
        record {
          offer_runs = there;
          offer_nearer = ltb-true (distance (key t x) (key t y)) (distance (key t x) (key t z)) (and_right (without (leafset t z (holds r z)) x y) _ w);
          offer_holds = leafset_within t y (holds r y) z
              (covered.leafset_held y there z ∙ leafset_mutual t g.table_well R even y z offer_is.below hz there runs ∙ mine);
        }

-- so where A and B are equal no clean and covered ring is jammed
pub even_never_jams : (r : Ring) → WellFormed r → Clean r → Covered r → Even r.table → (x z : ℕ) → ¬ Jammed x z r
even_never_jams r g clean covered even x z jam =
    clash (even_offers r g clean covered even x z jam.stuck.runs jam.stuck.held jam.stuck.far).offer_holds jam.stuck.offer
