-- Reaches: a reach comes nearer to the owner with each hop and ends there; each hop but the last halves the way to the last running
-- node before the key, by the doubling rule of the table of spans.
use mathlib.Core.Path.{◌≡◌, refl, sym, ap, ◌∙◌, subst}
use mathlib.Core.Logic.{◌⊎◌, inl, inr}
use Prim.Native.Nat.{ℕ, zero, suc, ◌+◌, ◌-◌, ◌*◌, ◌%◌, ◌≤◌, ◌<◌, zero-le}
use native.Mathlib.Nat.{le_refl}
use native.Mathlib.Omega.{arith}
use native.Mathlib.Decide.{dec_lt, ℕ_discrete}
use mathlib.Core.Bool.{Bool, true, false}
use mathlib.Core.List.{List}
use lib.ListN.{length, get_or}
use lib.Dec.{ltb, eqb}
use borrow.Author.Tests.{lt-ltb, ltb-true, eq-eqb, eqb-true, eqb-false, ne_eqb, ltb-false}
use Rattle.std.specs.Prelude.{if◌then◌else◌}
use Rattle.model.specs.Key.{clockwise, counter_clockwise}
use Rattle.model.specs.Sets.{all, some}
use Rattle.model.specs.Leafset.{size, key, first_met}
use Rattle.model.specs.Ring.{Ring, is_running}
use Rattle.model.specs.Reach.{spans, here, one_more, finger, fingers, owner, between, fingers_between, next, reach_within}
use Rattle.model.specs.Reach.{to_owner, reach, last_before, to_last, reach_refusals, reach_answer, reach_of}
use Rattle.model.specs.Words.{decode, reads_as_ring}
use Rattle.model.specs.WellFormed.{WellFormed, Each, nil, cons}
use Rattle.model.proofs.Laws.{and_left, and_right, and_in, decide, is_false, not_out_false, all_out, some_in, some_out}
use Rattle.model.proofs.Lists.{first, rest}
use Rattle.model.proofs.Answers.{none_applies}
use Rattle.model.proofs.Decoded.{reads_well}
use Rattle.model.proofs.Choices.{Member, Met, first_met_lem}
use Rattle.model.proofs.LeafsetSize.{round, clockwise_lt, clockwise_inj, small, same_key}
use Rattle.model.proofs.Routes.{Leads, leads_from, away}

-- ---- the table of spans

table_doubles : all 23 (λ i. eqb (get_or spans (i + 1) 0) (2 * get_or spans i 0)) ≡ true
unfolding all spans
table_doubles = refl

-- the rule of the table, at each entry
pub doubles : (i : ℕ) → i < 23 → get_or spans (i + 1) 0 ≡ 2 * get_or spans i 0
doubles i h =
    eqb-true (get_or spans (i + 1) 0) (2 * get_or spans i 0) (all_out 23 (λ i. eqb (get_or spans (i + 1) 0) (2 * get_or spans i 0)) table_doubles i h)

pub first_span : get_or spans 0 0 ≡ 1
unfolding spans
first_span = refl

pub last_span : get_or spans 23 0 ≡ 8388608
unfolding spans
last_span = refl

table_length : length spans ≡ 24
unfolding spans
table_length = refl

abbrev span : ℕ → ℕ
span i = get_or spans i 0

span_next : (i : ℕ) → suc i < 24 → span (suc i) ≡ 2 * span i
span_next i h = let e : i + 1 ≡ suc i = omega arith in ap (λ (k : ℕ). get_or spans k 0) (sym e) ∙ doubles i (omega arith)

span_rises : (i j : ℕ) → i ≤ j → j < 24 → span i ≤ span j
span_rises i zero h l = let e : i ≡ 0 = omega arith in rw e (le_refl (span 0))
span_rises i (suc j) h l =
    elim (ℕ_discrete i (suc j)) [
      | yes e ↦ rw e (le_refl (span (suc j)))
      | no d ↦ omega (arith, span_rises i j (omega arith) (omega arith), span_next j l)
    ]

span_low : (i : ℕ) → i < 24 → 1 ≤ span i
span_low i h = omega (arith, span_rises 0 i (omega arith) h, first_span)

span_high : (i : ℕ) → i < 24 → span i < 16777216
span_high i h = omega (arith, span_rises i 23 (omega arith) (omega arith), last_span)

-- of two spans, the greater is at least twice the other
span_below : (i j : ℕ) → i < 24 → j < 24 → span j < 2 * span i → span j ≤ span i
span_below i j hi hj l =
    elim (dec_lt i j) [
      | yes k ↦ absurd (omega (arith, span_rises (suc i) j k hj, span_next i (omega arith)))
      | no k ↦ span_rises j i (omega arith) hi
    ]

-- the span that a way is at least, and less than twice
record Spanned (d : ℕ) : Type 0 where
  index : ℕ
  index_low : index < 24
  from : span index ≤ d
  below : d < 2 * span index

spanned : (k d : ℕ) → k < 24 → 0 < d → d < 2 * span k → Spanned d
spanned zero d h o l = record { index = 0; index_low = h; from = omega (arith, first_span); below = l }
spanned (suc k) d h o l =
    elim (dec_lt d (span (suc k))) [
      | yes b ↦ spanned k d (omega arith) o (omega (arith, span_next k h))
      | no b ↦ record { index = suc k; index_low = h; from = omega arith; below = l }
    ]

-- ---- ways round the ring

-- from the place a span further on
leads_ahead : (k s b : ℕ) → k < 16777216 → s < 16777216 → b < 16777216 → Leads s (clockwise (k + s) b) (clockwise k b)
leads_ahead k s b hk hs hb = subst (λ (m : ℕ). Leads m (clockwise (k + s) b) (clockwise k b)) way (rw (← same) (leads_from k b place hk hb (omega arith)))
  where
    place : ℕ
    place = (k + s) % 16777216

    way : clockwise k place ≡ s
    way = omega arith

    same : clockwise place b ≡ clockwise (k + s) b
    same = let e : place % 16777216 ≡ (k + s) % 16777216 = omega arith in ap (λ (m : ℕ). (b + (16777216 - m)) % 16777216) e

-- to the place before
leads_before : (k a : ℕ) → k < 16777216 → a < 16777216 → Leads 1 (clockwise k (a + 16777215)) (clockwise k a)
leads_before k a hk ha =
    elim (ℕ_discrete k a) [
      | yes e ↦ inr (omega arith)
      | no d ↦ inl (omega arith)
    ]

-- the way is the sum of its parts, where the part is not longer
no_wrap : (c u c' : ℕ) → c ≤ c' → u < 16777216 → Leads c u c' → c + u ≡ c'
no_wrap c u c' h l (inl e) = e
no_wrap c u c' h l (inr e) = absurd (omega arith)

-- or where the sum is not once round
no_turn : (c u c' : ℕ) → c + u < 16777216 → Leads c u c' → c + u ≡ c'
no_turn c u c' h (inl e) = e
no_turn c u c' h (inr e) = absurd (omega arith)

-- a running node that is not the owner of the key
pub record Present (r : Ring) (a x : ℕ) : Type 0 where
  pub runs : is_running r x ≡ true
  pub not_owner : x ≡ owner r a → ⊥

-- a hop over a span: of the running nodes that lie at least the span ahead and not beyond the last before the key, to the first
pub record Hop (r : Ring) (a x span : ℕ) : Type 0 where
  pub present : Present r a (next r a x)
  pub over : to_last r a (next r a x) + span ≤ to_last r a x
  pub farthest : (z : ℕ) → is_running r z ≡ true → to_last r a z + span ≤ to_last r a x → to_last r a z ≤ to_last r a (next r a x)

module _ (r : Ring) (well : WellFormed r) (a : ℕ) (low : a ≤ 16777215) where
  abbrev key_of : ℕ → ℕ
  key_of y = key r.table y

  -- how far it is clockwise from x to y
  abbrev way : ℕ → ℕ → ℕ
  way x y = clockwise (key_of x) (key_of y)

  abbrev Runs : ℕ → Type 0
  Runs y = is_running r y ≡ true

  node_low : (y : ℕ) → Runs y → y < size r.table
  node_low y runs = (well.node_well y).running_low runs

  key_low : (y : ℕ) → Runs y → key_of y < 16777216
  key_low y runs = small r.table well.table_well y (node_low y runs)

  as_member : (y : ℕ) → Runs y → Member (size r.table) (is_running r) y
  as_member y runs = record { below = node_low y runs; within = runs }

  same_node_lem : (y z : ℕ) → Runs y → Runs z → key_of y ≡ key_of z → y ≡ z
  same_node_lem y z hy hz e = same_key r.table well.table_well y z (node_low y hy) (node_low z hz) e

  same_way : (x y z : ℕ) → Runs x → Runs y → Runs z → way x y ≡ way x z → y ≡ z
  same_way x y z hx hy hz e = same_node_lem y z hy hz (clockwise_inj (key_of x) (key_of y) (key_of z) (key_low x hx) (key_low y hy) (key_low z hz) e)

  no_way : (x : ℕ) → Runs x → way x x ≡ 0
  no_way x hx = let h = key_low x hx in omega arith

  -- from x over y to z
  over_node : (x y z : ℕ) → Runs x → Runs y → Runs z → Leads (way x y) (way y z) (way x z)
  over_node x y z hx hy hz = leads_from (key_of x) (key_of z) (key_of y) (key_low x hx) (key_low z hz) (key_low y hy)

  -- the running node first met from a place
  met : (d : ℕ → ℕ → ℕ) (place x : ℕ) → Runs x → Met r.table d place (is_running r) (first_met r.table d place (is_running r))
  met d place x hx = first_met_lem r.table d place (is_running r) (some_in (size r.table) (is_running r) x (node_low x hx) hx)

  module _ (x : ℕ) (hx : Runs x) where
    pub owner_met : Met r.table clockwise a (is_running r) (owner r a)
    unfolding owner
    owner_met = met clockwise a x hx

    last_met : Met r.table counter_clockwise (a + 16777215) (is_running r) (last_before r a)
    unfolding last_before
    last_met = met counter_clockwise (a + 16777215) x hx

    finger_met : (s : ℕ) → Met r.table clockwise (key_of x + s) (is_running r) (finger r x s)
    unfolding finger
    finger_met s = met clockwise (key_of x + s) x hx

    pub owner_runs : Runs (owner r a)
    owner_runs = owner_met.member.within

    last_runs : Runs (last_before r a)
    last_runs = last_met.member.within

  module _ (x : ℕ) (p : Present r a x) where
    hx : Runs x
    hx = p.runs

    -- how far it is clockwise to the key
    abbrev to_key : ℕ
    to_key = clockwise (key_of x) a

    over_key : (z : ℕ) → Runs z → Leads to_key (clockwise a (key_of z)) (way x z)
    over_key z hz = leads_from (key_of x) (key_of z) a (key_low x hx) (key_low z hz) (omega arith)

    nearest_owner : (z : ℕ) → Runs z → clockwise a (key_of (owner r a)) ≤ clockwise a (key_of z)
    nearest_owner z hz = (owner_met x hx).no_farther z (as_member z hz)

    -- a node at the key would be the owner
    key_ahead : 0 < to_key
    key_ahead =
        away (key_of x) a (key_low x hx) (omega arith)
        (λ e.
        let at : clockwise a (key_of x) ≡ 0 = rw e (omega arith) in
        p.not_owner (same_node_lem x (owner r a) hx (owner_runs x hx)
        (clockwise_inj a (key_of x) (key_of (owner r a)) (omega arith) (key_low x hx) (key_low (owner r a) (owner_runs x hx))
        (omega (arith, at, nearest_owner x hx)))))

    -- ahead of x lie the nodes up to the last before the key, the key, the owner, and the nodes from there on
    key_before_owner : to_key ≤ to_owner r a x
    key_before_owner = go (over_key (owner r a) (owner_runs x hx)) (over_key x hx)
      where
        differ : to_owner r a x ≡ 0 → ⊥
        differ e = p.not_owner (same_way x x (owner r a) hx hx (owner_runs x hx) (no_way x hx ∙ sym e))

        go : Leads to_key (clockwise a (key_of (owner r a))) (to_owner r a x) → Leads to_key (clockwise a (key_of x)) (way x x) → to_key ≤ to_owner r a x
        go (inl e) f = omega arith
        go (inr e) (inl f) = absurd (omega (arith, no_way x hx, key_ahead))
        go (inr e) (inr f) = absurd (differ (omega (arith, no_way x hx, nearest_owner x hx)))

    owner_ahead : 1 ≤ to_owner r a x
    owner_ahead = omega (arith, key_ahead, key_before_owner)

    owner_or_before : (z : ℕ) → Runs z → (way x z < to_key) ⊎ (to_owner r a x ≤ way x z)
    owner_or_before z hz = go (over_key z hz)
      where
        go : Leads to_key (clockwise a (key_of z)) (way x z) → (way x z < to_key) ⊎ (to_owner r a x ≤ way x z)
        go (inr e) = inl (omega (arith, clockwise_lt a (key_of z)))
        go (inl e) =
            let k = nearest_owner z hz in
            let l = clockwise_lt (key_of x) (key_of z) in
            let f = no_turn to_key (clockwise a (key_of (owner r a))) (to_owner r a x) (omega arith) (over_key (owner r a) (owner_runs x hx)) in
            inr (omega arith)

    -- from a node before the key, the way to the place before the key
    short_of_key : (z : ℕ) → Runs z → way x z < to_key → way x z + 1 + clockwise (key_of z) (a + 16777215) ≡ to_key
    short_of_key z hz h =
        let e = no_wrap (way x z) (clockwise (key_of z) a) to_key (omega arith) (clockwise_lt (key_of z) a)
        (leads_from (key_of x) a (key_of z) (key_low x hx) (omega arith) (key_low z hz)) in
        let f = no_wrap 1 (clockwise (key_of z) (a + 16777215)) (clockwise (key_of z) a) (omega arith) (clockwise_lt (key_of z) (a + 16777215))
        (leads_before (key_of z) a (key_low z hz) (omega arith)) in
        omega arith

    nearest_last : (z : ℕ) → Runs z → clockwise (key_of (last_before r a)) (a + 16777215) ≤ clockwise (key_of z) (a + 16777215)
    nearest_last z hz = (last_met x hx).no_farther z (as_member z hz)

    last_before_key : to_last r a x < to_key
    last_before_key =
        let y : ℕ = last_before r a in
        let hy : Runs y = last_runs x hx in
        let k = nearest_last x hx in
        let l = short_of_key x hx (omega (arith, no_way x hx, key_ahead)) in
        let f = no_turn 1 (clockwise (key_of y) (a + 16777215)) (clockwise (key_of y) a) (omega (arith, no_way x hx, clockwise_lt (key_of x) a))
        (leads_before (key_of y) a (key_low y hy) (omega arith)) in
        go (clockwise (key_of y) a) (omega (arith, no_way x hx)) (omega arith)
        (leads_from (key_of x) a (key_of y) (key_low x hx) (omega arith) (key_low y hy))
      where
        go : (u : ℕ) → u ≤ to_key → 0 < u → Leads (to_last r a x) u to_key → to_last r a x < to_key
        go u h o (inl e) = omega arith
        go u h o (inr e) = absurd (omega (arith, clockwise_lt (key_of x) (key_of (last_before r a))))

    not_past_last : (z : ℕ) → Runs z → way x z < to_key → way x z ≤ to_last r a x
    not_past_last z hz h = omega (arith, short_of_key z hz h, short_of_key (last_before r a) (last_runs x hx) last_before_key, nearest_last z hz)

    -- ---- fingers

    -- y runs, and is x or lies at least the span ahead; of the nodes that do, it is the first
    record Finger (s y : ℕ) : Type 0 where
      runs : Runs y
      ahead : 0 < way x y → s ≤ way x y
      met_ahead : (z : ℕ) → Runs z → s ≤ way x z → s ≤ way x y
      met_first : (z : ℕ) → Runs z → s ≤ way x z → way x y ≤ way x z

    finger_is : (s : ℕ) → 1 ≤ s → s < 16777216 → Finger s (finger r x s)
    finger_is s o h =
        record {
          runs = hy;
          ahead = λ k. past (seen y hy) (seen x hx) (nearer x hx) k;
          met_ahead = λ z hz k. let e = reached z hz k in omega arith;
          met_first = λ z hz k. omega (arith, reached z hz k, nearer z hz, no_wrap s (from z) (way x z) k (from_lt z) (seen z hz));
        }
      where
        y : ℕ
        y = finger r x s

        hy : Runs y
        hy = (finger_met x hx s).member.within

        -- how far it is from the place a span ahead
        from : ℕ → ℕ
        from z = clockwise (key_of x + s) (key_of z)

        from_lt : (z : ℕ) → from z < 16777216
        from_lt z = clockwise_lt (key_of x + s) (key_of z)

        seen : (z : ℕ) → Runs z → Leads s (from z) (way x z)
        seen z hz = leads_ahead (key_of x) s (key_of z) (key_low x hx) h (key_low z hz)

        nearer : (z : ℕ) → Runs z → from y ≤ from z
        nearer z hz = (finger_met x hx s).no_farther z (as_member z hz)

        reached : (z : ℕ) → Runs z → s ≤ way x z → s + from y ≡ way x y
        reached z hz k =
            no_turn s (from y) (way x y)
            (omega (arith, nearer z hz, no_wrap s (from z) (way x z) k (from_lt z) (seen z hz), clockwise_lt (key_of x) (key_of z)))
            (seen y hy)

        past : Leads s (from y) (way x y) → Leads s (from x) (way x x) → from y ≤ from x → 0 < way x y → s ≤ way x y
        past (inl e) f n k = omega arith
        past (inr e) (inl f) n k = absurd (omega (arith, no_way x hx))
        past (inr e) (inr f) n k = absurd (omega (arith, no_way x hx))

    -- a finger of x that lies strictly between x and the key
    record Between (y : ℕ) : Type 0 where
      index : ℕ
      index_low : index < 24
      is_finger : Finger (span index) y
      forth : 0 < way x y
      short : way x y < to_key

    between_out : (y : ℕ) → fingers_between r a x y ≡ true → Between y
    unfolding fingers
    between_out y e =
        let b : between r a x y ≡ true = and_left (between r a x y) (fingers r x y) e in
        let f = some_out (length spans) (λ i. eqb y (finger r x (span i))) (and_right (between r a x y) (fingers r x y) e) in
        let l : f.0 < 24 = rw (← table_length) f.1 in
        record {
          index = f.0;
          index_low = l;
          is_finger = subst (Finger (span f.0)) (sym (eqb-true y (finger r x (span f.0)) f.2))
              (finger_is (span f.0) (span_low f.0 l) (span_high f.0 l));
          forth = ltb-true 0 (way x y) (and_left (ltb 0 (way x y)) (ltb (way x y) to_key) b);
          short = ltb-true (way x y) to_key (and_right (ltb 0 (way x y)) (ltb (way x y) to_key) b);
        }

    between_in : (i : ℕ) → i < 24 → 0 < way x (finger r x (span i)) → way x (finger r x (span i)) < to_key
        → Member (size r.table) (fingers_between r a x) (finger r x (span i))
    unfolding fingers
    between_in i h o l =
        let y : ℕ = finger r x (span i) in
        record {
          below = node_low y (finger_is (span i) (span_low i h) (span_high i h)).runs;
          within = and_in (and_in (lt-ltb 0 (way x y) o) (lt-ltb (way x y) to_key l))
              (some_in (length spans) (λ j. eqb y (finger r x (span j))) i (rw table_length h) (eq-eqb y y refl));
        }

    abbrev any : Bool
    any = some (size r.table) (fingers_between r a x)

    -- where there is a finger between, the next node is one, and none lies farther
    next_met : any ≡ true → Met r.table counter_clockwise (key_of x) (fingers_between r a x) (next r a x)
    unfolding next
    next_met e = rw e (first_met_lem r.table counter_clockwise (key_of x) (fingers_between r a x) e)

    next_between : any ≡ true → Between (next r a x)
    next_between e = between_out (next r a x) (next_met e).member.within

    -- once round the ring
    there_and_back : (y : ℕ) → Between y → way x y + way y x ≡ 16777216
    there_and_back y b =
        round (key_of x) (key_of y) (key_low x hx) (key_low y b.is_finger.runs)
        (λ e. let k : way x y ≡ 0 = rw e (no_way x hx) in omega (arith, b.forth))

    next_farthest : (e : any ≡ true) (y : ℕ) → Member (size r.table) (fingers_between r a x) y → way x y ≤ way x (next r a x)
    next_farthest e y m =
        omega (arith, (next_met e).no_farther y m, there_and_back y (between_out y m.within), there_and_back (next r a x) (next_between e))

    -- else it is the finger of span 1
    next_finger : any ≡ false → next r a x ≡ finger r x 1
    unfolding next
    next_finger e = rw e

    first_finger : Finger 1 (finger r x 1)
    first_finger = finger_is 1 (omega arith) (omega arith)

    -- ---- a hop

    -- it goes on, and not past the owner
    record Onward (y : ℕ) : Type 0 where
      runs : Runs y
      forth : 0 < way x y
      not_past : way x y ≤ to_owner r a x

    onward : Onward (next r a x)
    onward =
        decide any
        (λ e.
        let b = next_between e in
        record { runs = b.is_finger.runs; forth = b.forth; not_past = omega (arith, b.short, key_before_owner) })
        (λ e.
        rw (next_finger e)
        (record {
          runs = first_finger.runs;
          forth = first_finger.met_ahead (owner r a) (owner_runs x hx) owner_ahead;
          not_past = first_finger.met_first (owner r a) (owner_runs x hx) owner_ahead;
        }))

    pub next_runs : Runs (next r a x)
    next_runs = onward.runs

    -- the way to the owner falls
    pub next_nearer : to_owner r a (next r a x) < to_owner r a x
    next_nearer =
        omega (
          arith,
          onward.forth,
          no_wrap (way x (next r a x)) (to_owner r a (next r a x)) (to_owner r a x) onward.not_past (clockwise_lt (key_of (next r a x)) (key_of (owner r a)))
              (over_node x (next r a x) (owner r a) hx onward.runs (owner_runs x hx)),
        )

    -- and so does the way to the last, from a node that is not past it
    to_last_lem : (z : ℕ) → Runs z → way x z ≤ to_last r a x → way x z + to_last r a z ≡ to_last r a x
    to_last_lem z hz h =
        no_wrap (way x z) (to_last r a z) (to_last r a x) h (clockwise_lt (key_of z) (key_of (last_before r a)))
        (over_node x z (last_before r a) hx hz (last_runs x hx))

    module _ (i : ℕ) (h : i < 24) (from : span i ≤ to_last r a x) (below : to_last r a x < 2 * span i) where
      -- the finger of that span
      f : ℕ
      f = finger r x (span i)

      f_is : Finger (span i) f
      unfolding f
      f_is = finger_is (span i) (span_low i h) (span_high i h)

      f_ahead : span i ≤ way x f
      f_ahead = f_is.met_ahead (last_before r a) (last_runs x hx) from

      f_member : Member (size r.table) (fingers_between r a x) f
      unfolding f
      f_member =
          between_in i h (omega (arith, f_ahead, span_low i h)) (omega (arith, f_is.met_first (last_before r a) (last_runs x hx) from, last_before_key))

      exists : any ≡ true
      exists = some_in (size r.table) (fingers_between r a x) f f_member.below f_member.within

      next_is : Between (next r a x)
      next_is = next_between exists

      next_short : way x (next r a x) ≤ to_last r a x
      next_short = not_past_last (next r a x) next_runs next_is.short

      -- the finger of span i is the farthest between: one of a greater span would lie beyond the last
      as_far_lem : way x (next r a x) ≡ way x f
      as_far_lem =
          let j : ℕ = next_is.index in
          let n : span j ≤ way x (next r a x) = next_is.is_finger.ahead next_is.forth in
          let k : span j ≤ span i = span_below i j h next_is.index_low (omega (arith, next_short)) in
          omega (arith, next_farthest exists f f_member, next_is.is_finger.met_first f f_is.runs (omega (arith, f_ahead)))

      farther_on : (z : ℕ) → Runs z → to_last r a z + span i ≤ to_last r a x → to_last r a z ≤ to_last r a (next r a x)
      farther_on z hz k = go (over_node x z (last_before r a) hx hz (last_runs x hx))
        where
          go : Leads (way x z) (to_last r a z) (to_last r a x) → to_last r a z ≤ to_last r a (next r a x)
          go (inl e) = omega (arith, as_far_lem, f_is.met_first z hz (omega arith), to_last_lem (next r a x) next_runs next_short)
          go (inr e) = absurd (omega (arith, clockwise_lt (key_of x) (key_of z)))

    pub hop : (i : ℕ) → i < 24 → get_or spans i 0 ≤ to_last r a x → to_last r a x < 2 * get_or spans i 0 → Hop r a x (get_or spans i 0)
    hop i h from below =
        record {
          present = record {
            runs = next_runs;
            not_owner = λ e. let k : way x (next r a x) ≡ to_owner r a x = ap (way x) e in omega (arith, (next_is i h from below).short, key_before_owner);
          };
          over = omega (arith, as_far_lem i h from below, f_ahead i h from below, to_last_lem (next r a x) next_runs (next_short i h from below));
          farthest = farther_on i h from below;
        }

    pub last_hop : to_last r a x ≡ 0 → next r a x ≡ owner r a
    last_hop e =
        next_finger (is_false any nobody)
        ∙ same_way x (finger r x 1) (owner r a) hx first_finger.runs (owner_runs x hx)
        (omega (arith, first_finger.met_first (owner r a) (owner_runs x hx) owner_ahead, beyond (owner_or_before (finger r x 1) first_finger.runs)))
      where
        beyond : (way x (finger r x 1) < to_key) ⊎ (to_owner r a x ≤ way x (finger r x 1)) → to_owner r a x ≤ way x (finger r x 1)
        beyond (inl h) =
            absurd (omega (arith, not_past_last (finger r x 1) first_finger.runs h, first_finger.met_ahead (owner r a) (owner_runs x hx) owner_ahead))
        beyond (inr h) = h

        nobody : any ≡ true → ⊥
        nobody i = let b = next_between i in omega (arith, b.forth, not_past_last (next r a x) next_runs b.short)

    -- each hop but the last halves the way to the last
    pub reach_halves : (next r a x ≡ owner r a) ⊎ (2 * to_last r a (next r a x) < to_last r a x)
    reach_halves =
        elim (ℕ_discrete (to_last r a x) 0) [
          | yes e ↦ inl (last_hop e)
          | no d ↦
              (let s : Spanned (to_last r a x) =
              spanned 23 (to_last r a x) (omega arith) (omega arith) (omega (arith, last_span, clockwise_lt (key_of x) (key_of (last_before r a)))) in
              inr (omega (arith, (hop s.index s.index_low s.from s.below).over, s.below)))
        ]

    last_low : to_last r a x + 2 ≤ 16777216
    last_low = omega (arith, last_before_key, clockwise_lt (key_of x) a)

  -- ---- a reach

  is_present : (x : ℕ) → Runs x → eqb x (owner r a) ≡ false → Present r a x
  is_present x runs e = record { runs = runs; not_owner = eqb-false x (owner r a) e }

  -- where no way is left, there is the owner
  at_owner : (x : ℕ) → Runs x → to_owner r a x ≤ 0 → x ≡ owner r a
  at_owner x runs h = same_way x x (owner r a) runs runs (owner_runs x runs) (omega (arith, no_way x runs))

  stops : (x : ℕ) → Runs x → to_owner r a x ≤ 0 → eqb x (owner r a) ≡ true
  stops x runs h = eq-eqb x (owner r a) (at_owner x runs h)

  -- any two bounds that are high enough give the same reach
  within_same : (h k x : ℕ) → Runs x → to_owner r a x ≤ h → to_owner r a x ≤ k → reach_within r a h x ≡ reach_within r a k x
  unfolding reach_within
  within_same zero zero x runs p q = refl
  within_same zero (suc k) x runs p q = rw (stops x runs p)
  within_same (suc h) zero x runs p q = rw (stops x runs q)
  within_same (suc h) (suc k) x runs p q =
      decide (eqb x (owner r a))
      (λ e. rw e)
      (λ e.
      let l = next_nearer x (is_present x runs e) in
      rw e (ap one_more (within_same h k (next r a x) (next_runs x (is_present x runs e)) (omega arith) (omega arith))))

  pub reach_from : (x : ℕ) → is_running r x ≡ true → reach r a x ≡ (if eqb x (owner r a) then here x else one_more (reach r a (next r a x)))
  unfolding reach reach_within
  reach_from x runs =
      within_same (to_owner r a x) (suc (to_owner r a x)) x runs (le_refl _) (omega arith)
      ∙ decide (eqb x (owner r a))
      (λ e. rw e)
      (λ e.
      let l = next_nearer x (is_present x runs e) in
      rw e (ap one_more (within_same (to_owner r a x) (to_owner r a (next r a x)) (next r a x) (next_runs x (is_present x runs e)) (omega arith) (le_refl _))))

  within_ends : (h x : ℕ) → Runs x → to_owner r a x ≤ h → (reach_within r a h x).end ≡ owner r a
  unfolding reach_within
  within_ends zero x runs p = at_owner x runs p
  within_ends (suc h) x runs p =
      decide (eqb x (owner r a))
      (λ e. rw e (eqb-true x (owner r a) e))
      (λ e.
      let l = next_nearer x (is_present x runs e) in
      rw e (within_ends h (next r a x) (next_runs x (is_present x runs e)) (omega arith)))

  pub reach_ends : (x : ℕ) → is_running r x ≡ true → (reach r a x).end ≡ owner r a
  unfolding reach
  reach_ends x runs = within_ends (to_owner r a x) x runs (le_refl _)

  pub one_hop : (x : ℕ) → Present r a x → (reach r a x).hops ≡ suc (reach r a (next r a x)).hops
  one_hop x p = rw (reach_from x p.runs, ne_eqb x (owner r a) p.not_owner)

  -- at the owner no hop is made
  hops_by : (m x : ℕ) → Runs x → (Present r a x → (reach r a x).hops ≤ m) → (reach r a x).hops ≤ m
  hops_by m x runs f = decide (eqb x (owner r a)) (λ e. rw (reach_from x runs, e) zero-le) (λ e. f (is_present x runs e))

  halved : (x : ℕ) → Present r a x → Present r a (next r a x) → 2 * to_last r a (next r a x) < to_last r a x
  halved x p q = go (reach_halves x p)
    where
      go : (next r a x ≡ owner r a) ⊎ (2 * to_last r a (next r a x) < to_last r a x) → 2 * to_last r a (next r a x) < to_last r a x
      go (inl e) = absurd (q.not_owner e)
      go (inr h) = h

  -- by the doubling rule, one hop more is enough for the next span
  short_by : (m x : ℕ) → m < 24 → Present r a x → to_last r a x + 2 ≤ 2 * span m → (reach r a x).hops ≤ suc m
  short_by zero x h p l =
      let k = hops_by 0 (next r a x) (next_runs x p) (λ q. absurd (omega (arith, first_span, halved x p q))) in
      omega (arith, one_hop x p)
  short_by (suc m) x h p l =
      let k = hops_by (suc m) (next r a x) (next_runs x p) (λ q. short_by m (next r a x) (omega arith) q (omega (arith, span_next m h, halved x p q))) in
      omega (arith, one_hop x p)

  pub reach_short : (x : ℕ) → is_running r x ≡ true → (reach r a x).hops ≤ 24
  reach_short x runs = hops_by 24 x runs (λ p. short_by 23 x (omega arith) p (omega (arith, last_span, last_low x p)))

-- ---- the call

module _ (ws : List ℕ) (start a : ℕ) (ok : reach_answer ws start a ≡ 0) where
  none : Each (λ q. q.applies ≡ false) (reach_refusals ws start a)
  unfolding reach_answer
  none = none_applies (reach_refusals ws start a) (cons refl (cons refl (cons refl (cons refl (cons refl nil))))) ok

  pub reach_reads : reads_as_ring ws ≡ true
  reach_reads = not_out_false (reads_as_ring ws) (first (rest none))

  pub start_runs : is_running (decode ws) start ≡ true
  start_runs = not_out_false (is_running (decode ws) start) (first (rest (rest (rest none))))

  pub key_fits_lem : a ≤ 16777215
  key_fits_lem = ltb-false 16777215 a (first (rest (rest (rest (rest none)))))

  pub given_reach : reach_of ws start a ≡ record { answer = 0; end = (reach (decode ws) a start).end; hops = (reach (decode ws) a start).hops }
  unfolding reach_of
  given_reach = rw ok

  pub given_end : (reach_of ws start a).end ≡ owner (decode ws) a
  given_end = rw given_reach (reach_ends (decode ws) (reads_well ws reach_reads) a key_fits_lem start start_runs)

  pub given_hops : (reach_of ws start a).hops ≤ 24
  given_hops = rw given_reach (reach_short (decode ws) (reads_well ws reach_reads) a key_fits_lem start start_runs)
