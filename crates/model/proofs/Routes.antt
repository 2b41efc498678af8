-- Routes: each hop goes nearer to the key, a route is short, and where every node holds its leafset it ends at the nearest node.
use mathlib.Core.Path.{◌≡◌, refl, sym, ap, ◌∙◌}
use mathlib.Core.Logic.{◌⊎◌, inl, inr}
use Prim.Native.Nat.{ℕ, zero, suc, ◌+◌, ◌-◌, ◌*◌, ◌≤◌, ◌<◌, min}
use native.Mathlib.Nat.{add_comm, le_refl, le_antisymm, not-suc-le-zero, le_of_suc-le-suc}
use native.Mathlib.Omega.{arith}
use native.Mathlib.Decide.{dec_lt, ℕ_discrete}
use mathlib.Core.Bool.{Bool, true, false, not, ◌&&◌, ◌||◌}
use mathlib.Core.List.{List, [], ◌∷◌, ◌++◌}
use lib.ListN.{length, get_or, drop, length-append, length-drop, get_or-append}
use lib.Seq.{get_or-append-add, get_or-drop}
use lib.Dec.{ltb, eqb}
use borrow.Author.Tests.{lt-ltb, ltb-true, ltb-false, eq-eqb, eqb-true, eqb-false, ne_eqb, le-ltb}
use Rattle.std.specs.Prelude.{if◌then◌else◌}
use Rattle.model.specs.Key.{clockwise, counter_clockwise, distance}
use Rattle.model.specs.Sets.{Set, without, some, count}
use Rattle.model.specs.Leafset.{Table, size, key, nearer, is_near, leafset, beats, nearest}
use Rattle.model.specs.Ring.{Ring, holds, is_running}
use Rattle.model.specs.Words.{decode, reads_as_ring}
use Rattle.model.specs.Route.{held_running, next_of, goes_on, route_within, nearer_than, route, Converged, route_refusals, route_answer, Routed, route_buffer}
use Rattle.model.specs.WellFormed.{WellFormedTable, WellFormed, Each, nil, cons}
use Rattle.model.proofs.Laws.{clash, and_left, and_right, and_in, or_left, or_right, or_case, not_in, not_out}
use Rattle.model.proofs.Laws.{not_out_false, decide, is_false, same_test, if_law, some_in, some_out, count_le, count_more}
use Rattle.model.proofs.Lists.{first, rest}
use Rattle.model.proofs.Answers.{none_applies}
use Rattle.model.proofs.Decoded.{reads_well}
use Rattle.model.proofs.Choices.{Member, Least, least, lowest_in, none_nearer}
use Rattle.model.proofs.LeafsetSize.{up, down, round, clockwise_lt, clockwise_inj, small, same_key}

-- ---- the order of nodes by nearness to a key

-- first by d, then by c
two_parts : (d c d' c' : ℕ) → c < 16777216 → c' < 16777216
    → (ltb d d' || (eqb d d' && ltb c c')) ≡ ltb (d * 16777216 + c) (d' * 16777216 + c')
two_parts d c d' c' h h' = same_test (ltb d d' || (eqb d d' && ltb c c')) (ltb (d * 16777216 + c) (d' * 16777216 + c')) to from
  where
    to : (ltb d d' || (eqb d d' && ltb c c')) ≡ true → ltb (d * 16777216 + c) (d' * 16777216 + c') ≡ true
    to e =
        lt-ltb (d * 16777216 + c) (d' * 16777216 + c')
        (or_case (ltb d d') (eqb d d' && ltb c c') e
        (λ p. let k = ltb-true d d' p in omega arith)
        (λ p. let i = eqb-true d d' (and_left (eqb d d') (ltb c c') p) in let k = ltb-true c c' (and_right (eqb d d') (ltb c c') p) in omega arith))

    from : ltb (d * 16777216 + c) (d' * 16777216 + c') ≡ true → (ltb d d' || (eqb d d' && ltb c c')) ≡ true
    from e =
        let l = ltb-true (d * 16777216 + c) (d' * 16777216 + c') e in
        decide (ltb d d') (λ p. or_left (eqb d d' && ltb c c') p)
        (λ p.
        let k = ltb-false d d' p in
        or_right (ltb d d') (and_in (eq-eqb d d' (omega arith)) (lt-ltb c c' (omega arith))))

same_part : (d c d' c' : ℕ) → c < 16777216 → c' < 16777216 → d * 16777216 + c ≡ d' * 16777216 + c' → c ≡ c'
same_part d c d' c' h h' e = omega arith

module _ (t : Table) (a : ℕ) where
  -- the distance to the key a and the clockwise one from a, in one number
  rank : ℕ → ℕ
  rank y = distance a (key t y) * 16777216 + clockwise a (key t y)

  beats_rank : (y z : ℕ) → beats t a y z ≡ ltb (rank y) (rank z)
  unfolding rank
  beats_rank y z =
      two_parts (distance a (key t y)) (clockwise a (key t y)) (distance a (key t z)) (clockwise a (key t z))
      (clockwise_lt a (key t y)) (clockwise_lt a (key t z))

  rank_same : (y z : ℕ) → a < 16777216 → key t y < 16777216 → key t z < 16777216 → rank y ≡ rank z → key t y ≡ key t z
  unfolding rank
  rank_same y z ha hy hz e =
      clockwise_inj a (key t y) (key t z) ha hy hz
      (same_part (distance a (key t y)) (clockwise a (key t y)) (distance a (key t z)) (clockwise a (key t z))
      (clockwise_lt a (key t y)) (clockwise_lt a (key t z)) e)

  falls : (y z : ℕ) → beats t a y z ≡ true → rank y < rank z
  falls y z e = ltb-true (rank y) (rank z) (sym (beats_rank y z) ∙ e)

  falling : (y z : ℕ) → rank y < rank z → beats t a y z ≡ true
  falling y z h = beats_rank y z ∙ lt-ltb (rank y) (rank z) h

  not_lower : (y z : ℕ) → beats t a y z ≡ false → rank z ≤ rank y
  not_lower y z e = ltb-false (rank y) (rank z) (sym (beats_rank y z) ∙ e)

  not_falling : (y z : ℕ) → rank z ≤ rank y → beats t a y z ≡ false
  not_falling y z h = beats_rank y z ∙ le-ltb (rank y) (rank z) h

  pub beats_irreflexive : (y : ℕ) → beats t a y y ≡ false
  beats_irreflexive y = not_falling y y (le_refl (rank y))

  pub beats_transitive : (x y z : ℕ) → beats t a x y ≡ true → beats t a y z ≡ true → beats t a x z ≡ true
  beats_transitive x y z p q = let h = falls x y p in let k = falls y z q in falling x z (omega arith)

  pub beats_total : (y z : ℕ) → key t y < 16777216 → key t z < 16777216 → a < 16777216 → ¬ (key t y ≡ key t z)
      → (beats t a y z ≡ true) ⊎ (beats t a z y ≡ true)
  beats_total y z hy hz ha n =
      elim (dec_lt (rank y) (rank z)) [
        | yes h ↦ inl (falling y z h)
        | no h ↦ elim (dec_lt (rank z) (rank y)) [
          | yes k ↦ inr (falling z y k)
          | no k ↦ absurd (n (rank_same y z ha hy hz (omega arith)))
        ]
      ]

  -- y is a member of S, and no member beats it
  pub record IsNearest (S : Set) (y : ℕ) : Type 0 where
    pub below : y < size t
    pub within : S y ≡ true
    pub unbeaten : (z : ℕ) → z < size t → S z ≡ true → beats t a z y ≡ false

  abbrev is_beaten : Set → Set
  is_beaten S y = some (size t) (λ z. S z && beats t a z y)

  unbeaten_in : (S : Set) (y : ℕ) → IsNearest S y → (S y && not (is_beaten S y)) ≡ true
  unbeaten_in S y m =
      and_in m.within
      (not_in (is_false (is_beaten S y)
      (λ e.
      let w = some_out (size t) (λ z. S z && beats t a z y) e in
      clash (and_right (S w.0) (beats t a w.0 y) w.2) (m.unbeaten w.0 w.1 (and_left (S w.0) _ w.2)))))

  unbeaten_out : (S : Set) (y : ℕ) → Member (size t) (λ z. S z && not (is_beaten S z)) y → IsNearest S y
  unbeaten_out S y m =
      let none-beats : is_beaten S y ≡ false = not_out (is_beaten S y) (and_right (S y) (not (is_beaten S y)) m.within) in
      record {
        below = m.below;
        within = and_left (S y) _ m.within;
        unbeaten = λ z l e. is_false (beats t a z y) (λ b. clash (some_in (size t) (λ u. S u && beats t a u y) z l (and_in e b)) none-beats);
      }

  -- `nearest` is such a member, where there is any
  pub nearest_is : (S : Set) → some (size t) S ≡ true → IsNearest S (nearest t a S)
  unfolding nearest
  nearest_is S e =
      let l : Least (size t) S rank = least (size t) S rank e in
      unbeaten_out S (nearest t a S)
      (lowest_in (size t) (λ z. S z && not (is_beaten S z)) l.best
      (record {
        below = l.member.below;
        within = unbeaten_in S l.best
            (record {
              below = l.member.below;
              within = l.member.within;
              unbeaten = λ z h q. not_falling z l.best (l.no_less z (record { below = h; within = q }));
            });
      }))

  -- there is only one
  pub nearest_one : WellFormedTable t → a < 16777216 → (S : Set) (y z : ℕ) → IsNearest S y → IsNearest S z → y ≡ z
  nearest_one g ha S y z p q =
      same_key t g y z p.below q.below
      (rank_same y z ha (small t g y p.below) (small t g z q.below)
      (le_antisymm (not_lower z y (p.unbeaten z q.below q.within)) (not_lower y z (q.unbeaten y p.below p.within))))

-- ---- routes

abbrev pub last : List ℕ → ℕ
last l = get_or l (length l - 1) 64

pub last_more : (x : ℕ) (l : List ℕ) → 0 < length l → last (x ∷ l) ≡ last l
last_more x [] h = absurd (not-suc-le-zero h)
last_more x (y ∷ l) h =
    ap (λ (k : ℕ). get_or (x ∷ y ∷ l) k 64) (pred_suc (suc (length l))) ∙ sym (ap (λ (k : ℕ). get_or (y ∷ l) k 64) (pred_suc (length l)))
  where
    pred_suc : (k : ℕ) → suc k - 1 ≡ k
    pred_suc k = omega arith

module _ (r : Ring) (key : ℕ) where
  abbrev n : ℕ
  n = size r.table

  -- where a running node is held, the next node is held and runs, and no other such node beats it
  pub next_nearest : (x : ℕ) → some n (held_running r key x) ≡ true → IsNearest r.table key (held_running r key x) (next_of r key x)
  unfolding next_of
  next_nearest x e = nearest_is r.table key (held_running r key x) e

  -- z is held at y and runs, and is nearer to the key than y is
  pub record Hop (y z : ℕ) : Type 0 where
    pub below : z < n
    pub held : holds r y z ≡ true
    pub runs : is_running r z ≡ true
    pub nearer : beats r.table key z y ≡ true

  pub goes_on_lem : (x : ℕ) → goes_on r key x ≡ true → Hop x (next_of r key x)
  unfolding goes_on
  goes_on_lem x e =
      let m = next_nearest x (and_left (some n (held_running r key x)) _ e) in
      record {
        below = m.below;
        held = and_left (holds r x (next_of r key x)) _ m.within;
        runs = and_right (holds r x (next_of r key x)) _ m.within;
        nearer = and_right (some n (held_running r key x)) _ e;
      }

  -- where any node that is held and runs is nearer, the route goes on
  on_to_nearer : (x z : ℕ) → Hop x z → goes_on r key x ≡ true
  unfolding goes_on
  on_to_nearer x z h =
      let e : some n (held_running r key x) ≡ true = some_in n (held_running r key x) z h.below (and_in h.held h.runs) in
      let l = not_lower r.table key z (next_of r key x) ((next_nearest x e).unbeaten z h.below (and_in h.held h.runs)) in
      let k = falls r.table key z x h.nearer in
      and_in e (falling r.table key (next_of r key x) x (omega arith))

  -- fewer nodes are nearer to the key than the next one
  pub next_nearer : (x : ℕ) → goes_on r key x ≡ true → nearer_than r key (next_of r key x) < nearer_than r key x
  next_nearer x e =
      let h = goes_on_lem x e in
      count_more (λ z. beats r.table key z (next_of r key x)) (λ z. beats r.table key z x) n
      (λ z l b. beats_transitive r.table key z (next_of r key x) x b h.nearer)
      (next_of r key x) h.below (beats_irreflexive r.table key (next_of r key x)) h.nearer

  -- a route ends where nobody is nearer
  stops : (x : ℕ) → nearer_than r key x ≤ 0 → goes_on r key x ≡ false
  stops x h = is_false (goes_on r key x) (λ e. let l = next_nearer x e in omega arith)

  -- any two bounds that are high enough give the same route
  within_same : (h k x : ℕ) → nearer_than r key x ≤ h → nearer_than r key x ≤ k → route_within r key h x ≡ route_within r key k x
  unfolding route_within
  within_same zero zero x p q = refl
  within_same zero (suc k) x p q = rw (stops x p)
  within_same (suc h) zero x p q = rw (stops x q)
  within_same (suc h) (suc k) x p q =
      decide (goes_on r key x)
      (λ e. let l = next_nearer x e in rw e (ap (λ xs. x ∷ xs) (within_same h k (next_of r key x) (omega arith) (omega arith))))
      (λ e. rw e)

  -- "The rest of the route is the route from the next stand"
  pub route_from : (x : ℕ) → route r key x ≡ x ∷ (if goes_on r key x then route r key (next_of r key x) else [])
  unfolding route route_within
  route_from x =
      within_same (nearer_than r key x) (suc (nearer_than r key x)) x (le_refl _) (omega arith)
      ∙ decide (goes_on r key x)
      (λ e.
      let l = next_nearer x e in
      rw e (ap (λ xs. x ∷ xs) (within_same (nearer_than r key x) (nearer_than r key (next_of r key x)) (next_of r key x) (omega arith) (le_refl _))))
      (λ e. rw e)

  -- ---- how long a route is

  within_short : (hops x : ℕ) → length (route_within r key hops x) ≤ suc hops
  unfolding route_within
  within_short zero x = le_refl 1
  within_short (suc hops) x =
      if_law (λ xs. suc (length xs) ≤ suc (suc hops)) (goes_on r key x) (route_within r key hops (next_of r key x)) []
      (λ e. let l = within_short hops (next_of r key x) in omega arith)
      (λ e. omega arith)

  -- a node does not beat itself, so at most n - 1 do
  nearer_few : (x : ℕ) → x < n → nearer_than r key x < n
  nearer_few x h =
      let l = count_more (λ z. beats r.table key z x) (λ z. true) n (λ z k b. refl) x h (beats_irreflexive r.table key x) refl in
      let m = count_le n (λ z. true) in
      omega arith

  pub route_short : (x : ℕ) → x < n → length (route r key x) ≤ n
  unfolding route
  route_short x h = let l = within_short (nearer_than r key x) x in let m = nearer_few x h in omega arith

  -- ---- the hops of a route

  within_first : (hops x : ℕ) → get_or (route_within r key hops x) 0 64 ≡ x
  unfolding route_within
  within_first zero x = refl
  within_first (suc hops) x = refl

  within_falls : (hops x i : ℕ) → suc i < length (route_within r key hops x)
      → Hop (get_or (route_within r key hops x) i 64) (get_or (route_within r key hops x) (suc i) 64)
  unfolding route_within
  within_falls zero x i h = absurd (omega arith)
  within_falls (suc hops) x i h = go (goes_on r key x) refl i h (within_falls hops (next_of r key x))
    where
      further : List ℕ
      further = route_within r key hops (next_of r key x)

      go : (b : Bool) → goes_on r key x ≡ b → (i : ℕ) → suc i < length (x ∷ (if b then further else []))
          → ((i : ℕ) → suc i < length further → Hop (get_or further i 64) (get_or further (suc i) 64))
          → Hop (get_or (x ∷ (if b then further else [])) i 64) (get_or (x ∷ (if b then further else [])) (suc i) 64)
      go true e zero h f = rw (within_first hops (next_of r key x)) (goes_on_lem x e)
      go true e (suc i) h f = f i (le_of_suc-le-suc h)
      go false e i h f = absurd (omega arith)

  -- the node at each place of a route but the first is held at the place before and runs, and is nearer to the key
  pub route_falls : (x i : ℕ) → suc i < length (route r key x) → Hop (get_or (route r key x) i 64) (get_or (route r key x) (suc i) 64)
  unfolding route
  route_falls x i h = within_falls (nearer_than r key x) x i h

  -- a later node of a route is nearer to the key than an earlier one
  pub route_later : (x i j : ℕ) → i < j → j < length (route r key x)
      → beats r.table key (get_or (route r key x) j 64) (get_or (route r key x) i 64) ≡ true
  route_later x i zero l h = absurd (not-suc-le-zero l)
  route_later x i (suc j) l h =
      elim (ℕ_discrete i j) [
        | yes e ↦ rw e (route_falls x j h).nearer
        | no d ↦
            beats_transitive r.table key (get_or (route r key x) (suc j) 64) (get_or (route r key x) j 64) (get_or (route r key x) i 64)
            (route_falls x j h).nearer (route_later x i j (omega arith) (omega arith))
      ]

  later_differs : (x i j : ℕ) → i < j → j < length (route r key x) → get_or (route r key x) i 64 ≡ get_or (route r key x) j 64 → ⊥
  later_differs x i j l h e =
      clash (route_later x i j l h)
      (ap (λ (y : ℕ). beats r.table key (get_or (route r key x) j 64) y) e ∙ beats_irreflexive r.table key (get_or (route r key x) j 64))

  -- no node stands at two places of a route
  pub route_once : (x i j : ℕ) → i < length (route r key x) → j < length (route r key x)
      → get_or (route r key x) i 64 ≡ get_or (route r key x) j 64 → i ≡ j
  route_once x i j hi hj e =
      elim (dec_lt i j) [
        | yes l ↦ absurd (later_differs x i j l hj e)
        | no l ↦ elim (dec_lt j i) [
          | yes k ↦ absurd (later_differs x j i k hi (sym e))
          | no k ↦ omega arith
        ]
      ]

  -- ---- the end of a route

  within_some : (hops x : ℕ) → 0 < length (route_within r key hops x)
  unfolding route_within
  within_some zero x = le_refl 1
  within_some (suc hops) x = omega arith

  -- what holds of the start and goes from node to node holds of the end, and there the route does not go on
  record Ends (P : ℕ → Type 0) (y : ℕ) : Type 0 where
    here : P y
    final : goes_on r key y ≡ false

  within_ends : (P : ℕ → Type 0) → ((y z : ℕ) → Hop y z → P y → P z) → (hops x : ℕ) → nearer_than r key x ≤ hops → P x
      → Ends P (last (route_within r key hops x))
  unfolding route_within
  within_ends P f zero x h p = record { here = p; final = stops x h }
  within_ends P f (suc hops) x h p =
      decide (goes_on r key x)
      (λ e.
      let l = next_nearer x e in
      rw (e, last_more x (route_within r key hops (next_of r key x)) (within_some hops (next_of r key x)))
      (within_ends P f hops (next_of r key x) (omega arith) (f x (next_of r key x) (goes_on_lem x e) p)))
      (λ e. rw e (record { here = p; final = e }))

  pub route_some : (x : ℕ) → 0 < length (route r key x)
  unfolding route
  route_some x = within_some (nearer_than r key x) x

  pub first_node : (x : ℕ) → get_or (route r key x) 0 64 ≡ x
  unfolding route
  first_node x = within_first (nearer_than r key x) x

  route_ends : (P : ℕ → Type 0) → ((y z : ℕ) → Hop y z → P y → P z) → (x : ℕ) → P x → Ends P (last (route r key x))
  unfolding route
  route_ends P f x p = within_ends P f (nearer_than r key x) x (le_refl _) p

-- ---- neighbours on the ring

-- going on by u from c leads to c', perhaps over the top
abbrev pub Leads : ℕ → ℕ → ℕ → Type 0
Leads c u c' = (c + u ≡ c') ⊎ (c + u ≡ c' + 16777216)

leads : (a b : ℕ) → a < 16777216 → b < 16777216 → Leads a (clockwise a b) b
leads a b ha hb =
    elim (dec_lt b a) [
      | yes h ↦ inr (add_comm a (clockwise a b) ∙ down a b h ha)
      | no h ↦ inl (add_comm a (clockwise a b) ∙ up a b (omega arith) hb)
    ]

-- seen from a, clockwise distances add up
pub leads_from : (a b e : ℕ) → a < 16777216 → b < 16777216 → e < 16777216 → Leads (clockwise a e) (clockwise e b) (clockwise a b)
leads_from a b e ha hb he =
    go (clockwise a e) (clockwise e b) (clockwise a b) (clockwise_lt a e) (clockwise_lt e b) (clockwise_lt a b)
    (leads a e ha he) (leads e b he hb) (leads a b ha hb)
  where
    go : (c u c' : ℕ) → c < 16777216 → u < 16777216 → c' < 16777216 → Leads a c e → Leads e u b → Leads a c' b → Leads c u c'
    go c u c' hc hu hc' (inl p) (inl q) (inl s) = inl (omega arith)
    go c u c' hc hu hc' (inl p) (inl q) (inr s) = absurd (omega arith)
    go c u c' hc hu hc' (inl p) (inr q) (inl s) = inr (omega arith)
    go c u c' hc hu hc' (inl p) (inr q) (inr s) = inl (omega arith)
    go c u c' hc hu hc' (inr p) (inl q) (inl s) = inr (omega arith)
    go c u c' hc hu hc' (inr p) (inl q) (inr s) = inl (omega arith)
    go c u c' hc hu hc' (inr p) (inr q) (inl s) = absurd (omega arith)
    go c u c' hc hu hc' (inr p) (inr q) (inr s) = inr (omega arith)

-- the distance, by the clockwise one
abbrev off : ℕ → ℕ
off c = min c (16777216 - c)

distance_off : (a b : ℕ) → a < 16777216 → b < 16777216 → distance a b ≡ off (clockwise a b)
distance_off a b ha hb =
    elim (ℕ_discrete b a) [
      | yes e ↦ both (clockwise a b) (clockwise b a) (omega arith)
      | no d ↦ ap (min (clockwise a b)) (rest (clockwise a b) (clockwise b a) (round a b ha hb d))
    ]
  where
    both : (c d : ℕ) → c ≡ 0 → min c d ≡ off c
    both c d e = omega arith

    rest : (c d : ℕ) → c + d ≡ 16777216 → d ≡ 16777216 - c
    rest c d e = omega arith

-- what lies at b clockwise from the key is nearer than what lies at c
abbrev Nearer : ℕ → ℕ → Type 0
Nearer c b = off b * 16777216 + b < off c * 16777216 + c

-- clockwise from the key lie: e at c; the next node after e at s, and the one before e at p; and w, which is nearer than e, at d
module _ (c s p d : ℕ) (hc : c < 16777216) (hs : s < 16777216) (hp : p < 16777216) (hd : d < 16777216) where
  nearer_if : (b : ℕ) → b < 16777216 → off b < off c → Nearer c b
  nearer_if b h l = omega arith

  nearer_tie : (b : ℕ) → off b ≤ off c → b < c → Nearer c b
  nearer_tie b h l = omega arith

  not_farther : Nearer c d → off d ≤ off c
  not_farther h = omega arith

  strictly : Nearer c d → c ≤ d → off d < off c
  strictly h l = omega arith

  module _ (u v : ℕ) (o : 0 < u) (h : u ≤ v) (hv : v < 16777216) where
    -- w lies before e: so does the node before e, and the next one lies past e, or not past w
    down_to : d < c → Leads p u c → Leads d v c → p < c
    down_to l (inl m) k = omega arith
    down_to l (inr m) (inl k) = absurd (omega arith)
    down_to l (inr m) (inr k) = absurd (omega arith)

    over_to : d < c → Leads c u s → Leads c v d → (c < s) ⊎ (s ≤ d)
    over_to l (inl m) k = inl (omega arith)
    over_to l (inr m) (inl k) = absurd (omega arith)
    over_to l (inr m) (inr k) = inr (omega arith)

    -- w lies past e: so does the next node, and the one before e lies before e, or not before w
    up_to : c < d → Leads c u s → Leads c v d → c < s
    up_to l (inl m) k = omega arith
    up_to l (inr m) (inl k) = absurd (omega arith)
    up_to l (inr m) (inr k) = absurd (omega arith)

    under_to : c < d → Leads p u c → Leads d v c → (p < c) ⊎ (d ≤ p)
    under_to l (inl m) k = inl (omega arith)
    under_to l (inr m) (inl k) = absurd (omega arith)
    under_to l (inr m) (inr k) = inr (omega arith)

  near_half : (b : ℕ) → b < c → 2 * c ≤ 16777216 → off b < off c
  near_half b l g = omega arith

  far_half : (b : ℕ) → c < b → 16777216 ≤ 2 * c → off b < off c
  far_half b l g = omega arith

  -- the next node after e, or the one before it, is nearer too
  neighbour : (u v u' v' : ℕ) → 0 < u → u ≤ v → v < 16777216 → 0 < u' → u' ≤ v' → v' < 16777216
      → Leads c u s → Leads c v d → Leads p u' c → Leads d v' c → Nearer c d → Nearer c s ⊎ Nearer c p
  neighbour u v u' v' o h hv o' h' hv' cs cd pc dc w =
      elim (dec_lt d c) [
        | yes l ↦ elim (dec_lt 16777216 (2 * c)) [
          | no g ↦ inr (nearer_if p hp (near_half p (down_to u' v' o' h' hv' l pc dc) (omega arith)))
          | yes g ↦ inl (over (over_to u v o h hv l cs cd) l g)
        ]
        | no l ↦ elim (dec_lt 16777216 (2 * c)) [
          | no g ↦ inr (nearer_if p hp (under (under_to u' v' o' h' hv' (past l) pc dc) (past l) (omega arith)))
          | yes g ↦ inl (nearer_if s hs (far_half s (up_to u v o h hv (past l) cs cd) (omega arith)))
        ]
      ]
    where
      over : (c < s) ⊎ (s ≤ d) → d < c → 16777216 < 2 * c → Nearer c s
      over (inl m) l g = nearer_if s hs (far_half s m (omega arith))
      over (inr m) l g = let k = not_farther w in nearer_tie s (omega arith) (omega arith)

      past : ¬ (d < c) → c < d
      past l = let k = strictly w (omega arith) in omega arith

      under : (p < c) ⊎ (d ≤ p) → c < d → 2 * c ≤ 16777216 → off p < off c
      under (inl m) l g = near_half p m g
      under (inr m) l g = let k = strictly w (omega arith) in omega arith

-- ---- where every node holds its leafset

module _ (t : Table) (x : ℕ) (S : Set) where
  abbrev left : Set
  left = without S x

  first_near : (many : ℕ) (d : ℕ → ℕ → ℕ) → 1 ≤ many → (l : Least (size t) left (λ z. d (key t x) (key t z)))
      → is_near t many d (key t x) left l.best ≡ true
  first_near many d h l = lt-ltb (nearer t d (key t x) left l.best) many (rw (none_nearer t d (key t x) left l) h)

  abbrev few : Bool
  few = ltb (count (size t) left) (t.sides.ahead + t.sides.behind)

  -- the next node of S after x, and the one before it, are in the leafset
  pub next_in_leafset : 1 ≤ t.sides.ahead → (l : Least (size t) left (λ z. clockwise (key t x) (key t z))) → leafset t x S l.best ≡ true
  unfolding leafset
  next_in_leafset h l =
      and_in l.member.within
      (or_left (is_near t t.sides.behind counter_clockwise (key t x) left l.best) (or_right few (first_near t.sides.ahead clockwise h l)))

  pub before_in_leafset : 1 ≤ t.sides.behind → (l : Least (size t) left (λ z. counter_clockwise (key t x) (key t z))) → leafset t x S l.best ≡ true
  unfolding leafset
  before_in_leafset h l =
      and_in l.member.within
      (or_right (few || is_near t t.sides.ahead clockwise (key t x) left l.best) (first_near t.sides.behind counter_clockwise h l))

pub away : (b c : ℕ) → b < 16777216 → c < 16777216 → (b ≡ c → ⊥) → 0 < clockwise b c
away b c hb hc d = omega arith

-- every running node holds at least its leafset of all running nodes
abbrev pub HoldsLeafsets : Ring → Type 0
HoldsLeafsets r = (x : ℕ) → is_running r x ≡ true → (z : ℕ) → leafset r.table x (is_running r) z ≡ true → holds r x z ≡ true

module _ (r : Ring) (g : WellFormed r) (v : HoldsLeafsets r) (a : ℕ) (ha : a < 16777216) where
  abbrev t : Table
  t = r.table

  low : (x : ℕ) → is_running r x ≡ true → x < size t
  low x e = (g.node_well x).running_low e

  small_key : (y : ℕ) → y < size t → key t y < 16777216
  small_key y h = small t g.table_well y h

  -- clockwise from the key
  abbrev at : ℕ → ℕ
  at y = clockwise a (key t y)

  rank_at : (y : ℕ) → y < size t → rank t a y ≡ off (at y) * 16777216 + at y
  unfolding rank
  rank_at y h = ap (λ (k : ℕ). k * 16777216 + at y) (distance_off a (key t y) ha (small_key y h))

  apart : (y z : ℕ) → y < size t → z < size t → ¬ (y ≡ z) → 0 < clockwise (key t y) (key t z)
  apart y z hy hz d = away (key t y) (key t z) (small_key y hy) (small_key z hz) (λ i. d (same_key t g.table_well y z hy hz i))

  steps : (y z : ℕ) → y < size t → z < size t → Leads (at y) (clockwise (key t y) (key t z)) (at z)
  steps y z hy hz = leads_from a (key t z) (key t y) ha (small_key z hz) (small_key y hy)

  -- the running nodes without e
  abbrev others : ℕ → Set
  others e = without (is_running r) e

  other_runs : (e z : ℕ) → others e z ≡ true → is_running r z ≡ true
  other_runs e z o = and_left (is_running r z) (not (eqb z e)) o

  other_differs : (e z : ℕ) → others e z ≡ true → ¬ (z ≡ e)
  other_differs e z o = eqb-false z e (not_out (eqb z e) (and_right (is_running r z) (not (eqb z e)) o))

  -- a running node that is nearer than e: then the next node after e is, or the one before it, and the route goes on
  goes_on_at : (e w : ℕ) → is_running r e ≡ true → is_running r w ≡ true → beats t a w e ≡ true → goes_on r a e ≡ true
  goes_on_at e w he hw b =
      toward
      (neighbour (at e) (at s) (at p) (at w)
      (clockwise_lt a (key t e)) (clockwise_lt a (key t s)) (clockwise_lt a (key t p)) (clockwise_lt a (key t w))
      (clockwise (key t e) (key t s)) (clockwise (key t e) (key t w)) (clockwise (key t p) (key t e)) (clockwise (key t w) (key t e))
      (apart e s le ls (λ i. other_differs e s next.member.within (sym i))) (next.no_less w member) (clockwise_lt (key t e) (key t w))
      (apart p e lp le (other_differs e p before.member.within)) (before.no_less w member) (clockwise_lt (key t w) (key t e))
      (steps e s le ls) (steps e w le lw) (steps p e lp le) (steps w e lw le)
      (rw (← rank_at w lw, ← rank_at e le) (falls t a w e b)))
    where
      le : e < size t
      le = low e he

      lw : w < size t
      lw = low w hw

      different : w ≡ e → ⊥
      different i = clash b (ap (λ (y : ℕ). beats t a y e) i ∙ beats_irreflexive t a e)

      member : Member (size t) (others e) w
      member = record { below = lw; within = and_in hw (not_in (ne_eqb w e different)) }

      any : some (size t) (others e) ≡ true
      any = some_in (size t) (others e) w lw member.within

      next : Least (size t) (others e) (λ z. clockwise (key t e) (key t z))
      next = least (size t) (others e) (λ z. clockwise (key t e) (key t z)) any

      before : Least (size t) (others e) (λ z. counter_clockwise (key t e) (key t z))
      before = least (size t) (others e) (λ z. counter_clockwise (key t e) (key t z)) any

      s : ℕ
      s = next.best

      p : ℕ
      p = before.best

      ls : s < size t
      ls = next.member.below

      lp : p < size t
      lp = before.member.below

      hop : (z : ℕ) → Member (size t) (others e) z → leafset t e (is_running r) z ≡ true → Nearer (at e) (at z) → goes_on r a e ≡ true
      hop z o m k =
          on_to_nearer r a e z
          (record {
            below = o.below;
            held = v e he z m;
            runs = other_runs e z o.within;
            nearer = falling t a z e (rw (rank_at z o.below, rank_at e le) k);
          })

      toward : Nearer (at e) (at s) ⊎ Nearer (at e) (at p) → goes_on r a e ≡ true
      toward (inl k) =
          hop s next.member (next_in_leafset t e (is_running r) g.table_well.sides_well.ahead_low next) k
      toward (inr k) =
          hop p before.member (before_in_leafset t e (is_running r) g.table_well.sides_well.behind_low before) k

  ends_nearest : (x : ℕ) → is_running r x ≡ true → get_or (route r a x) (length (route r a x) - 1) 64 ≡ nearest t a (is_running r)
  ends_nearest x hx =
      let y : ℕ = last (route r a x) in
      let end : Ends r a (λ z. is_running r z ≡ true) y = route_ends r a (λ z. is_running r z ≡ true) (λ u z h p. h.runs) x hx in
      nearest_one t a g.table_well ha (is_running r) y (nearest t a (is_running r))
      (record {
        below = low y end.here;
        within = end.here;
        unbeaten = λ z l q. is_false (beats t a z y) (λ b. clash (goes_on_at y z end.here q b) end.final);
      })
      (nearest_is t a (is_running r) (some_in (size t) (is_running r) x (low x hx) hx))

-- where every running node holds at least its leafset, a route from any running node ends at the running node nearest to the key
pub route_ends_covered : (r : Ring) → WellFormed r → HoldsLeafsets r → (key : ℕ) → key < 16777216 → (x : ℕ) → is_running r x ≡ true
    → get_or (route r key x) (length (route r key x) - 1) 64 ≡ nearest r.table key (is_running r)
route_ends_covered r g v key h x e = ends_nearest r g v key h x e

-- so it does where every running node holds exactly its leafset
pub route_ends_nearest : (r : Ring) → WellFormed r → Converged r → (key : ℕ) → key < 16777216 → (x : ℕ) → is_running r x ≡ true
    → get_or (route r key x) (length (route r key x) - 1) 64 ≡ nearest r.table key (is_running r)
route_ends_nearest r g v key h x e = ends_nearest r g (λ y q z m. v.holds_leafset y q z ∙ m) key h x e

-- ---- the call

-- what an accepted route gives: the start first and the end last, in the first places of the list; the others stay
pub record GivenRoute (n start : ℕ) (list : List ℕ) (g : Routed) : Type 0 where
  pub accepted : g.answer ≡ 0
  pub hops_few : g.hops < n
  pub first_is : get_or g.list 0 64 ≡ start
  pub last_is : get_or g.list g.hops 64 ≡ g.end
  pub end_low : g.end < n
  pub others_kept : (i : ℕ) → g.hops < i → get_or g.list i 64 ≡ get_or list i 64
  pub as_many : length g.list ≡ length list

module _ (ws : List ℕ) (start key : ℕ) (list : List ℕ) (ok : route_answer ws start key list ≡ 0) where
  none : Each (λ q. q.applies ≡ false) (route_refusals ws start key list)
  unfolding route_answer
  none = none_applies (route_refusals ws start key list) (cons refl (cons refl (cons refl (cons refl (cons refl (cons refl nil)))))) ok

  pub route_reads : reads_as_ring ws ≡ true
  route_reads = not_out_false (reads_as_ring ws) (first (rest none))

  abbrev nodes : ℕ
  nodes = size (decode ws).table

  pub start_low : start < nodes
  start_low = ltb-true start nodes (not_out_false (ltb start nodes) (first (rest (rest none))))

  abbrev path : List ℕ
  path = route (decode ws) key start

  pub path_few : length path ≤ 64
  path_few = omega (arith, route_short (decode ws) key start start_low, (reads_well ws route_reads).table_well.size_high)

  pub path_fits : length path ≤ length list
  path_fits = omega (arith, path_few, ltb-false (length list) 64 (first (rest (rest (rest (rest (rest none)))))))

  abbrev after : List ℕ
  after = path ++ drop (length path) list

  early : (i : ℕ) → i < length path → get_or after i 64 ≡ get_or path i 64
  early i h = get_or-append path (drop (length path) list) 64 i h

  late : (i : ℕ) → get_or after (length path + i) 64 ≡ get_or list (length path + i) 64
  late i = get_or-append-add path (drop (length path) list) i 64 ∙ get_or-drop (length path) list i 64

  path_low : (i : ℕ) → i < length path → get_or path i 64 < nodes
  path_low zero h = rw (first_node (decode ws) key start) start_low
  path_low (suc i) h = (route_falls (decode ws) key start i h).below

  pub given_route : GivenRoute nodes start list (route_buffer ws start key list)
  unfolding route_buffer
  given_route =
      let some = route_some (decode ws) key start in
      rw ok
      (record {
        accepted = refl;
        hops_few = omega (arith, route_short (decode ws) key start start_low);
        first_is = early 0 some ∙ first_node (decode ws) key start;
        last_is = early (length path - 1) (omega arith);
        end_low = path_low (length path - 1) (omega arith);
        others_kept = λ i h. let e : length path + (i - length path) ≡ i = omega arith in rw (← e) (late (i - length path));
        as_many = length-append path (drop (length path) list) ∙ rw (length-drop (length path) list) (omega (arith, path_fits));
      })
