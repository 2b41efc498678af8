-- Rounds from a clean point with clean candidates on: what each turn keeps holds at every point; a message is delivered and a candidate considered in the next
-- round, an answer comes in the next but one.
use mathlib.Core.Path.{◌≡◌, refl, sym, ap, ◌∙◌, subst}
use mathlib.Core.Logic.{◌⊎◌, inl, inr}
use Prim.Native.Nat.{ℕ, zero, suc, ◌≤◌, ◌<◌, zero-le}
use native.Mathlib.Nat.{le_refl, not-suc-le-zero}
use native.Mathlib.Omega.{arith}
use native.Mathlib.Decide.{ℕ_discrete}
use mathlib.Core.Bool.{true, false}
use mathlib.Core.List.Memᴰ
use mathlib.Core.List.{List, [], ◌∷◌, map, Memᴰ}
use Rattle.model.specs.Sets.{Set, members}
use Rattle.model.specs.Ring.{Ring, Message, is_running, message_at}
use Rattle.model.specs.Play.{after}
use Rattle.model.specs.declared.event.Event.TheVariants.{Timer, Deliver}
use Rattle.model.proofs.Laws.{clash, if_law}
use Rattle.model.proofs.Cases.{after_table}
use Rattle.settle_kept.specs.Improving.{Clean}
use Rattle.settle_kept.proofs.Keeping.{after_running, harmless_switch, own_at, ticked, given}
use Rattle.settle_kept.proofs.Clean.{clean_after}
use Rattle.settle_rounds.specs.Rounds.{CleanCandidates}
use Rattle.settle_rounds.proofs.Turns.{Turn, stands, turns, Arrival, node_of, Fair}
use Rattle.settle_rounds.proofs.Turns.{timer_sends, deliver_own, deliver_sends}
use Rattle.settle_rounds.proofs.Candidates.{candidates_after}
use Rattle.settle_rounds.proofs.Points.{until_at, walk_to}
use Rattle.settle_rounds.proofs.Points as points
use Rattle.settle_rounds.proofs.Takings.{candidate_after}

-- ---- lists of messages that a loop makes

pub members_in : (n : ℕ) (S : Set) (y : ℕ) → y < n → S y ≡ true → Memᴰ y (members n S)
unfolding members
members_in zero S y h e = absurd (not-suc-le-zero h)
members_in (suc n) S y h e =
    elim (ℕ_discrete y n) [
      | yes i ↦ Memᴰ.append_right (members n S) (if_law (Memᴰ y) (S n) (n ∷ []) [] (λ q. Memᴰ.head i) (λ q. clash (ap S (sym i) ∙ e) q))
      | no d ↦ Memᴰ.append_left _ (members_in n S y (omega arith) e)
    ]

pub map_in : (make : ℕ → Message) (y : ℕ) (l : List ℕ) → Memᴰ y l → Memᴰ (make y) (map make l)
map_in make y l (Memᴰ.head e) = Memᴰ.head (ap make e)
map_in make y l (Memᴰ.tail h) = Memᴰ.tail (map_in make y _ h)

-- ---- what a delivery and a timer leave

module _ (r s : Ring) where
  pub received_own : (m : Message) (n : ℕ) → message_at r n ≡ m → s ≡ after r (Deliver n false) → is_running r m.receiver ≡ true
      → (s.node m.receiver).own ≡ (given r m.receiver m).own
  received_own m n e is on =
      ap (λ (u : Ring). (u.node m.receiver).own) is
      ∙ subst (λ (a : Message). is_running r a.receiver ≡ true → ((after r (Deliver n false)).node a.receiver).own ≡ (given r a.receiver a).own) e
      (deliver_own r n) on

  pub received_sends : (m : Message) (n : ℕ) → message_at r n ≡ m → s ≡ after r (Deliver n false) → is_running r m.receiver ≡ true
      → (a : Message) → Memᴰ a (given r m.receiver m).sent → Memᴰ a s.messages
  received_sends m n e is on a h =
      subst (λ (u : Ring). Memᴰ a u.messages) (sym is)
      (subst (λ (c : Message). is_running r c.receiver ≡ true → Memᴰ a (given r c.receiver c).sent
      → Memᴰ a (after r (Deliver n false)).messages) e
      (λ runs q. deliver_sends r n runs a q) on h)

  pub fired_sends : (x k : ℕ) → s ≡ after r (Timer (node_of x) k) → (a : Message) → Memᴰ a (ticked r x k).sent → Memᴰ a s.messages
  fired_sends x k is a h = subst (λ (u : Ring). Memᴰ a u.messages) (sym is) (timer_sends r (node_of x) k a h)

-- ---- rounds from a clean point

pub record Stretch : Type 1 where
  pub at : ℕ → Ring
  pub b : ℕ → ℕ
  pub K : ℕ
  pub fair : Fair at b K
  pub clean : Clean (at (b 0))
  pub cands : CleanCandidates (at (b 0))

module _ (w : Stretch) where
  abbrev pub at : ℕ → Ring
  at = w.at

  abbrev pub b : ℕ → ℕ
  b = w.b

  abbrev pub K : ℕ
  K = w.K

  abbrev pub fair : Fair at b K
  fair = w.fair

  pub rises : (j k : ℕ) → j ≤ k → k ≤ K → b j ≤ b k
  rises = points.rises at b K fair

  -- what each event keeps holds at every point
  pub record Kept (s : Ring) : Type 0 where
    pub still_clean : Clean s
    pub still_cands : CleanCandidates s
    pub table : s.table ≡ (at (b 0)).table
    pub running : (x : ℕ) → is_running s x ≡ is_running (at (b 0)) x

  kept_turn : (s u : Ring) → Kept s → Turn s u → Kept u
  kept_turn s u k (stands e) = subst Kept (sym e) k
  kept_turn s u k (turns e l runs is) =
      subst Kept (sym is)
      (record {
        still_clean = clean_after s k.still_clean e l.0;
        still_cands = candidates_after s k.still_clean k.still_cands e l runs;
        table = after_table s e ∙ k.table;
        running = λ x. after_running s e (harmless_switch s e l.0) x ∙ k.running x;
      })

  pub kept : (i : ℕ) → b 0 ≤ i → i ≤ b K → Kept (at i)
  kept i f l =
      walk_to (λ k. Kept (at k)) (b 0) i f (record { still_clean = w.clean; still_cands = w.cands; table = refl; running = λ x. refl })
      (λ k g h c. kept_turn (at k) (at (suc k)) c (fair.turn k g (omega arith)))

  -- runs at one point, runs at another
  pub runs_at : (i j : ℕ) → b 0 ≤ i → i ≤ b K → b 0 ≤ j → j ≤ b K → (x : ℕ) → is_running (at i) x ≡ true → is_running (at j) x ≡ true
  runs_at i j fi li fj lj x on = (kept j fj lj).running x ∙ sym ((kept i fi li).running x) ∙ on

  -- ---- messages

  -- what is in flight at the end of a round, or before, is delivered in the next
  pub arrives : (i j : ℕ) → b 0 ≤ i → i ≤ b j → j < K → (m : Message) → Memᴰ m (at i).messages → Arrival at m i (b (suc j))
  arrives = points.arrives at b K fair

  -- and the answer of a running node to it in the next but one
  pub answered :
      (i j : ℕ) → b 0 ≤ i → i ≤ b j → suc j < K → (m a : Message) → Memᴰ m (at i).messages
      → ((n : ℕ) → b 0 ≤ n → n ≤ b K → (is_running (at n) m.receiver ≡ true) × Memᴰ a (given (at n) m.receiver m).sent)
      → Arrival at a i (b (suc (suc j)))
  answered i j f l h m a q sends =
      let end = rises (suc j) K (omega arith) (le_refl K) in
      let v = arrives i j f l (omega arith) m q in
      let s = sends v.0 (omega (arith, v.1)) (omega (arith, v.2)) in
      let c =
      arrives (suc v.0) (suc j) (omega (arith, v.1)) v.2 h a
      (received_sends (at v.0) (at (suc v.0)) m v.3.0 v.3.1 v.3.2 s.0 a s.1) in
      (c.0, omega (arith, v.1, c.1), c.2, c.3)

  -- ---- candidates

  -- timer 0 fires at x when u is a candidate
  abbrev pub Considers : ℕ → ℕ → ℕ → ℕ → Type 0
  Considers x u i f = (k : ℕ) × (i ≤ k) × (k < f) × (((own_at (at k) x).candidates u ≡ true) × (at (suc k) ≡ after (at k) (Timer (node_of x) 0)))

  stays_candidate :
      (x u k : ℕ) → Kept (at k) → is_running (at k) x ≡ true → is_running (at k) u ≡ true → (own_at (at k) x).candidates u ≡ true → Turn (at k) (at (suc k))
      → ((own_at (at (suc k)) x).candidates u ≡ true) ⊎ (((own_at (at k) x).candidates u ≡ true) × (at (suc k) ≡ after (at k) (Timer (node_of x) 0)))
  stays_candidate x u k c on runs h (stands e) = inl (subst (λ (s : Ring). (own_at s x).candidates u ≡ true) (sym e) h)
  stays_candidate x u k c on runs h (turns e l fires is) =
      elim (candidate_after (at k) (fair.well k) c.still_clean e l x on u runs h) [
        | inl q ↦ inl (subst (λ (s : Ring). (own_at s x).candidates u ≡ true) (sym is) q)
        | inr q ↦ inr (h, is ∙ ap (after (at k)) q)
      ]

  -- a candidate at the end of a round, or before, is considered in the next
  pub considered :
      (i j : ℕ) → b 0 ≤ i → i ≤ b j → j < K → (x u : ℕ) → is_running (at i) x ≡ true → (own_at (at i) x).candidates u ≡ true → Considers x u i (b (suc j))
  considered i j f l h x u on c =
      let up = fair.order j h in
      let top = rises (suc j) K (omega arith) (le_refl K) in
      let mid = rises j K (omega arith) (le_refl K) in
      let first = rises 0 j zero-le (omega arith) in
      let u-runs : is_running (at i) u ≡ true = (kept i f (omega arith)).still_cands.candidates_run x on u c in
      let fire = fair.fires j h x (runs_at i (b j) f (omega arith) (omega arith) (omega arith) x on) 0 refl in
      elim (until_at (λ k. (own_at (at k) x).candidates u ≡ true)
      (λ k. ((own_at (at k) x).candidates u ≡ true) × (at (suc k) ≡ after (at k) (Timer (node_of x) 0))) i fire.0 (omega (arith, fire.1)) c
      (λ k p g a.
      let end = fire.2 in
      stays_candidate x u k (kept k (omega arith) (omega arith)) (runs_at i k f (omega arith) (omega arith) (omega arith) x on)
      (runs_at i k f (omega arith) (omega arith) (omega arith) u u-runs) a
      (fair.turn k (omega arith) (omega arith)))) [
        | inr s ↦ (s.0, s.1, omega (arith, s.2, fire.2), s.3)
        | inl a ↦ (fire.0, omega (arith, fire.1), fire.2, (a, fire.3))
      ]
