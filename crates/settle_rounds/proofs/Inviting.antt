-- Rounds in which leafsets stay as they are: an invited node would be held two rounds later, so nobody is invited, and no candidate is lacked.
-- So nobody lacks one who asks it (type 3), and who asks lacks nobody whom the asked one holds (type 4). Source 000, Lemma 11.
use mathlib.Core.Path.{◌≡◌, refl, sym, ap, ◌∙◌, subst}
use Prim.Native.Nat.{ℕ, suc, ◌≤◌, ◌<◌}
use native.Mathlib.Nat.{le_refl}
use native.Mathlib.Omega.{arith}
use mathlib.Core.Bool.{true, false, not, ◌&&◌}
use mathlib.Core.List.{[], Memᴰ}
use lib.Dec.{eqb}
use borrow.Author.Tests.{eqb-true, eq-eqb}
use Rattle.model.specs.Sets.{Set, with, union, members}
use Rattle.model.specs.Leafset.{Table, size, leafset}
use Rattle.model.specs.Ring.{Ring, Own, Message, is_running, holds}
use Rattle.model.specs.Steps.{Effect, plain, viewing, hold, invited, invitations, questions}
use Rattle.model.specs.Steps.{timer0, timer, on_ping_ask_inv, on_pong_ask_inv, on_ping_invite, on_pong_invite, deliver}
use Rattle.model.specs.Play.{after}
use Rattle.model.specs.declared.event.Event.TheVariants.{Timer}
use Rattle.model.proofs.Laws.{clash, and_left, and_right, and_in, or_left, or_right, or_case, not_in, not_out, decide, is_false, if_law}
use Rattle.model.proofs.Choices.{leafset_within}
use Rattle.settle_leafsets.specs.Covered.{lacks}
use Rattle.settle_leafsets.specs.Quiescent.{chosen}
use Rattle.settle_leafsets.proofs.LeafsetChoice.{heritage, same_choice}
use Rattle.settle_leafsets.proofs.Constant.{same_lacks}
use Rattle.settle_leafsets.proofs.Woven.{lacks_none_of}
use Rattle.settle_kept.proofs.Keeping.{now_at, own_at}
use Rattle.settle_rounds.proofs.Turns.{Delivered, node_of, deliver_at}
use Rattle.settle_rounds.proofs.Takings.{hold_takes}
use Rattle.settle_rounds.proofs.Window.{Stretch, at, b, K, fair, rises, kept, runs_at}
use Rattle.settle_rounds.proofs.Window.{arrives, considered, members_in, map_in, answered, received_own, received_sends, fired_sends}

-- ---- what the steps send and leave

module _ (t : Table) (x now : ℕ) (o : Own) where
  sends_invitation : (y : ℕ) → y < size t → invited t x now o y ≡ true → Memᴰ (plain 5 x y) (timer t x now o 0).sent
  unfolding timer timer0
  sends_invitation y l e =
      mathlib.Core.List.Memᴰ.append_left (questions t x now o)
      (map_in (plain 5 x) y (members (size t) (invited t x now o)) (members_in (size t) (invited t x now o) y l e))

  pub sends_question : (y : ℕ) → y < size t → o.held y ≡ true → Memᴰ (plain 3 x y) (timer t x now o 0).sent
  unfolding timer timer0
  sends_question y l e =
      mathlib.Core.List.Memᴰ.append_right (invitations t x now o)
      (map_in (plain 3 x) y (members (size t) o.held) (members_in (size t) o.held y l e))

  answers_invitation : (y : ℕ) → Memᴰ (plain 6 x y) (deliver t x now o (plain 5 y x)).sent
  unfolding on_ping_invite
  answers_invitation y = subst (λ (e : Effect). Memᴰ (plain 6 x y) e.sent) (sym (deliver_at t x now o (plain 5 y x) 5 refl)) (mathlib.Core.List.Memᴰ.head refl)

  takes_in_lem : (y : ℕ) → leafset t x (with o.held y) y ≡ true → (deliver t x now o (plain 6 y x)).own.held y ≡ true
  unfolding on_pong_invite
  takes_in_lem y fits =
      subst (λ (e : Effect). e.own.held y ≡ true) (sym (deliver_at t x now o (plain 6 y x) 6 refl))
      (if_law (λ (e : Effect). e.own.held y ≡ true) (leafset t x (with o.held y) y) (record { own = hold now y o; sent = [] })
      (record { own = o; sent = [] })
      (λ q. hold_takes now y o) (λ q. clash fits q))

  notes_asker : (y : ℕ) → (deliver t x now o (plain 3 y x)).own.candidates y ≡ true
  unfolding on_ping_ask_inv
  notes_asker y =
      subst (λ (e : Effect). e.own.candidates y ≡ true) (sym (deliver_at t x now o (plain 3 y x) 3 refl)) (or_right (o.candidates y) (eq-eqb y y refl))

  answers_asker : (y : ℕ) → Memᴰ (viewing 4 x y (leafset t y o.held)) (deliver t x now o (plain 3 y x)).sent
  unfolding on_ping_ask_inv
  answers_asker y =
      subst (λ (e : Effect). Memᴰ (viewing 4 x y (leafset t y o.held)) e.sent) (sym (deliver_at t x now o (plain 3 y x) 3 refl))
      (mathlib.Core.List.Memᴰ.head refl)

  notes_view : (y : ℕ) (S : Set) (z : ℕ) → S z ≡ true → (deliver t x now o (viewing 4 y x S)).own.candidates z ≡ true
  unfolding on_pong_ask_inv
  notes_view y S z v = subst (λ (e : Effect). e.own.candidates z ≡ true) (sym (deliver_at t x now o (viewing 4 y x S) 4 refl)) (or_right (o.candidates z) v)

-- ---- rounds with constant leafsets

-- the leafset of every running node is what it was at the start
abbrev pub Steady : Stretch → Type 0
Steady w = (i : ℕ) → b w 0 ≤ i → i ≤ b w (K w) → (x : ℕ) → is_running (at w (b w 0)) x ≡ true → (z : ℕ) → chosen (at w i) x z ≡ chosen (at w (b w 0)) x z

module _ (w : Stretch) (steady : Steady w) where
  abbrev pub start : Ring
  start = at w (b w 0)

  abbrev pub R : Set
  R = is_running start

  -- whom a running node lacks does not change
  pub lacks_at : (i : ℕ) → b w 0 ≤ i → i ≤ b w (K w) → (x : ℕ) → R x ≡ true → (z : ℕ) → lacks (at w i) x z ≡ lacks start x z
  lacks_at i f l x on z =
      let k = kept w i f l in
      same_lacks start (at w i) ((fair w).well (b w 0)) k.table k.running x on (steady i f l x on) z

  module _
      (x : ℕ) (on : R x ≡ true)
      (k j : ℕ) (from : b w 0 ≤ k) (to : suc k ≤ b w j) (room : suc (suc j) ≤ K w)
      (fires : at w (suc k) ≡ after (at w k) (Timer (node_of x) 0))
    where
      abbrev r : Ring
      r = at w k

      abbrev C : Set
      C = (own_at r x).candidates

      abbrev H : Set
      H = holds r x

      end_0 : b w j ≤ b w (K w)
      end_0 = rises w j (K w) (omega arith) (le_refl (K w))

      end_2 : b w (suc (suc j)) ≤ b w (K w)
      end_2 = rises w (suc (suc j)) (K w) (omega arith) (le_refl (K w))

      runs_x : (i : ℕ) → b w 0 ≤ i → i ≤ b w (K w) → is_running (at w i) x ≡ true
      runs_x i f l = (kept w i f l).running x ∙ on

      runs_y : (y : ℕ) → is_running r y ≡ true → (i : ℕ) → b w 0 ≤ i → i ≤ b w (K w) → is_running (at w i) y ≡ true
      runs_y y h i f l = runs_at w k i from (omega (arith, end_0)) f l y h

      -- the answer of one that is lacked, and runs, does not come: it would be held then
      gets_none : (y n : ℕ) → lacks start x y ≡ true → b w 0 ≤ n → n < b w (K w)
          → Delivered (at w) (plain 6 y x) n → ⊥
      gets_none y n lacked f l q =
          let now : lacks (at w n) x y ≡ true = lacks_at n f (omega arith) x on y ∙ lacked in
          let next : lacks (at w (suc n)) x y ≡ true = lacks_at (suc n) (omega arith) l x on y ∙ lacked in
          clash
          (ap (λ (o : Own). o.held y) (received_own (at w n) (at w (suc n)) (plain 6 y x) q.0 q.1 q.2 (runs_x n f (omega arith)))
          ∙ takes_in_lem (at w n).table x (now_at (at w n) x) (own_at (at w n) x) y (and_right (is_running (at w n) y && not (holds (at w n) x y)) _ now))
          (not_out (holds (at w (suc n)) x y)
          (and_right (is_running (at w (suc n)) y) _ (and_left (is_running (at w (suc n)) y && not (holds (at w (suc n)) x y)) _ next)))

      -- nor is it invited
      invites_none : (y : ℕ) → C y ≡ true → H y ≡ false → leafset r.table x (union C H) y ≡ true → ⊥
      invites_none y c out e =
          let e0 = end_0 in
          let on_y : is_running r y ≡ true = (kept w k from (omega arith)).still_cands.candidates_run x (runs_x k from (omega arith)) y c in
          let fits : leafset r.table x (with H y) y ≡ true =
          heritage r.table x (union C H) (with H y)
          (λ u p. or_case (H u) (eqb u y) p (λ q. or_right (C u) q) (λ q. or_left (H u) (ap C (eqb-true u y q) ∙ c)))
          y (or_right (H y) (eq-eqb y y refl)) e in
          let five : Memᴰ (plain 5 x y) (at w (suc k)).messages =
          fired_sends r (at w (suc k)) x 0 fires (plain 5 x y)
          (sends_invitation r.table x (now_at r x) (own_at r x) y ((((fair w).well k).node_well x).own_well.candidate_other y c).low
          (and_in (and_in c (not_in out)) e)) in
          let v =
          answered w (suc k) j (omega arith) to room (plain 5 x y) (plain 6 y x) five
          (λ n f l. (runs_y y on_y n f l, answers_invitation (at w n).table y (now_at (at w n) y) (own_at (at w n) y) x)) in
          gets_none y v.0 (sym (lacks_at k from (omega arith) x on y) ∙ and_in (and_in on_y (not_in out)) fits)
          (omega (arith, v.1)) (omega (arith, v.2, end_2)) v.3

      -- so nobody of the candidates is lacked
      known : (u : ℕ) → C u ≡ true → lacks start x u ≡ false
      known u c =
          is_false (lacks start x u) (λ e.
          let here : lacks r x u ≡ true = lacks_at k from (omega (arith, end_0)) x on u ∙ e in
          let out : H u ≡ false = not_out (H u) (and_right (is_running r u) _ (and_left (is_running r u && not (H u)) _ here)) in
          let all : (z : ℕ) → leafset r.table x (union C H) z ≡ true → H z ≡ true = λ z q.
          or_case (C z) (H z) (leafset_within r.table x (union C H) z q) (λ p. decide (H z) (λ h. h) (λ h. absurd (invites_none z p h q))) (λ h. h) in
          clash
          (all u
          (sym (same_choice r.table x ((fair w).well k).table_well ((((fair w).well k).node_well x).running_low (runs_x k from (omega (arith, end_0))))
          (union C H) (with H u)
          (λ z p. or_case (H z) (eqb z u) p (λ h. or_right (C z) h) (λ h. or_left (H z) (ap C (eqb-true z u h) ∙ c)))
          (λ z p. or_left (eqb z u) (all z p)) u)
          ∙ and_right (is_running r u && not (H u)) _ here))
          out)

  -- a candidate at the end of a round, or before, with three rounds to come
  pub candidate_known :
      (i j : ℕ) → b w 0 ≤ i → i ≤ b w j → suc (suc (suc j)) ≤ K w → (x u : ℕ) → R x ≡ true → (own_at (at w i) x).candidates u ≡ true → lacks start x u ≡ false
  candidate_known i j f l room x u on c =
      let top = rises w j (K w) (omega arith) (le_refl (K w)) in
      let s = considered w i j f l (omega arith) x u ((kept w i f (omega arith)).running x ∙ on) c in
      known x on s.0 (suc j) (omega (arith, s.1)) s.2 room s.3.1 u s.3.0

  -- ---- asking

  -- x asks z at a point of round j - 1 or before
  module _
      (x z : ℕ) (on : R x ≡ true)
      (k j : ℕ) (from : b w 0 ≤ k) (to : suc k ≤ b w j)
      (fires : at w (suc k) ≡ after (at w k) (Timer (node_of x) 0))
      (held : holds (at w k) x z ≡ true)
    where
      -- z gets the question, at a point at which it holds whom it holds
      pub record Asked : Type 0 where
        pub point : ℕ
        pub after_start : b w 0 ≤ point
        pub before_end : suc point ≤ b w (suc j)
        pub runs : R z ≡ true
        pub noted : (own_at (at w (suc point)) z).candidates x ≡ true
        pub answered : Memᴰ (viewing 4 z x (leafset (at w point).table x (holds (at w point) z))) (at w (suc point)).messages

      pub asked : suc j ≤ K w → Asked
      asked room =
          let end_0 = rises w j (K w) (omega arith) (le_refl (K w)) in
          let end_1 = rises w (suc j) (K w) (omega arith) (le_refl (K w)) in
          let kk = kept w k from (omega arith) in
          let on-z : R z ≡ true = sym (kk.running z) ∙ kk.still_clean.holds_running x (kk.running x ∙ on) z held in
          let low : z < size (at w k).table = ((((fair w).well k).node_well x).own_well.held_other z held).low in
          let three : Memᴰ (plain 3 x z) (at w (suc k)).messages =
          fired_sends (at w k) (at w (suc k)) x 0 fires (plain 3 x z) (sends_question (at w k).table x (now_at (at w k) x) (own_at (at w k) x) z low held) in
          let a = arrives w (suc k) j (omega arith) to room (plain 3 x z) three in
          let on-a : is_running (at w a.0) z ≡ true = (kept w a.0 (omega (arith, a.1)) (omega (arith, a.2))).running z ∙ on-z in
          record {
            point = a.0;
            after_start = omega (arith, a.1);
            before_end = a.2;
            runs = on-z;
            noted = ap (λ (o : Own). o.candidates x) (received_own (at w a.0) (at w (suc a.0)) (plain 3 x z) a.3.0 a.3.1 a.3.2 on-a)
                ∙ notes_asker (at w a.0).table z (now_at (at w a.0) z) (own_at (at w a.0) z) x;
            answered = received_sends (at w a.0) (at w (suc a.0)) (plain 3 x z) a.3.0 a.3.1 a.3.2 on-a _
                (answers_asker (at w a.0).table z (now_at (at w a.0) z) (own_at (at w a.0) z) x);
          }

      -- so it does not lack x
      pub asked_knows : suc (suc (suc (suc j))) ≤ K w → lacks start z x ≡ false
      asked_knows room = let a = asked (omega arith) in
          candidate_known (suc a.point) (suc j) (omega (arith, a.after_start)) a.before_end room z x a.runs a.noted

      -- and x hears of whom it holds
      hears_view :
          suc (suc (suc (suc (suc j)))) ≤ K w → (a : Asked) → (y : ℕ) → leafset (at w a.point).table x (holds (at w a.point) z) y ≡ true
          → lacks start x y ≡ false
      hears_view room a y e =
          let end_2 = rises w (suc (suc j)) (K w) (omega arith) (le_refl (K w)) in
          let m : Message = viewing 4 z x (leafset (at w a.point).table x (holds (at w a.point) z)) in
          let c = arrives w (suc a.point) (suc j) (omega (arith, a.after_start)) a.before_end (omega arith) m a.answered in
          let on-c : is_running (at w c.0) x ≡ true = (kept w c.0 (omega (arith, a.after_start, c.1)) (omega (arith, c.2))).running x ∙ on in
          candidate_known (suc c.0) (suc (suc j)) (omega (arith, a.after_start, c.1)) c.2 room x y on
          (ap (λ (o : Own). o.candidates y) (received_own (at w c.0) (at w (suc c.0)) m c.3.0 c.3.1 c.3.2 on-c)
          ∙ notes_view (at w c.0).table x (now_at (at w c.0) x) (own_at (at w c.0) x) z _ y e)

      pub hears_all : suc (suc (suc (suc (suc j)))) ≤ K w → (y : ℕ) → chosen start z y ≡ true → lacks start x y ≡ false
      hears_all room y e =
          let a = asked (omega arith) in
          let p = a.point in
          let end_1 = rises w (suc j) (K w) (omega arith) (le_refl (K w)) in
          let fp : b w 0 ≤ p = a.after_start in
          let lp : p ≤ b w (K w) = omega (arith, a.before_end) in
          let kp = kept w p fp lp in
          sym (lacks_at p fp lp x on y)
          ∙ lacks_none_of (at w p) ((fair w).well p) kp.still_clean.holds_running x (kp.running x ∙ on) (holds (at w p) z)
          (kp.still_clean.holds_running z (kp.running z ∙ a.runs))
          (λ v q. lacks_at p fp lp x on v ∙ hears_view room a v q)
          y (leafset_within (at w p).table z (holds (at w p) z) y (steady p fp lp z a.runs y ∙ e))
