-- What each handler and each event leaves, for any fact K of a node's own record that does not look at its candidates, and any fact F of messages.
-- Handlers are looked at by timer and by type, events by the step that they make, each once; what is left to show of a delivery is `Needs`.
use mathlib.Core.Path.{◌≡◌, refl, sym, ap, ◌∙◌, subst}
use mathlib.Core.Logic.{◌⊎◌, inl, inr}
use Prim.Native.Nat.{ℕ, ◌+◌}
use native.Mathlib.Omega.{arith}
use mathlib.Core.Bool.{Bool, true, false, not, ◌&&◌, ◌||◌}
use mathlib.Core.List.Memᴰ
use mathlib.Core.List.{List, [], ◌∷◌, ◌++◌, map, Memᴰ}
use lib.Dec.{eqb, ltb}
use borrow.Author.Tests.{eqb-true, eqb-false}
use Rattle.std.specs.Prelude.{if◌then◌else◌}
use Rattle.model.specs.Sets.{Set, empty, with, without, put, members, some, none_node}
use Rattle.model.specs.Leafset.{Table, size, leafset, closest, successor, passes_zero}
use Rattle.model.specs.Ring.{Ring, Own, Node, Message, is_running, message_at}
use Rattle.model.specs.WellFormed.{Each, nil, cons}
use Rattle.model.specs.Types.{ping_contact, pong_contact, ping_ask_inv, pong_ask_inv, ping_invite, pong_invite, ping_ask_repl, pong_ask_repl, ping_replace, pong_replace}
use Rattle.model.specs.Types.{ping_deloopy, pong_deloopy, leave}
use Rattle.model.specs.Steps.{Effect, plain, naming, stamped, viewing, set_candidates, add_candidate, add_candidates, set_commit, set_spare, hold, release, forget}
use Rattle.model.specs.Steps.{outside, invited, invitations, contact, notice, timer0, timer2, timer3, timer4, timer, on_ping_contact, on_pong_contact}
use Rattle.model.specs.Steps.{on_ping_ask_inv, on_pong_ask_inv, on_ping_invite, on_pong_invite, on_ping_ask_repl, on_pong_ask_repl, on_ping_replace, on_pong_replace}
use Rattle.model.specs.Steps.{on_ping_deloopy, on_pong_deloopy, on_leave, deliver}
use Rattle.model.specs.Play.{set_messages, remove_message, act, receive, after}
use Rattle.model.specs.ConnectivityPreserved.{Harmless}
use Rattle.model.specs.declared.values.NodeNumber.{NodeNumber}
use Rattle.model.specs.declared.event.Event.{Event}
use Rattle.model.specs.declared.event.Event.TheVariants.{On, Off, Notice, Contact, Timer, Deliver, Lose}
use Rattle.model.proofs.Laws.{clash, and_left, and_right, or_case, or_none_right, not_out, not_out_false, if_law, put_law, put_each}
use Rattle.model.proofs.Lists.{item, end, listed_at}
use Rattle.model.proofs.Choices.{members_are}
use Rattle.model.proofs.Handlers.{absent, Part, left_part, map_out}
use Rattle.settle_kept.specs.Settled.{KeepsLeafsets, KeepsHeld, takes_in}

-- ---- the handlers by timer and by type

module _ (t : Table) (x now : ℕ) (o : Own) (P : Effect → Type 0) (still : P (record { own = o; sent = [] })) where
  pub timer_cases :
      (k : ℕ) → (k ≡ 0 → P (timer0 t x now o)) → (k ≡ 2 → P (timer2 t x now o)) → (k ≡ 3 → P (timer3 t x now o)) → (k ≡ 4 → P (timer4 t x now o))
      → P (timer t x now o k)
  unfolding timer
  timer_cases k p0 p2 p3 p4 =
      listed_at (λ j e. k ≡ j → P e) (record { own = o; sent = [] }) (λ j e. still) (item p0 (item (λ e. still) (item p2 (item p3 (item p4 end))))) k refl

  pub record ByType (m : Message) : Type 0 where
    pub on_1 : m.type ≡ 1 → P (on_ping_contact t x now o m)
    pub on_2 : m.type ≡ 2 → P (on_pong_contact t x now o m)
    pub on_3 : m.type ≡ 3 → P (on_ping_ask_inv t x now o m)
    pub on_4 : m.type ≡ 4 → P (on_pong_ask_inv t x now o m)
    pub on_5 : m.type ≡ 5 → P (on_ping_invite t x now o m)
    pub on_6 : m.type ≡ 6 → P (on_pong_invite t x now o m)
    pub on_7 : m.type ≡ 7 → P (on_ping_ask_repl t x now o m)
    pub on_8 : m.type ≡ 8 → P (on_pong_ask_repl t x now o m)
    pub on_9 : m.type ≡ 9 → P (on_ping_replace t x now o m)
    pub on_10 : m.type ≡ 10 → P (on_pong_replace t x now o m)
    pub on_11 : m.type ≡ 11 → P (on_ping_deloopy t x now o m)
    pub on_12 : m.type ≡ 12 → P (on_pong_deloopy t x now o m)
    pub on_13 : m.type ≡ 13 → P (on_leave t x now o m)

  pub deliver_cases : (m : Message) → ByType m → P (deliver t x now o m)
  unfolding deliver
  deliver_cases m b =
      listed_at (λ j e. m.type ≡ j → P e) (record { own = o; sent = [] }) (λ j e. still)
      (item (λ e. still)
      (item b.on_1
      (item b.on_2
      (item b.on_3
      (item b.on_4
      (item b.on_5
      (item b.on_6
      (item b.on_7
      (item b.on_8
      (item b.on_9
      (item b.on_10
      (item b.on_11
      (item b.on_12
      (item b.on_13
      end))))))))))))))
      m.type
      refl

-- ---- the own record after a handler, for any fact K of it

-- K does not look at candidates
abbrev pub Blind : (Own → Type 0) → Type 0
Blind K = (S : Set) (p : Own) → K p → K (set_candidates S p)

pub own_forget : (K : Own → Type 0) → Blind K → (o : Own) → K o → (z : ℕ) → (o.held z ≡ true → K (release z o)) → K (forget z o)
unfolding forget
own_forget K blind o k z f = blind (without o.candidates z) _ (if_law K (o.held z) (release z o) o f (λ e. k))

-- of a fact that looks only at who is held
module _ (K : Set → Type 0) (o : Own) (k : K o.held) where
  pub held_forget : (z : ℕ) → (o.held z ≡ true → K (without o.held z)) → K (forget z o).held
  unfolding release
  held_forget z f = own_forget (λ (p : Own). K p.held) (λ S p h. h) o k z f

  pub held_hold : (now y : ℕ) → (o.held y ≡ false → K (with o.held y)) → K (hold now y o).held
  unfolding hold
  held_hold now y f = if_law (λ (p : Own). K p.held) (o.held y) o _ (λ e. k) f

module _ (t : Table) (x now : ℕ) (o : Own) (K : Own → Type 0) where
  -- what is left to show of the delivery of m, if K does not look at candidates
  pub record Keeps (m : Message) : Type 0 where
    pub on_2 : m.type ≡ 2 → K (hold now m.sender o)
    pub on_6 : m.type ≡ 6 → leafset t x (with o.held m.sender) m.sender ≡ true → K (hold now m.sender o)
    pub on_8 : m.type ≡ 8 → o.held m.sender ≡ true → K (set_spare m.sender m.subject o)
    pub on_9 : m.type ≡ 9 → o.held m.subject ≡ true → K (set_commit m.subject now o)
    pub on_10 :
        m.type ≡ 10 → outside t x now o m.subject ≡ true → o.spare m.subject ≡ m.sender
        → K (hold now m.sender o) × K (set_commit m.sender now (release m.subject (hold now m.sender o)))
    pub on_13 : m.type ≡ 13 → K (forget m.sender o)

  -- and if it does
  pub record Joins (m : Message) : Type 0 where
    pub on_3 : m.type ≡ 3 → K (add_candidate m.sender o)
    pub on_4 : m.type ≡ 4 → K (add_candidates m.view o)
    pub on_11 : m.type ≡ 11 → K (add_candidate m.subject o)
    pub on_12 : m.type ≡ 12 → K (add_candidate m.sender o)

  pub blind_joins : Blind K → K o → (m : Message) → Joins m
  blind_joins blind k m = record { on_3 = λ e. blind _ o k; on_4 = λ e. blind _ o k; on_11 = λ e. blind _ o k; on_12 = λ e. blind _ o k }

  -- the fact of an effect's record
  record OwnLaw (e : Effect) : Type 0 where
    own : K e.own

  module _ (k : K o) where
    unchanged : {ms : List Message} → OwnLaw (record { own = o; sent = ms })
    unchanged = record { own = k }

    own_tested : (q : Bool) {e f : Effect} → (q ≡ true → OwnLaw e) → OwnLaw f → OwnLaw (if q then e else f)
    own_tested q {e} {f} h g = if_law OwnLaw q e f h (λ i. g)

    pub own_timer : (j : ℕ) → (j ≡ 0 → K (set_candidates empty o)) → K (timer t x now o j).own
    unfolding timer0 timer2 timer3 timer4
    own_timer j f =
        (timer_cases t x now o OwnLaw unchanged j
        (λ e. record { own = f e }) (λ e. unchanged) (λ e. unchanged)
        (λ e. own_tested (passes_zero t x o.held) (λ h. unchanged) unchanged)
        ).own

    pub own_deliver : (m : Message) → Keeps m → Joins m → K (deliver t x now o m).own
    unfolding on_ping_contact on_pong_contact on_ping_ask_inv on_pong_ask_inv on_ping_invite on_pong_invite on_ping_ask_repl
        on_pong_ask_repl on_ping_replace on_pong_replace on_ping_deloopy on_pong_deloopy on_leave
    own_deliver m keeps joins =
        (deliver_cases t x now o OwnLaw unchanged m
        (record {
          on_1 = λ e. unchanged;
          on_2 = λ e. record { own = keeps.on_2 e };
          on_3 = λ e. record { own = joins.on_3 e };
          on_4 = λ e. record { own = joins.on_4 e };
          on_5 = λ e. unchanged;
          on_6 = λ e. own_tested (leafset t x (with o.held m.sender) m.sender) (λ h. record { own = keeps.on_6 e h }) unchanged;
          on_7 = λ e. unchanged;
          on_8 = λ e. own_tested (o.held m.sender) (λ h. record { own = keeps.on_8 e h }) unchanged;
          on_9 = λ e. own_tested (o.held m.subject) (λ h. record { own = keeps.on_9 e h }) unchanged;
          on_10 = λ e.
              own_tested (outside t x now o m.subject && eqb (o.spare m.subject) m.sender) (λ fits. record { own = traded e fits }) unchanged;
          on_11 = λ e.
              own_tested (eqb m.subject x || not (some (size t) o.held)) (λ h. unchanged)
              (own_tested (passes_zero t x o.held) (λ h. record { own = joins.on_11 e }) unchanged);
          on_12 = λ e. record { own = joins.on_12 e };
          on_13 = λ e. record { own = keeps.on_13 e };
        })
        ).own
      where
        traded :
            m.type ≡ 10 → (outside t x now o m.subject && eqb (o.spare m.subject) m.sender) ≡ true
            → K (if ltb (o.commit m.subject) m.stamp
            then set_commit m.sender now (release m.subject (hold now m.sender o))
            else hold now m.sender o)
        traded e fits =
            let both =
            keeps.on_10 e (and_left (outside t x now o m.subject) _ fits)
            (eqb-true (o.spare m.subject) m.sender (and_right (outside t x now o m.subject) _ fits)) in
            if_law K (ltb (o.commit m.subject) m.stamp)
            (set_commit m.sender now (release m.subject (hold now m.sender o))) (hold now m.sender o)
            (λ i. both.1) (λ i. both.0)

-- ---- the messages that a handler sends, for any fact F of messages

-- the types 3, 4, 5, 7, 11 and 12: what they say decides only who becomes a candidate, or is offered
abbrev pub is_idle : ℕ → Bool
is_idle k =
    not (eqb k ping_contact) && not (eqb k pong_contact) && not (eqb k pong_invite) && not (eqb k pong_ask_repl) && not (eqb k ping_replace)
    && not (eqb k pong_replace)
    && not (eqb k leave)

pub idle_not : (j k : ℕ) → is_idle k ≡ false → is_idle j ≡ true → ¬ (j ≡ k)
idle_not j k n p e = clash (ap is_idle (sym e) ∙ p) n

-- F says nothing of these
abbrev pub Idly : (Message → Type 0) → Type 0
Idly F = (m : Message) → is_idle m.type ≡ true → F m

-- a message made for each of a list is made for one of it
made_for : {P : ℕ → Type 0} {l : List ℕ} → Each P l → (make : ℕ → Message) (m : Message) → Memᴰ m (map make l) → (y : ℕ) × P y × (m ≡ make y)
made_for nil make m h = absent h
made_for {P} (cons {a} {l} p e) make m h = go (Memᴰ.cases_cons h) p (made_for e make m)
  where
    go : {b : ℕ} → (m ≡ make b) ⊎ Memᴰ m (map make l) → P b → (Memᴰ m (map make l) → (y : ℕ) × P y × (m ≡ make y)) → (y : ℕ) × P y × (m ≡ make y)
    go {b} (inl i) q f = (b, q, i)
    go (inr t) q f = f t

module _ (t : Table) (x now : ℕ) (o : Own) (F : Message → Type 0) where
  -- what is left to show of timer 3: whom x asks about is outside its leafset, and has a spare
  abbrev pub Asks : Type 0
  Asks = (z : ℕ) → outside t x now o z ≡ true → ¬ (o.spare z ≡ none_node) → F (stamped ping_replace x (o.spare z) z now)

  -- of the delivery of m, if F says nothing of the idle types
  pub record Answers (m : Message) : Type 0 where
    pub on_1 : m.type ≡ 1 → F (plain pong_contact x m.sender)
    pub on_5 : m.type ≡ 5 → F (plain pong_invite x m.sender)
    pub on_7 : m.type ≡ 7 → F (naming pong_ask_repl x m.sender (closest t x o.held m.sender))
    pub on_9 : m.type ≡ 9 → o.held m.subject ≡ true → F (stamped pong_replace x m.sender m.subject m.stamp)

  -- and of the idle types
  pub record Tells : Type 0 where
    pub invitation : (y : ℕ) → F (plain ping_invite x y)
    pub question : (y : ℕ) → F (plain ping_ask_inv x y)
    pub view : (y : ℕ) → F (viewing pong_ask_inv x y (leafset t y o.held))
    pub asks_spare : (y : ℕ) → F (plain ping_ask_repl x y)
    pub sets_out : passes_zero t x o.held ≡ true → F (naming ping_deloopy x (successor t x o.held) x)
    pub ends : (y : ℕ) → F (plain pong_deloopy x y)

  -- type 11 goes on to the successor
  abbrev pub GoesOn : Message → Type 0
  GoesOn m =
      m.type ≡ 11 → some (size t) o.held ≡ true → passes_zero t x o.held ≡ false → F (naming ping_deloopy x (successor t x o.held) m.subject)

  pub idle_tells : Idly F → Tells
  idle_tells idle =
      record {
        invitation = λ y. idle _ refl;
        question = λ y. idle _ refl;
        view = λ y. idle _ refl;
        asks_spare = λ y. idle _ refl;
        sets_out = λ e. idle _ refl;
        ends = λ y. idle _ refl;
      }

  -- the fact of an effect's messages
  record SentLaw (e : Effect) : Type 0 where
    sent : (m : Message) → Memᴰ m e.sent → F m

  silent : {p : Own} → SentLaw (record { own = p; sent = [] })
  silent = record { sent = λ m. absent }

  one : {p : Own} {m : Message} → F m → SentLaw (record { own = p; sent = m ∷ [] })
  one f = record { sent = λ a h. subst F (sym (Memᴰ.eq_of_singleton h)) f }

  each_made : (make : ℕ → Message) (to : List ℕ) → ((y : ℕ) → F (make y)) → (m : Message) → Memᴰ m (map make to) → F m
  each_made make to f m h = let q = map_out make to m h in subst F (sym q.2) (f q.0)

  sent_tested : (q : Bool) {e f : Effect} → (q ≡ true → SentLaw e) → (q ≡ false → SentLaw f) → SentLaw (if q then e else f)
  sent_tested q {e} {f} h g = if_law SentLaw q e f h g

  pub sent_timer : Tells → Asks → (j : ℕ) (m : Message) → Memᴰ m (timer t x now o j).sent → F m
  unfolding timer0 timer2 timer3 timer4
  sent_timer tells asks j =
      (timer_cases t x now o SentLaw silent j
      (λ e. record {
        sent = λ m h.
            elim (Memᴰ.append_cases (invitations t x now o) h) [
              | inl i ↦ each_made (plain ping_invite x) (members (size t) (invited t x now o)) tells.invitation m i
              | inr i ↦ each_made (plain ping_ask_inv x) (members (size t) o.held) tells.question m i
            ];
      })
      (λ e. record { sent = each_made (plain ping_ask_repl x) (members (size t) (outside t x now o)) tells.asks_spare })
      (λ e. record { sent = asked })
      (λ e. sent_tested (passes_zero t x o.held) (λ h. one (tells.sets_out h)) (λ h. silent))
      ).sent
    where
      spared : Set
      spared z = outside t x now o z && not (eqb (o.spare z) none_node)

      asked : (m : Message) → Memᴰ m (map (λ z. stamped ping_replace x (o.spare z) z now) (members (size t) spared)) → F m
      asked m h =
          let q = made_for (members_are (size t) spared) (λ z. stamped ping_replace x (o.spare z) z now) m h in
          let z : ℕ = q.0 in
          subst F (sym q.2)
          (asks z (and_left (outside t x now o z) _ q.1.within)
          (eqb-false (o.spare z) none_node (not_out (eqb (o.spare z) none_node) (and_right (outside t x now o z) _ q.1.within))))

  pub sent_deliver : Tells → (m : Message) → GoesOn m → Answers m → (a : Message) → Memᴰ a (deliver t x now o m).sent → F a
  unfolding on_ping_contact on_pong_contact on_ping_ask_inv on_pong_ask_inv on_ping_invite on_pong_invite on_ping_ask_repl
      on_pong_ask_repl on_ping_replace on_pong_replace on_ping_deloopy on_pong_deloopy on_leave
  sent_deliver tells m goes_on answers =
      (deliver_cases t x now o SentLaw silent m
      (record {
        on_1 = λ e. one (answers.on_1 e);
        on_2 = λ e. silent;
        on_3 = λ e. one (tells.view m.sender);
        on_4 = λ e. silent;
        on_5 = λ e. one (answers.on_5 e);
        on_6 = λ e. sent_tested (leafset t x (with o.held m.sender) m.sender) (λ h. silent) (λ h. silent);
        on_7 = λ e. one (answers.on_7 e);
        on_8 = λ e. sent_tested (o.held m.sender) (λ h. silent) (λ h. silent);
        on_9 = λ e. sent_tested (o.held m.subject) (λ h. one (answers.on_9 e h)) (λ h. silent);
        on_10 = λ e. sent_tested (outside t x now o m.subject && eqb (o.spare m.subject) m.sender) (λ h. silent) (λ h. silent);
        on_11 = λ e.
            sent_tested (eqb m.subject x || not (some (size t) o.held)) (λ h. silent)
            (λ h. sent_tested (passes_zero t x o.held) (λ p. one (tells.ends m.subject))
            (λ p. one (goes_on e (not_out_false (some (size t) o.held) (or_none_right (eqb m.subject x) _ h)) p)));
        on_12 = λ e. silent;
        on_13 = λ e. silent;
      })
      ).sent

-- ---- the events by the step that they make

-- neither on nor off
abbrev pub NoSwitch : Event → Type 0
NoSwitch (On x) = ⊥
NoSwitch (Off x polite) = ⊥
NoSwitch (Notice x z) = Unit
NoSwitch (Contact x y) = Unit
NoSwitch (Timer x k) = Unit
NoSwitch (Deliver i echo) = Unit
NoSwitch (Lose i) = Unit

-- the message at i is delivered, or echoed
abbrev pub Delivers : Event → ℕ → Type 0
Delivers e i = (echo : Bool) × (e ≡ Deliver i echo)

module _ (r : Ring) where
  abbrev pub now_at : ℕ → ℕ
  now_at x = (r.node x).clock + 1

  abbrev pub own_at : ℕ → Own
  own_at x = (r.node x).own

  -- what the timer k does at x
  abbrev pub ticked : ℕ → ℕ → Effect
  ticked x k = timer r.table x (now_at x) (own_at x) k

  -- what the delivery of m does at x
  abbrev pub given : ℕ → Message → Effect
  given x m = deliver r.table x (now_at x) (own_at x) m

  abbrev pub actor : ℕ → Effect → Node
  actor x e = record { running = (r.node x).running; clock = now_at x; own = e.own }

  -- x after the effect e; ms are the messages that stay: of those in flight all, or all but one
  abbrev pub acted : ℕ → List Message → Effect → Ring
  acted x ms e = record { table = r.table; node = put r.node x (actor x e); messages = ms ++ e.sent }

  -- the receiver of the message at i, and what the delivery does there
  abbrev to : ℕ → ℕ
  to i = (message_at r i).receiver

  abbrev pub delivered : ℕ → Effect
  delivered i = given (to i) (message_at r i)

  -- an event leaves messages out, or makes a step of one node
  module _ (P : Ring → Type 0) (still : (ms : List Message) → Part ms r.messages → P (set_messages ms r)) where
    received :
        (i : ℕ) (ms : List Message) → Part ms r.messages → (is_running r (to i) ≡ true → P (acted (to i) ms (delivered i)))
        → P (receive (message_at r i) (set_messages ms r))
    unfolding act
    received i ms part step = if_law P (is_running r (to i)) (acted (to i) ms (delivered i)) (set_messages ms r) step (λ off. still ms part)

    pub by_steps :
        (e : Event) → NoSwitch e
        → ((x z : NodeNumber) → e ≡ Notice x z → P (acted x.0 r.messages (notice r.table x.0 (now_at x.0) (own_at x.0) z.0)))
        → ((x y : NodeNumber) → e ≡ Contact x y → P (acted x.0 r.messages (contact r.table x.0 (now_at x.0) (own_at x.0) y.0)))
        → ((x : NodeNumber) (k : ℕ) → e ≡ Timer x k → P (acted x.0 r.messages (ticked x.0 k)))
        → ((i : ℕ) (ms : List Message) → Part ms r.messages → Delivers e i → is_running r (to i) ≡ true → P (acted (to i) ms (delivered i)))
        → P (after r e)
    unfolding after act remove_message
    by_steps (On x) n on-notice on_contact on_timer on_deliver = absurd n
    by_steps (Off x polite) n on-notice on_contact on_timer on_deliver = absurd n
    by_steps (Notice x z) n on-notice on_contact on_timer on_deliver = on-notice x z refl
    by_steps (Contact x y) n on-notice on_contact on_timer on_deliver = on_contact x y refl
    by_steps (Timer x k) n on-notice on_contact on_timer on_deliver = on_timer x k refl
    by_steps (Deliver i true) n on-notice on_contact on_timer on_deliver =
        received i r.messages (λ m q. q) (on_deliver i r.messages (λ m q. q) (true, refl))
    by_steps (Deliver i false) n on-notice on_contact on_timer on_deliver =
        received i _ (left_part i r.messages) (on_deliver i _ (left_part i r.messages) (false, refl))
    by_steps (Lose i) n on-notice on_contact on_timer on_deliver = still _ (left_part i r.messages)

  pub after_running : (e : Event) → NoSwitch e → (a : ℕ) → is_running (after r e) a ≡ is_running r a
  after_running e n a =
      by_steps (λ (s : Ring). is_running s a ≡ is_running r a) (λ ms part. refl) e n
      (λ x z i. same x.0 _) (λ x y i. same x.0 _) (λ x k i. same x.0 _) (λ i ms part d on. same (to i) _)
    where
      same : (x : ℕ) (p : Own) → (put r.node x (record { running = (r.node x).running; clock = now_at x; own = p }) a).running ≡ is_running r a
      same x p = put_each (λ b s. s.running ≡ is_running r b) r.node x _ refl (λ b d. refl) a

  -- the own record of a after an event: that of the step, if it is a's
  pub own_after :
      (P : Own → Type 0) (a : ℕ) → P (own_at a)
      → (e : Event) → NoSwitch e
      → ((x z : NodeNumber) → e ≡ Notice x z → x.0 ≡ a → P (forget z.0 (own_at a)))
      → ((x : NodeNumber) (k : ℕ) → e ≡ Timer x k → x.0 ≡ a → P (ticked a k).own)
      → ((i : ℕ) → Delivers e i → is_running r a ≡ true → to i ≡ a → P (given a (message_at r i)).own)
      → P ((after r e).node a).own
  unfolding notice contact
  own_after P a p e n on-notice on_timer on_deliver =
      by_steps (λ (s : Ring). P (s.node a).own) (λ ms part. p) e n
      (λ x z i. at_a x.0 (λ b. notice r.table b (now_at b) (own_at b) z.0) (on-notice x z i))
      (λ x y i. at_a x.0 (λ b. contact r.table b (now_at b) (own_at b) y.0) (λ q. p))
      (λ x k i. at_a x.0 (λ b. ticked b k) (on_timer x k i))
      (λ i ms part d on. at_a (to i) (λ b. given b (message_at r i)) (λ q. on_deliver i d (ap (is_running r) (sym q) ∙ on) q))
    where
      at_a : (x : ℕ) (f : ℕ → Effect) → (x ≡ a → P (f a).own) → P (put r.node x (actor x (f x)) a).own
      at_a x f g = put_law (λ (s : Node). P s.own) r.node x (actor x (f x)) a (λ i. subst (λ (b : ℕ). P (f b).own) i (g (sym i))) (λ d. p)

  -- of a fact that does not look at candidates
  pub kept_after :
      (P : Own → Type 0) → Blind P → (a : ℕ) → P (own_at a)
      → (e : Event) → NoSwitch e
      → ((x z : NodeNumber) → e ≡ Notice x z → x.0 ≡ a → P (forget z.0 (own_at a)))
      → ((i : ℕ) → Delivers e i → is_running r a ≡ true → to i ≡ a → Keeps r.table a (now_at a) (own_at a) P (message_at r i))
      → P ((after r e).node a).own
  kept_after P blind a p e n on-notice keeps =
      own_after P a p e n on-notice
      (λ x j i q. own_timer r.table a (now_at a) (own_at a) P p j (λ z. blind _ (own_at a) p))
      (λ i d on q.
      own_deliver r.table a (now_at a) (own_at a) P p (message_at r i) (keeps i d on q)
      (blind_joins r.table a (now_at a) (own_at a) P blind p (message_at r i)))

  -- a message after an event was there, or is sent
  pub old_or_sent :
      (F : Message → Type 0) (e : Event) → NoSwitch e
      → ((x y : NodeNumber) → e ≡ Contact x y → F (plain ping_contact x.0 y.0))
      → ((x : NodeNumber) (k : ℕ) → e ≡ Timer x k → (m : Message) → Memᴰ m (ticked x.0 k).sent → F m)
      → ((i : ℕ) → Delivers e i → is_running r (to i) ≡ true → (m : Message) → Memᴰ m (delivered i).sent → F m)
      → (m : Message) → Memᴰ m (after r e).messages → Memᴰ m r.messages ⊎ F m
  unfolding notice contact
  old_or_sent F e n on_contact on_timer on_deliver m h =
      by_steps (λ (s : Ring). Memᴰ m s.messages → Memᴰ m r.messages ⊎ F m) (λ ms part q. inl (part m q)) e n
      (λ x z i. parted r.messages [] (λ a q. q) absent)
      (λ x y i. parted r.messages _ (λ a q. q) (λ q. subst F (sym (Memᴰ.eq_of_singleton q)) (on_contact x y i)))
      (λ x k i. parted r.messages _ (λ a q. q) (on_timer x k i m))
      (λ i ms part d on. parted ms _ part (on_deliver i d on m))
      h
    where
      parted : (ms sent : List Message) → Part ms r.messages → (Memᴰ m sent → F m) → Memᴰ m (ms ++ sent) → Memᴰ m r.messages ⊎ F m
      parted ms sent part f q = elim (Memᴰ.append_cases ms q) [ inl a ↦ inl (part m a) | inr a ↦ inr (f a) ]

  pub sent_after :
      (F : Message → Type 0) → ((m : Message) → Memᴰ m r.messages → F m)
      → (e : Event) → NoSwitch e
      → ((x y : NodeNumber) → e ≡ Contact x y → F (plain ping_contact x.0 y.0))
      → ((x : NodeNumber) (k : ℕ) → e ≡ Timer x k → (m : Message) → Memᴰ m (ticked x.0 k).sent → F m)
      → ((i : ℕ) → Delivers e i → is_running r (to i) ≡ true → (m : Message) → Memᴰ m (delivered i).sent → F m)
      → (m : Message) → Memᴰ m (after r e).messages → F m
  sent_after F f e n on_contact on_timer on_deliver m h =
      elim (old_or_sent F e n on_contact on_timer on_deliver m h) [ inl q ↦ f m q | inr q ↦ q ]

  -- ---- K of every node's record, and F of the messages

  abbrev pub KeepsAt : (ℕ → Own → Type 0) → ℕ → Type 0
  KeepsAt K i = Keeps r.table (to i) (now_at (to i)) (own_at (to i)) (K (to i)) (message_at r i)

  abbrev pub AsksAt : (Message → Type 0) → ℕ → Type 0
  AsksAt F x = Asks r.table x (now_at x) (own_at x) F

  abbrev pub AnswersAt : (Message → Type 0) → ℕ → Type 0
  AnswersAt F i = Answers r.table (to i) (now_at (to i)) (own_at (to i)) F (message_at r i)

  -- what a running node answers, if F holds of all that it sends but type 13
  pub runner_answers :
      (F : Message → Type 0) → ((m : Message) → is_running r m.sender ≡ true → ¬ (m.type ≡ 13) → F m)
      → (i : ℕ) → is_running r (to i) ≡ true → AnswersAt F i
  runner_answers F f i on =
      record {
        on_1 = λ e. f _ on (λ q. omega arith);
        on_5 = λ e. f _ on (λ q. omega arith);
        on_7 = λ e. f _ on (λ q. omega arith);
        on_9 = λ e h. f _ on (λ q. omega arith);
      }

  -- what a timer and a delivery send
  module _ (F : Message → Type 0) (idle : Idly F) where
    pub timer_sent : (x : ℕ) → AsksAt F x → (j : ℕ) (m : Message) → Memᴰ m (ticked x j).sent → F m
    timer_sent x asks j = sent_timer r.table x (now_at x) (own_at x) F (idle_tells r.table x (now_at x) (own_at x) F idle) asks j

    pub deliver_sent : (i : ℕ) → AnswersAt F i → (m : Message) → Memᴰ m (delivered i).sent → F m
    deliver_sent i answers =
        sent_deliver r.table (to i) (now_at (to i)) (own_at (to i)) F (idle_tells r.table (to i) (now_at (to i)) (own_at (to i)) F idle) (message_at r i)
        (λ e some-held no-pass. idle _ refl) answers

  -- K of every record, and F of every message that was not there
  pub record Left (K : ℕ → Own → Type 0) (F : Message → Type 0) (e : Event) : Type 0 where
    pub nodes : (a : ℕ) → K a ((after r e).node a).own
    pub messages : (m : Message) → Memᴰ m (after r e).messages → Memᴰ m r.messages ⊎ F m

  pub after_left :
      (K : ℕ → Own → Type 0) (F : Message → Type 0) → ((a : ℕ) → K a (own_at a)) → ((a : ℕ) → Blind (K a)) → Idly F
      → (e : Event) → NoSwitch e
      → ((x z : NodeNumber) → e ≡ Notice x z → K x.0 (forget z.0 (own_at x.0)))
      → ((x y : NodeNumber) → e ≡ Contact x y → F (plain ping_contact x.0 y.0))
      → ((x : ℕ) → AsksAt F x)
      → ((i : ℕ) → is_running r (to i) ≡ true → KeepsAt K i)
      → ((i : ℕ) → is_running r (to i) ≡ true → AnswersAt F i)
      → Left K F e
  after_left K F k blind idle e n on-notice on_contact asks keeps answers =
      record {
        nodes = λ a.
            kept_after (K a) (blind a) a (k a) e n
            (λ x z i q. subst (λ (b : ℕ). K b (forget z.0 (own_at b))) q (on-notice x z i))
            (λ i d on q.
            subst (λ (b : ℕ). Keeps r.table b (now_at b) (own_at b) (K b) (message_at r i)) q (keeps i (ap (is_running r) q ∙ on)));
        messages = old_or_sent F e n on_contact (λ x j i. timer_sent F idle x.0 (asks x.0) j) (λ i d on. deliver_sent F idle i (answers i on));
      }

-- K of every record, and F of every message
pub record Has (K : ℕ → Own → Type 0) (F : Message → Type 0) (r : Ring) : Type 0 where
  pub nodes : (a : ℕ) → K a (r.node a).own
  pub flying : (m : Message) → Memᴰ m r.messages → F m

pub after_has :
    (r : Ring) (K : ℕ → Own → Type 0) (F : Message → Type 0) → Has K F r → ((a : ℕ) → Blind (K a)) → Idly F
    → (e : Event) → NoSwitch e
    → ((x z : NodeNumber) → e ≡ Notice x z → K x.0 (forget z.0 (r.node x.0).own))
    → ((x y : NodeNumber) → e ≡ Contact x y → F (plain ping_contact x.0 y.0))
    → ((x : ℕ) → AsksAt r F x)
    → ((i : ℕ) → is_running r (message_at r i).receiver ≡ true → KeepsAt r K i)
    → ((i : ℕ) → is_running r (message_at r i).receiver ≡ true → AnswersAt r F i)
    → Has K F (after r e)
after_has r K F h blind idle e n on-notice on_contact asks keeps answers =
    let d = after_left r K F h.nodes blind idle e n on-notice on_contact asks keeps answers in
    record { nodes = d.nodes; flying = λ m i. elim (d.messages m i) [ inl q ↦ h.flying m q | inr q ↦ q ] }

-- ---- what follows from the types

pub takes_case : {P : Type 0} (k : ℕ) → takes_in k ≡ true → (k ≡ 2 → P) → (k ≡ 6 → P) → (k ≡ 10 → P) → P
takes_case k e f g h =
    or_case (eqb k 2 || eqb k 6) (eqb k 10) e
    (λ p. or_case (eqb k 2) (eqb k 6) p (λ q. f (eqb-true k 2 q)) (λ q. g (eqb-true k 6 q)))
    (λ p. h (eqb-true k 10 p))

-- what allows neither on nor off
no_switch : (C : Event → Type 0) → ((x : NodeNumber) → ¬ C (On x)) → ((x : NodeNumber) (polite : Bool) → ¬ C (Off x polite)) → (e : Event) → C e → NoSwitch e
no_switch C on off (On x) c = on x c
no_switch C on off (Off x polite) c = off x polite c
no_switch C on off (Notice x z) c = tt
no_switch C on off (Contact x y) c = tt
no_switch C on off (Timer x k) c = tt
no_switch C on off (Deliver i echo) c = tt
no_switch C on off (Lose i) c = tt

pub leafsets_switch : (r : Ring) (e : Event) → KeepsLeafsets r e → NoSwitch e
leafsets_switch r = no_switch (KeepsLeafsets r) (λ x c. c) (λ x polite c. c)

pub held_switch : (r : Ring) (e : Event) → KeepsHeld r e → NoSwitch e
held_switch r = no_switch (KeepsHeld r) (λ x c. c) (λ x polite c. c)

pub harmless_switch : (r : Ring) (e : Event) → Harmless r e → NoSwitch e
harmless_switch r = no_switch (Harmless r) (λ x c. c) (λ x polite c. c)
