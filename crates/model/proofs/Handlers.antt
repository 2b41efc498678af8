-- Each event of the model is a step of Cut: what a node's acting leaves, handler by handler.
use mathlib.Core.Path.{◌≡◌, refl, sym, ap, ◌∙◌, subst}
use mathlib.Core.Logic.{◌⊎◌, inl, inr}
use Prim.Native.Nat.{ℕ, zero, suc, ◌+◌, ◌≤◌, ◌<◌}
use native.Mathlib.Omega.{arith}
use native.Mathlib.Decide.{ℕ_discrete}
use mathlib.Core.Bool.{Bool, true, false, not, ◌&&◌, ◌||◌}
use mathlib.Core.List.Memᴰ
use mathlib.Core.List.{List, [], ◌∷◌, ◌++◌, map, Memᴰ}
use lib.ListN.{get_or, take, drop}
use lib.Dec.{eqb, ltb}
use borrow.Author.Tests.{eqb-true, eqb-false, eq-eqb, ne_eqb, ltb-true}
use Rattle.std.specs.Prelude.{if◌then◌else◌}
use Rattle.model.specs.Sets.{Set, with, put, members, some, none_node}
use Rattle.model.specs.Leafset.{Table, size, leafset, passes_zero}
use Rattle.model.specs.Ring.{Ring, Own, Node, Message, blank, is_running, holds, message_at, initial}
use Rattle.model.specs.WellFormed.{Spare, none, spare, WellFormedMessage, WellFormed, Each, nil, cons}
use Rattle.model.specs.Types.{ping_replace, pong_replace, leave}
use Rattle.model.specs.Steps.{Effect, stamped, plain, set_candidates, set_commit, hold, release, forget, invited, invitations}
use Rattle.model.specs.Steps.{questions, outside, leaving, contact, notice, timer0, timer2, timer3, timer4, timer}
use Rattle.model.specs.Steps.{on_ping_contact, on_pong_contact, on_ping_ask_inv, on_pong_ask_inv, on_ping_invite, on_pong_invite, on_ping_ask_repl}
use Rattle.model.specs.Steps.{on_pong_ask_repl, on_ping_replace, on_pong_replace, on_ping_deloopy, on_pong_deloopy, on_leave, deliver}
use Rattle.model.specs.Play.{set_node, set_messages, send_leave, stopped, remove_message, act, receive, after}
use Rattle.model.specs.ConnectivityPreserved.{LeaversOff, Harmless}
use Rattle.model.specs.declared.event.Event.{Event}
use Rattle.model.specs.declared.event.Event.TheVariants.{On, Off, Notice, Contact, Timer, Deliver, Lose}
use Rattle.model.proofs.Laws.{clash, and_left, and_right, or_left, or_right, or_case, not_out, if_law, put_law, put_each, put_here, put_else}
use Rattle.model.proofs.Lists.{item, end, listed_at}
use Rattle.model.proofs.Cut.{commit, clock, Acknowledgement, Young, Kept, EachPair, Change, quiet, answers, trades, Step}

-- ---- lists of messages

-- no message is in the empty list
pub absent : {A : Type 0} {m : Message} → Memᴰ m [] → A
absent h = absurd (Memᴰ.not-nil h)

abbrev pub Part : List Message → List Message → Type 0
Part l k = (m : Message) → Memᴰ m l → Memᴰ m k

-- a message at a position, if it has a type
pub message_in : (l : List Message) (i k : ℕ) → (get_or l i blank).type ≡ suc k → Memᴰ (get_or l i blank) l
message_in [] i k e = absurd (omega arith)
message_in (m ∷ l) zero k e = Memᴰ.head refl
message_in (m ∷ l) (suc i) k e = Memᴰ.tail (message_in l i k e)

pub each_in : {P : Message → Type 0} {l : List Message} {m : Message} → Each P l → Memᴰ m l → P m
each_in nil h = absent h
each_in {P} {m = m} (cons {l = l} p e) h = go (Memᴰ.cases_cons h) p (each_in e)
  where
    go : {a : Message} → (m ≡ a) ⊎ Memᴰ m l → P a → (Memᴰ m l → P m) → P m
    go (inl i) q f = subst P (sym i) q
    go (inr t) q f = f t

drop_part : (i : ℕ) (l : List Message) → Part (drop i l) l
drop_part zero l m h = h
drop_part (suc i) [] m h = h
drop_part (suc i) (a ∷ l) m h = Memᴰ.tail (drop_part i l m h)

take_part : (i : ℕ) (l : List Message) → Part (take i l) l
take_part zero l m h = absent h
take_part (suc i) [] m h = h
take_part (suc i) (a ∷ l) m h = go (take_part i l m) (Memᴰ.cases_cons h)
  where
    go : (Memᴰ m (take i l) → Memᴰ m l) → (m ≡ a) ⊎ Memᴰ m (take i l) → Memᴰ m (a ∷ l)
    go f (inl e) = Memᴰ.head e
    go f (inr t) = Memᴰ.tail (f t)

-- what is left when the message at i is taken out
pub left_part : (i : ℕ) (l : List Message) → Part (take i l ++ drop (suc i) l) l
left_part i l m h = elim (Memᴰ.append_cases (take i l) h) [ inl t ↦ take_part i l m t | inr d ↦ drop_part (suc i) l m d ]

-- a message that was made of an element of a list
pub map_out : {A : Type 0} (make : A → Message) (l : List A) (m : Message) → Memᴰ m (map make l) → (y : A) × Memᴰ y l × (m ≡ make y)
map_out make [] m h = absent h
map_out {A} make (y ∷ l) m h = go (map_out make l m) (Memᴰ.cases_cons h)
  where
    go : (Memᴰ m (map make l) → (z : A) × Memᴰ z l × (m ≡ make z)) → (m ≡ make y) ⊎ Memᴰ m (map make l)
        → (z : A) × Memᴰ z (y ∷ l) × (m ≡ make z)
    go f (inl e) = (y, Memᴰ.head refl, e)
    go f (inr t) = let q = f t in (q.0, Memᴰ.tail q.1, q.2)

-- ---- what holds at every point

-- the stamp of a request in flight is one that its sender's clock has shown
abbrev pub Requests : Ring → Type 0
Requests r = (m : Message) → Memᴰ m r.messages → m.type ≡ ping_replace → m.stamp ≤ clock r m.sender

-- ---- a node acts

module _ (r : Ring) (x : ℕ) where
  abbrev now : ℕ
  now = clock r x + 1

  abbrev own : Own
  own = (r.node x).own

  -- x after the effect e; the ring, ms being the messages that stay
  abbrev actor : Effect → Node
  actor e = record { running = (r.node x).running; clock = now; own = e.own }

  abbrev acted : List Message → Effect → Ring
  acted ms e = record { table = r.table; node = put r.node x (actor e); messages = ms ++ e.sent }

  -- the record p keeps z
  abbrev KeptIn : Own → ℕ → Type 0
  KeptIn p z = (p.held z ≡ true) × ((p.commit z ≡ own.commit z) ⊎ (p.commit z ≡ now))

  -- what the record p holds anew has the commit now
  abbrev NewlyIn : Own → Type 0
  NewlyIn p = (z : ℕ) → own.held z ≡ false → p.held z ≡ true → p.commit z ≡ now

  -- the requests that x sends have the stamp now
  abbrev Asks : Effect → Type 0
  Asks e = (m : Message) → Memᴰ m e.sent → m.type ≡ ping_replace → (m.sender ≡ x) × (m.stamp ≡ now)

  -- x does not say that it leaves
  abbrev Remains : Effect → Type 0
  Remains e = (m : Message) → Memᴰ m e.sent → ¬ (m.type ≡ leave)

  -- what an effect has to meet
  record Law (e : Effect) : Type 0 where
    asks : Asks e
    remains : Remains e
    change : (ms : List Message) → Part ms r.messages → Change r (acted ms e)
    newly : NewlyIn e.own

  renew : (p : Own) (z : ℕ) → KeptIn p z → (p.held z ≡ true) × ((p.commit z ≡ own.commit z) ⊎ (clock r x < p.commit z))
  renew p z k = (k.0, elim k.1 [ inl o ↦ inl o | inr n ↦ inr (omega arith) ])

  module _ (ms : List Message) (part : Part ms r.messages) (e : Effect) where
    -- a law of every pair: of those of x by what the effect keeps, and of the others as they were
    each :
        (P : ℕ → ℕ → Node → Type 0)
        → ((z : ℕ) → is_running r z ≡ true → own.held z ≡ true → P x z (actor e))
        → ((a z : ℕ) → holds r a z ≡ true → P a z (r.node a))
        → EachPair r (λ a z. P a z ((acted ms e).node a))
    each P here elsewhere a z ra rz =
        put_each (λ b n. holds r b z ≡ true → P b z n) r.node x (actor e) (here z rz) (λ b d. elsewhere b z) a

    kept : ((z : ℕ) → is_running r z ≡ true → own.held z ≡ true → KeptIn e.own z) → EachPair r (Kept r (acted ms e))
    kept k =
        each (λ a z n. (n.own.held z ≡ true) × ((n.own.commit z ≡ commit r a z) ⊎ (clock r a < n.own.commit z)))
        (λ z rz h. renew e.own z (k z rz h))
        (λ a z h. (h, inl refl))

    young : (z : ℕ) → e.own.held z ≡ true → e.own.commit z ≡ now → Young r (acted ms e) x z
    young z h c = subst (λ (n : Node). (n.own.held z ≡ true) × (clock r x < n.own.commit z)) (sym (put_here r.node x (actor e))) (h, omega arith)

    -- an acknowledgement is an old one or was sent
    acks : (m : Message) → Acknowledgement (acted ms e) m → Acknowledgement r m ⊎ Memᴰ m e.sent
    acks m a = elim (Memᴰ.append_cases ms a.0) [ inl o ↦ inl (part m o, a.1) | inr s ↦ inr s ]

    acks_old : ((m : Message) → Memᴰ m e.sent → ¬ (m.type ≡ pong_replace)) → (m : Message) → Acknowledgement (acted ms e) m → Acknowledgement r m
    acks_old n m a = elim (acks m a) [ inl o ↦ o | inr s ↦ absurd (n m s a.1) ]

    clocks : (a : ℕ) → clock r a ≤ clock (acted ms e) a
    clocks = put_each (λ a n. clock r a ≤ n.clock) r.node x (actor e) (omega arith) (λ a d. omega arith)

    acted_step : Law e → Step r (acted ms e)
    acted_step law =
        record {
          running = put_each (λ a n. n.running ≡ is_running r a) r.node x (actor e) refl (λ a d. refl);
          clocks = clocks;
          change = law.change ms part;
          newly = λ a z.
              put_each (λ b n. holds r b z ≡ false → n.own.held z ≡ true → clock r b < n.own.commit z) r.node x (actor e)
              (λ f h. omega (arith, law.newly z f h)) (λ b d f h. clash h f) a;
          leavers = λ m h is. elim (Memᴰ.append_cases ms h) [ inl o ↦ part m o | inr s ↦ absurd (law.remains m s is) ];
        }

    acted_requests : Asks e → Requests r → Requests (acted ms e)
    acted_requests asks q m h nine =
        elim (Memᴰ.append_cases ms h) [
          | inl o ↦ omega (arith, q m (part m o) nine, clocks m.sender)
          | inr s ↦ shown (asks m s nine)
        ]
      where
        shown : (m.sender ≡ x) × (m.stamp ≡ now) → m.stamp ≤ clock (acted ms e) m.sender
        shown p =
            rw (p.0, p.1)
            (subst (λ (n : Node). now ≤ n.clock) (sym (put_here r.node x (actor e))) (omega arith))

  -- an effect that releases nothing and sends no acknowledgement
  quietly :
      (e : Effect) → Asks e → Remains e
      → ((z : ℕ) → is_running r z ≡ true → own.held z ≡ true → KeptIn e.own z)
      → ((m : Message) → Memᴰ m e.sent → ¬ (m.type ≡ pong_replace))
      → NewlyIn e.own
      → Law e
  quietly e asks remains k n newly =
      record { asks = asks; remains = remains; change = λ ms part. quiet (kept ms part e k) (acks_old ms part e n); newly = newly }

  -- an effect that sends nothing
  silently : (p : Own) → ((z : ℕ) → is_running r z ≡ true → own.held z ≡ true → KeptIn p z) → NewlyIn p → Law (record { own = p; sent = [] })
  silently p k newly = quietly (record { own = p; sent = [] }) (λ m. absent) (λ m. absent) k (λ m. absent) newly

  -- where the held set stays, nothing is held anew
  none_new : NewlyIn own
  none_new z f h = clash h f

  -- ---- the handlers

  abbrev t : Table
  t = r.table

  -- a message that is neither a request nor an acknowledgement, and does not say that its sender leaves
  abbrev is_plain : ℕ → Bool
  is_plain k = not (eqb k ping_replace) && not (eqb k pong_replace) && not (eqb k leave)

  abbrev Plain : Message → Type 0
  Plain m = is_plain m.type ≡ true

  plain_not : (k : ℕ) (m : Message) → is_plain k ≡ false → Plain m → ¬ (m.type ≡ k)
  plain_not k m n p e = clash (ap is_plain (sym e) ∙ p) n

  -- the record stays but for the candidates, and each message is plain
  calm : (S : Set) (sent : List Message) → ((m : Message) → Memᴰ m sent → Plain m) → Law (record { own = set_candidates S own; sent = sent })
  calm S sent f =
      quietly (record { own = set_candidates S own; sent = sent })
      (λ m h e. absurd (plain_not ping_replace m refl (f m h) e)) (λ m h. plain_not leave m refl (f m h))
      (λ z rz h. (h, inl refl)) (λ m h. plain_not pong_replace m refl (f m h)) none_new

  calm_none : (S : Set) → Law (record { own = set_candidates S own; sent = [] })
  calm_none S = calm S [] (λ m. absent)

  calm_one : (S : Set) (m : Message) → Plain m → Law (record { own = set_candidates S own; sent = m ∷ [] })
  calm_one S m p = calm S (m ∷ []) (λ a h. rw (Memᴰ.eq_of_singleton h) p)

  plain_each : (make : ℕ → Message) (to : List ℕ) → ((y : ℕ) → Plain (make y)) → (m : Message) → Memᴰ m (map make to) → Plain m
  plain_each make to p m h = let q = map_out make to m h in rw q.2 (p q.0)

  calm_many : (S : Set) (make : ℕ → Message) (to : List ℕ) → ((y : ℕ) → Plain (make y)) → Law (record { own = set_candidates S own; sent = map make to })
  calm_many S make to p = calm S (map make to) (plain_each make to p)

  nothing : Law (record { own = own; sent = [] })
  nothing = calm_none own.candidates

  -- an effect under a test
  tested : (q : Bool) {e f : Effect} → (q ≡ true → Law e) → Law f → Law (if q then e else f)
  tested q {e} {f} h k = if_law Law q e f h (λ i. k)

  -- what a release of z, and a commit set to now, keep
  release_kept : (p : Own) (z b : ℕ) → ¬ (b ≡ z) → KeptIn p b → KeptIn (release z p) b
  unfolding release
  release_kept p z b n k = (rw (ne_eqb b z n, k.0), rw (put_else p.commit z 0 b n) k.1)

  put_kept : (p : Own) (y b : ℕ) → (p.commit b ≡ own.commit b) ⊎ (p.commit b ≡ now)
      → (put p.commit y now b ≡ own.commit b) ⊎ (put p.commit y now b ≡ now)
  put_kept p y b k = put_law (λ v. (v ≡ own.commit b) ⊎ (v ≡ now)) p.commit y now b (λ i. inr refl) (λ d. k)

  commit_kept : (p : Own) (y b : ℕ) → KeptIn p b → KeptIn (set_commit y now p) b
  commit_kept p y b k = (k.0, put_kept p y b k.1)

  release_newly : (p : Own) (z : ℕ) → NewlyIn p → NewlyIn (release z p)
  unfolding release
  release_newly p z k b f h =
      put_else p.commit z 0 b (eqb-false b z (not_out (eqb b z) (and_right (p.held b) (not (eqb b z)) h)))
      ∙ k b f (and_left (p.held b) (not (eqb b z)) h)

  commit_newly : (p : Own) (y : ℕ) → NewlyIn p → NewlyIn (set_commit y now p)
  commit_newly p y k b f h = put_law (λ v. v ≡ now) p.commit y now b (λ i. refl) (λ d. k b f h)

  -- y held
  record Taken (y : ℕ) (p : Own) : Type 0 where
    has : p.held y ≡ true
    keeps : (z : ℕ) → own.held z ≡ true → KeptIn p z
    newly : NewlyIn p

  hold_taken : (y : ℕ) → Taken y (hold now y own)
  unfolding hold
  hold_taken y =
      if_law (Taken y) (own.held y) own _
      (λ e. record { has = e; keeps = λ z h. (h, inl refl); newly = none_new })
      (λ e. record {
        has = or_right (own.held y) (eq-eqb y y refl);
        keeps = λ z h. (or_left (eqb z y) h, inl (put_else own.commit y _ z (λ i. clash h (ap own.held i ∙ e))));
        newly = λ z f h. or_case (own.held z) (eqb z y) h (λ t. clash t f) (λ q. rw q);
      })

  law_hold : (y : ℕ) → Law (record { own = hold now y own; sent = [] })
  law_hold y = silently (hold now y own) (λ z rz. (hold_taken y).keeps z) (hold_taken y).newly

  -- ---- notice, contact, timers

  asks_notice : (z : ℕ) → Asks (notice t x now own z)
  unfolding notice
  asks_notice z m = absent

  -- z released if held, whoever are the candidates then
  law_released : (S : Set) (z : ℕ) → is_running r z ≡ false → Law (record { own = set_candidates S (if own.held z then release z own else own); sent = [] })
  law_released S z off =
      if_law (λ p. Law (record { own = set_candidates S p; sent = [] })) (own.held z) (release z own) own
      (λ h. silently (set_candidates S (release z own))
      (λ b rb k. release_kept own z b (λ e. clash rb (ap (is_running r) e ∙ off)) (k, inl refl)) (release_newly own z none_new))
      (λ h. calm_none S)

  law_notice : (z : ℕ) → is_running r z ≡ false → Law (notice t x now own z)
  unfolding notice forget
  law_notice z off = law_released _ z off

  law_contact : (y : ℕ) → Law (contact t x now own y)
  unfolding contact
  law_contact y = calm_one _ _ refl

  law_timer0 : Law (timer0 t x now own)
  unfolding timer0
  law_timer0 =
      calm _ (invitations t x now own ++ questions t x now own) (λ m h.
      elim (Memᴰ.append_cases (invitations t x now own) h) [
        | inl i ↦ plain_each (plain 5 x) (members (size t) (invited t x now own)) (λ y. refl) m i
        | inr i ↦ plain_each (plain 3 x) (members (size t) own.held) (λ y. refl) m i
      ])

  law_timer2 : Law (timer2 t x now own)
  unfolding timer2
  law_timer2 = calm_many _ (plain 7 x) (members (size t) (outside t x now own)) (λ y. refl)

  -- requests: their stamp is now
  law_timer3 : Law (timer3 t x now own)
  unfolding timer3
  law_timer3 =
      quietly _ (λ m h nine. let q = out m h in rw q.1 (refl, refl)) (λ m h is. no_other m leave h (λ i. omega arith) is)
      (λ z rz h. (h, inl refl)) (λ m h is. no_other m pong_replace h (λ i. omega arith) is) none_new
    where
      request : ℕ → Message
      request z = stamped ping_replace x (own.spare z) z now

      to : List ℕ
      to = members (size t) (λ z. outside t x now own z && not (eqb (own.spare z) none_node))

      out : (m : Message) → Memᴰ m (map request to) → (z : ℕ) × (m ≡ request z)
      out m h = let q = map_out request to m h in (q.0, q.2)

      no_other : (m : Message) (k : ℕ) → Memᴰ m (map request to) → ¬ (ping_replace ≡ k) → ¬ (m.type ≡ k)
      no_other m k h other is = other (sym (ap (λ (a : Message). a.type) (out m h).1) ∙ is)

  law_timer4 : Law (timer4 t x now own)
  unfolding timer4
  law_timer4 = tested (passes_zero t x own.held) (λ h. calm_one _ _ refl) nothing

  law_timer : (k : ℕ) → Law (timer t x now own k)
  unfolding timer
  law_timer =
      listed_at (λ j e. Law e) (record { own = own; sent = [] }) (λ j. nothing)
      (item law_timer0 (item nothing (item law_timer2 (item law_timer3 (item law_timer4 end)))))

  -- ---- the delivery of m

  -- what the step of a message meets, and what it meets where all who have said that they leave are off
  abbrev Laws : Effect → Type 0
  Laws e = Asks e × (LeaversOff r → Law e)

  always : {e : Effect} → Law e → Laws e
  always l = (l.asks, λ off. l)

  module _
      (well : WellFormed r)
      (requests : Requests r)
      (m : Message)
      (to : m.receiver ≡ x)
      (runs : is_running r x ≡ true)
      (mem : (k : ℕ) → m.type ≡ suc k → Memᴰ m r.messages)
    where
      abbrev y : ℕ
      y = m.sender

      abbrev z : ℕ
      z = m.subject

      law_on_ping_contact : Law (on_ping_contact t x now own m)
      unfolding on_ping_contact
      law_on_ping_contact = calm_one _ _ refl

      law_on_pong_contact : Law (on_pong_contact t x now own m)
      unfolding on_pong_contact
      law_on_pong_contact = law_hold y

      law_on_ping_ask_inv : Law (on_ping_ask_inv t x now own m)
      unfolding on_ping_ask_inv
      law_on_ping_ask_inv = calm_one _ _ refl

      law_on_pong_ask_inv : Law (on_pong_ask_inv t x now own m)
      unfolding on_pong_ask_inv
      law_on_pong_ask_inv = calm_none _

      law_on_ping_invite : Law (on_ping_invite t x now own m)
      unfolding on_ping_invite
      law_on_ping_invite = calm_one _ _ refl

      law_on_pong_invite : Law (on_pong_invite t x now own m)
      unfolding on_pong_invite
      law_on_pong_invite = tested (leafset t x (with own.held y) y) (λ h. law_hold y) nothing

      law_on_ping_ask_repl : Law (on_ping_ask_repl t x now own m)
      unfolding on_ping_ask_repl
      law_on_ping_ask_repl = calm_one _ _ refl

      law_on_pong_ask_repl : Law (on_pong_ask_repl t x now own m)
      unfolding on_pong_ask_repl
      law_on_pong_ask_repl = tested (own.held y) (λ h. silently _ (λ b rb k. (k, inl refl)) none_new) nothing

      -- a request answered: the commit to z is now, and the acknowledgement is the one message sent
      law_on_ping_replace : m.type ≡ ping_replace → Law (on_ping_replace t x now own m)
      unfolding on_ping_replace
      law_on_ping_replace nine =
          tested (own.held z) (λ held. record {
            asks = λ a h nine. absurd (no_other a ping_replace h (λ i. omega arith) nine);
            remains = λ a h is. no_other a leave h (λ i. omega arith) is;
            change = change held;
            newly = commit_newly own z none_new;
          }) nothing
        where
          acknowledgement : Message
          acknowledgement = stamped pong_replace x y z m.stamp

          answer : Effect
          answer = record { own = set_commit z now own; sent = acknowledgement ∷ [] }

          no_other : (a : Message) (k : ℕ) → Memᴰ a (acknowledgement ∷ []) → ¬ (pong_replace ≡ k) → ¬ (a.type ≡ k)
          no_other a k h other is = other (sym (ap (λ (b : Message). b.type) (Memᴰ.eq_of_singleton h)) ∙ is)

          change : own.held z ≡ true → (ms : List Message) → Part ms r.messages → Change r (acted ms answer)
          change held ms part =
              answers acknowledgement runs
              (requests m (mem 8 nine) nine)
              (young ms part answer z held (put_here own.commit z now))
              (kept ms part answer (λ b rb h. commit_kept own z b (h, inl refl)))
              (λ a h. elim (acks ms part answer a h) [ inl o ↦ inl o | inr s ↦ inr (Memᴰ.eq_of_singleton s) ])

      -- z released for y
      trade : Own
      trade = set_commit y now (release z (hold now y own))

      trade_kept : (b : ℕ) → ¬ (b ≡ z) → own.held b ≡ true → KeptIn trade b
      unfolding trade
      trade_kept b n h = commit_kept (release z (hold now y own)) y b (release_kept (hold now y own) z b n ((hold_taken y).keeps b h))

      trade_held : ¬ (y ≡ z) → trade.held y ≡ true
      unfolding trade release
      trade_held n = rw (ne_eqb y z n, (hold_taken y).has)

      trade_commit : trade.commit y ≡ now
      unfolding trade
      trade_commit = put_here (release z (hold now y own)).commit y now

      trade_newly : NewlyIn trade
      unfolding trade
      trade_newly = commit_newly (release z (hold now y own)) y (release_newly (hold now y own) z (hold_taken y).newly)

      -- the spare of z is another than z
      spare_differs : {n b : ℕ} → n ≤ 64 → b < n → Spare n x z b → ¬ (b ≡ z)
      spare_differs high h none = absurd (omega arith)
      spare_differs high h (spare k d) = d

      law_trade : m.type ≡ pong_replace → own.spare z ≡ y → own.commit z < m.stamp → Law (record { own = trade; sent = [] })
      law_trade ten spare-is old = record { asks = λ a. absent; remains = λ a. absent; change = change; newly = trade_newly }
        where
          effect : Effect
          effect = record { own = trade; sent = [] }

          sent_well : WellFormedMessage (size t) m
          sent_well = each_in well.messages_well (mem 9 ten)

          differ : ¬ (y ≡ z)
          differ =
              spare_differs well.table_well.size_high sent_well.sender_low
              (subst (Spare (size t) x z) spare-is ((well.node_well x).own_well.spare_other z))

          change : (ms : List Message) → Part ms r.messages → Change r (acted ms effect)
          change ms part =
              trades m (mem 9 ten, ten) (rw to old)
              (subst (λ (a : ℕ). Young r (acted ms effect) a y) (sym to) (young ms part effect y (trade_held differ) trade_commit))
              (each ms part effect
              (λ a b n. ((n.own.held b ≡ true) × ((n.own.commit b ≡ commit r a b) ⊎ (clock r a < n.own.commit b))) ⊎ ((a ≡ m.receiver) × (b ≡ z)))
              (λ b rb h. elim (ℕ_discrete b z) [ yes e ↦ inr (sym to, e) | no n ↦ inl (renew trade b (trade_kept b n h)) ])
              (λ a b h. inl (h, inl refl)))
              (acks_old ms part effect (λ a. absent))

      law_on_pong_replace : m.type ≡ pong_replace → Law (on_pong_replace t x now own m)
      unfolding on_pong_replace trade
      law_on_pong_replace ten =
          tested (outside t x now own z && eqb (own.spare z) y)
          (λ fits.
          if_law (λ (p : Own). Law (record { own = p; sent = [] })) (ltb (own.commit z) m.stamp) trade (hold now y own)
          (λ old.
          law_trade ten (eqb-true (own.spare z) y (and_right (outside t x now own z) (eqb (own.spare z) y) fits))
          (ltb-true (own.commit z) m.stamp old))
          (λ old. law_hold y))
          nothing

      law_on_ping_deloopy : Law (on_ping_deloopy t x now own m)
      unfolding on_ping_deloopy
      law_on_ping_deloopy =
          tested (eqb z x || not (some (size t) own.held)) (λ h. nothing)
          (tested (passes_zero t x own.held) (λ h. calm_one _ _ refl) (calm_one _ _ refl))

      law_on_pong_deloopy : Law (on_pong_deloopy t x now own m)
      unfolding on_pong_deloopy
      law_on_pong_deloopy = calm_none _

      asks_on_leave : Asks (on_leave t x now own m)
      unfolding on_leave
      asks_on_leave a = absent

      law_on_leave : is_running r y ≡ false → Law (on_leave t x now own m)
      unfolding on_leave forget
      law_on_leave off = law_released _ y off

      laws_deliver : Laws (deliver t x now own m)
      unfolding deliver
      laws_deliver =
          listed_at (λ k e. m.type ≡ k → Laws e) (record { own = own; sent = [] }) (λ k e. always nothing)
          (item (λ e. always nothing)
          (item (λ e. always law_on_ping_contact)
          (item (λ e. always law_on_pong_contact)
          (item (λ e. always law_on_ping_ask_inv)
          (item (λ e. always law_on_pong_ask_inv)
          (item (λ e. always law_on_ping_invite)
          (item (λ e. always law_on_pong_invite)
          (item (λ e. always law_on_ping_ask_repl)
          (item (λ e. always law_on_pong_ask_repl)
          (item (λ e. always (law_on_ping_replace e))
          (item (λ e. always (law_on_pong_replace e))
          (item (λ e. always law_on_ping_deloopy)
          (item (λ e. always law_on_pong_deloopy)
          (item (λ e. (asks_on_leave, λ off. law_on_leave (off m (mem 12 e) e)))
          end))))))))))))))
          m.type
          refl

-- ---- the events

-- messages are taken out, and nothing else happens
thinned : (r : Ring) (ms : List Message) → Part ms r.messages → Step r (set_messages ms r)
thinned r ms part =
    record {
      running = λ a. refl;
      clocks = λ a. omega arith;
      change = quiet (λ a z ra rz h. (h, inl refl)) (λ m a. (part m a.0, a.1));
      newly = λ a z f h. clash h f;
      leavers = λ m h is. part m h;
    }

pub unchanged : (r : Ring) → Step r r
unchanged r = thinned r r.messages (λ m h. h)

-- a node is put whose clock has not fallen
placed_requests : (r : Ring) (x : ℕ) (s : Node) → clock r x ≤ s.clock → Requests r → Requests (set_node x s r)
placed_requests r x s later q m h nine =
    put_each (λ a n. m.stamp ≤ clock r a → m.stamp ≤ n.clock) r.node x s (λ l. omega arith) (λ a d l. l) m.sender (q m h nine)

-- where all messages stay
abbrev all_stay : (r : Ring) → Part r.messages r.messages
all_stay r m h = h

-- a node says that it leaves
leaving_types : (t : Table) (x now : ℕ) (o : Own) (m : Message) → Memᴰ m (leaving t x now o).sent → m.type ≡ leave
unfolding leaving
leaving_types t x _ o m h = ap (λ (a : Message). a.type) (map_out (plain leave x) (members (size t) o.held) m h).2

leave_requests : (r : Ring) (x : ℕ) → Requests r → Requests (send_leave x r)
leave_requests r x q m h nine =
    elim (Memᴰ.append_cases r.messages h) [
      | inl o ↦ q m o nine
      | inr s ↦ absurd (let other : leave ≡ ping_replace = sym (leaving_types r.table x _ _ m s) ∙ nine in omega arith)
    ]

module _ (r : Ring) (well : WellFormed r) (q : Requests r) where
  module _ (i : ℕ) where
    abbrev m : Message
    m = message_at r i

    abbrev delivered : Effect
    delivered = deliver r.table m.receiver (clock r m.receiver + 1) (r.node m.receiver).own m

    laws_delivered : is_running r m.receiver ≡ true → Laws r m.receiver delivered
    laws_delivered on = laws_deliver r m.receiver well q m refl on (message_in r.messages i)

    left : List Message
    left = take i r.messages ++ drop (suc i) r.messages

    left_over : Part left r.messages
    unfolding left
    left_over = left_part i r.messages

    -- a delivery, whatever part of the messages stays: all of them after an echo
    module _ (ms : List Message) (part : Part ms r.messages) where
      received_step : LeaversOff r → Step r (receive m (set_messages ms r))
      unfolding act
      received_step off =
          if_law (Step r) (is_running r m.receiver) (acted r m.receiver ms delivered) (set_messages ms r)
          (λ on. acted_step r m.receiver ms part delivered ((laws_delivered on).1 off))
          (λ stopped. thinned r ms part)

      received_requests : Requests (receive m (set_messages ms r))
      unfolding act
      received_requests =
          if_law Requests (is_running r m.receiver) (acted r m.receiver ms delivered) (set_messages ms r)
          (λ on. acted_requests r m.receiver ms part delivered (laws_delivered on).0 q)
          (λ off a h. q a (part a h))

  pub event_step : LeaversOff r → (e : Event) → Harmless r e → Step r (after r e)
  unfolding after act remove_message left
  event_step off (On x) h = absurd h
  event_step off (Off x polite) h = absurd h
  event_step off (Notice x z) h = acted_step r x.0 r.messages (all_stay r) _ (law_notice r x.0 z.0 h)
  event_step off (Contact x y) h = acted_step r x.0 r.messages (all_stay r) _ (law_contact r x.0 y.0)
  event_step off (Timer x k) h = acted_step r x.0 r.messages (all_stay r) _ (law_timer r x.0 k)
  event_step off (Deliver i echo) h =
      if_law (λ (s : Ring). Step r (receive (m i) s)) echo r (remove_message i r)
      (λ e. received_step i r.messages (all_stay r) off) (λ e. received_step i (left i) (left_over i) off)
  event_step off (Lose i) h = thinned r (left i) (left_over i)

  pub event_requests : (e : Event) → Requests (after r e)
  unfolding after act remove_message left
  event_requests (On x) = placed_requests r x.0 _ (omega arith) q
  event_requests (Off x polite) =
      if_law (λ (s : Ring). Requests (set_node x.0 (stopped (r.node x.0)) s)) polite (send_leave x.0 r) r
      (λ e. placed_requests (send_leave x.0 r) x.0 _ (omega arith) (leave_requests r x.0 q))
      (λ e. placed_requests r x.0 _ (omega arith) q)
  event_requests (Notice x z) = acted_requests r x.0 r.messages (all_stay r) _ (asks_notice r x.0 z.0) q
  event_requests (Contact x y) = acted_requests r x.0 r.messages (all_stay r) _ (law_contact r x.0 y.0).asks q
  event_requests (Timer x k) = acted_requests r x.0 r.messages (all_stay r) _ (law_timer r x.0 k).asks q
  event_requests (Deliver i echo) =
      if_law (λ (s : Ring). Requests (receive (m i) s)) echo r (remove_message i r)
      (λ e. received_requests i r.messages (all_stay r)) (λ e. received_requests i (left i) (left_over i))
  event_requests (Lose i) = λ a h. q a (left_over i a h)

pub initial_requests : (t : Table) → Requests (initial t)
unfolding initial
initial_requests t m = absent
