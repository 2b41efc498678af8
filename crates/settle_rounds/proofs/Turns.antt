-- A word as a turn from one ring to the next: what an event that loses nothing leaves of messages and records. Rounds as points and turns between them.
use mathlib.Core.Path.{◌≡◌, refl, sym, ap, ◌∙◌, subst}
use mathlib.Core.Logic.{◌⊎◌, inl, inr}
use Prim.Native.Nat.{ℕ, zero, suc, ◌≤◌, ◌<◌}
use mathlib.Core.Bool.{true, false}
use mathlib.Core.List.Memᴰ
use mathlib.Core.List.{List, [], ◌∷◌, ◌++◌, Memᴰ}
use lib.ListN.{get_or, take, drop}
use Rattle.model.specs.Leafset.{Table}
use Rattle.model.specs.Ring.{Ring, Own, Node, Message, blank, is_running, message_at}
use Rattle.model.specs.WellFormed.{WellFormed}
use Rattle.model.specs.Types.{ping_contact}
use Rattle.model.specs.Steps.{plain, step_by_type, deliver}
use Rattle.model.specs.Events.{is_timer}
use Rattle.model.specs.Play.{set_messages, remove_message, act, receive, after}
use Rattle.model.specs.declared.values.NodeNumber.{NodeNumber}
use Rattle.model.specs.declared.event.Event.{Event}
use Rattle.model.specs.declared.event.Event.TheVariants.{On, Off, Notice, Contact, Timer, Deliver, Lose}
use Rattle.model.proofs.Laws.{clash, if_law, put_here}
use Rattle.model.proofs.Handlers.{absent}
use Rattle.settle_kept.proofs.Keeping.{Delivers, ticked, actor, acted, delivered}
use Rattle.settle_rounds.specs.Rounds.{Lossless}

-- ---- lists of messages

-- a message is left when the one at i is taken out, or is that one
pub left_or : (l : List Message) (i : ℕ) (m : Message) → Memᴰ m l → Memᴰ m (take i l ++ drop (suc i) l) ⊎ (get_or l i blank ≡ m)
left_or [] i m h = absent h
left_or (a ∷ l) zero m h = elim (Memᴰ.cases_cons h) [ inl e ↦ inr (sym e) | inr t ↦ inl t ]
left_or (a ∷ l) (suc i) m h = go (Memᴰ.cases_cons h) (left_or l i m)
  where
    go : (m ≡ a) ⊎ Memᴰ m l → (Memᴰ m l → Memᴰ m (take i l ++ drop (suc i) l) ⊎ (get_or l i blank ≡ m))
        → Memᴰ m (a ∷ (take i l ++ drop (suc i) l)) ⊎ (get_or l i blank ≡ m)
    go (inl e) f = inl (Memᴰ.head e)
    go (inr t) f = elim (f t) [ inl k ↦ inl (Memᴰ.tail k) | inr e ↦ inr e ]

-- ---- the handlers and the events

-- the handler of a known type
pub deliver_at : (t : Table) (x now : ℕ) (o : Own) (m : Message) (k : ℕ) → m.type ≡ k
    → deliver t x now o m ≡ get_or (record { own = o; sent = [] } ∷ step_by_type t x now o m) k (record { own = o; sent = [] })
unfolding deliver
deliver_at t x now o m k e = ap (λ (j : ℕ). get_or (record { own = o; sent = [] } ∷ step_by_type t x now o m) j (record { own = o; sent = [] })) e

module _ (r : Ring) where
  left : ℕ → List Message
  left i = take i r.messages ++ drop (suc i) r.messages

  -- a message that stays at a delivery is in flight after it
  received_stays : (i : ℕ) (ms : List Message) (m : Message) → Memᴰ m ms → Memᴰ m (receive (message_at r i) (set_messages ms r)).messages
  unfolding act
  received_stays i ms m h =
      if_law (λ (s : Ring). Memᴰ m s.messages) (is_running r (message_at r i).receiver)
      (acted r (message_at r i).receiver ms (delivered r i)) (set_messages ms r)
      (λ on. Memᴰ.append_left _ h) (λ off. h)

  -- a message stays, or is delivered for good
  pub flies_on : (m : Message) → Memᴰ m r.messages → (e : Event) → Lossless r e
      → Memᴰ m (after r e).messages ⊎ ((i : ℕ) × (e ≡ Deliver i false) × (message_at r i ≡ m))
  unfolding after act remove_message left
  flies_on m h (On x) n = absurd n.0
  flies_on m h (Off x polite) n = absurd n.0
  flies_on m h (Notice x z) n = inl (Memᴰ.append_left _ h)
  flies_on m h (Contact x y) n = inl (Memᴰ.append_left _ h)
  flies_on m h (Timer x k) n = inl (Memᴰ.append_left _ h)
  flies_on m h (Deliver i true) n = inl (received_stays i r.messages m h)
  flies_on m h (Deliver i false) n = elim (left_or r.messages i m h) [ inl q ↦ inl (received_stays i (left i) m q) | inr e ↦ inr (i, refl, e) ]
  flies_on m h (Lose i) n = clash refl n.1

  -- what a timer and a delivery to a running node leave
  pub timer_own : (x : NodeNumber) (k : ℕ) → ((after r (Timer x k)).node x.0).own ≡ (ticked r x.0 k).own
  unfolding after act
  timer_own x k = ap (λ (n : Node). n.own) (put_here r.node x.0 (actor r x.0 (ticked r x.0 k)))

  pub timer_sends : (x : NodeNumber) (k : ℕ) (m : Message) → Memᴰ m (ticked r x.0 k).sent → Memᴰ m (after r (Timer x k)).messages
  unfolding after act
  timer_sends x k m h = Memᴰ.append_right r.messages h

  module _ (i : ℕ) (on : is_running r (message_at r i).receiver ≡ true) where
    delivered_is : after r (Deliver i false) ≡ acted r (message_at r i).receiver (left i) (delivered r i)
    unfolding after act remove_message left
    delivered_is = rw on refl

    pub deliver_own : ((after r (Deliver i false)).node (message_at r i).receiver).own ≡ (delivered r i).own
    deliver_own =
        ap (λ (s : Ring). (s.node (message_at r i).receiver).own) delivered_is
        ∙ ap (λ (n : Node). n.own) (put_here r.node (message_at r i).receiver (actor r (message_at r i).receiver (delivered r i)))

    pub deliver_sends : (m : Message) → Memᴰ m (delivered r i).sent → Memᴰ m (after r (Deliver i false)).messages
    deliver_sends m h = subst (λ (s : Ring). Memᴰ m s.messages) (sym delivered_is) (Memᴰ.append_right (left i) h)

-- ---- a word

-- a timer fires at a node that runs
abbrev pub Runs : Ring → Event → Type 0
Runs r (On x) = Unit
Runs r (Off x polite) = Unit
Runs r (Notice x z) = Unit
Runs r (Contact x y) = Unit
Runs r (Timer x k) = is_running r x.0 ≡ true
Runs r (Deliver i echo) = Unit
Runs r (Lose i) = Unit

-- the ring stays, or an event that is harmless and loses nothing is done
pub data Turn (r s : Ring) : Type 0 where
  stands : s ≡ r → Turn r s
  turns : (e : Event) → Lossless r e → Runs r e → s ≡ after r e → Turn r s

-- every message that an event sends passes F
pub record Sends (F : Message → Type 0) (r : Ring) (e : Event) : Type 0 where
  pub on_contact : (x y : NodeNumber) → e ≡ Contact x y → F (plain ping_contact x.0 y.0)
  pub on_timer : (x : NodeNumber) (k : ℕ) → e ≡ Timer x k → (m : Message) → Memᴰ m (ticked r x.0 k).sent → F m
  pub on_deliver :
      (i : ℕ) → Delivers e i → is_running r (message_at r i).receiver ≡ true → (m : Message) → Memᴰ m (delivered r i).sent → F m

-- ---- points in rounds

-- of the rings at the points: the turn from point i on delivers m for good
abbrev pub Delivered : (ℕ → Ring) → Message → ℕ → Type 0
Delivered at m i = (n : ℕ) × (message_at (at i) n ≡ m) × (at (suc i) ≡ after (at i) (Deliver n false))

-- m is delivered between the points a and c
abbrev pub Arrival : (ℕ → Ring) → Message → ℕ → ℕ → Type 0
Arrival at m a c = (i : ℕ) × (a ≤ i) × (i < c) × Delivered at m i

abbrev pub node_of : ℕ → NodeNumber
node_of x = record { 0 = x }

-- K rounds, from each of the points b 0, .., b K to the next
pub record Fair (at : ℕ → Ring) (b : ℕ → ℕ) (K : ℕ) : Type 1 where
  pub well : (i : ℕ) → WellFormed (at i)
  pub order : (j : ℕ) → j < K → b j ≤ b (suc j)
  pub turn : (i : ℕ) → b 0 ≤ i → i < b K → Turn (at i) (at (suc i))
  pub fires :
      (j : ℕ) → j < K → (x : ℕ) → is_running (at (b j)) x ≡ true → (k : ℕ) → is_timer k ≡ true
      → (i : ℕ) × (b j ≤ i) × (i < b (suc j)) × (at (suc i) ≡ after (at i) (Timer (node_of x) k))
  pub arrives : (j : ℕ) → j < K → (m : Message) → Memᴰ m (at (b j)).messages → Arrival at m (b j) (b (suc j))
  pub renewed :
      (j : ℕ) → j < K → (F : Message → Type 0)
      → ((i : ℕ) → b j ≤ i → i < b (suc j) → (e : Event) → Lossless (at i) e → Runs (at i) e → Sends F (at i) e)
      → (m : Message) → Memᴰ m (at (b (suc j))).messages → F m
