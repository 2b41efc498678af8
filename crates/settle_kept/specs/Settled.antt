-- Where leafsets stay as they are: the closure half of self-stabilisation, over whole lists of words as demand 3 is.
-- Covered: every running node holds at least its leafset of all running nodes, and what else it holds lies outside.
-- Converged (the model's Route): it holds exactly its leafset.
use Rattle.std.specs.Prelude.{◌≡◌, ℕ, ◌-◌, ◌≤◌, ◌<◌, Bool, true, false, ◌||◌, length, get_or, eqb}
use mathlib.Core.List.{List, Memᴰ}
use Rattle.model.specs.Sets.{Set, with}
use Rattle.model.specs.Leafset.{Table, leafset, nearest}
use Rattle.model.specs.Ring.{Ring, Message, holds, is_running}
use Rattle.model.specs.Types.{ping_contact, pong_contact, pong_invite, pong_replace, leave}
use Rattle.model.specs.Events.{event_of}
use Rattle.model.specs.Route.{route, Converged}
use Rattle.model.specs.ConnectivityPreserved.{Reached, read_at, answer_at}
use Rattle.model.specs.declared.event.Event.{Event}
use Rattle.model.specs.declared.event.Event.TheVariants.{On, Off, Notice, Contact, Timer, Deliver, Lose}
use Rattle.settle_leafsets.specs.Covered.{Covered}

-- ---- secured

-- On whose delivery the receiver may hold the sender: types 2, 6 and 10.
-- Source 000, Lemma 8: "only if x receives any of the PONG-CONTACT, PONG-INVITE, or PONG-REPLACE messages from y directly"
abbrev pub takes_in : ℕ → Bool
takes_in type = eqb type pong_contact || eqb type pong_invite || eqb type pong_replace

-- where the nodes of R run, a message to a running node x from y: it brings no node that is off into x's leafset, and takes no running one out of it
pub record Truthful (t : Table) (R : Set) (m : Message) : Type 0 where
  -- y runs, or would lie outside x's leafset
  pub brings : takes_in m.type ≡ true → R m.receiver ≡ true → leafset t m.receiver (with R m.sender) m.sender ≡ true → R m.sender ≡ true
  -- y says that it leaves: it is not in x's leafset, as no node is that is off
  pub leaves : m.type ≡ leave → R m.receiver ≡ true → leafset t m.receiver R m.sender ≡ false

-- covered, and no message in flight misleads
pub record Secured (r : Ring) : Type 0 where
  pub covered : Covered r
  pub truthful : (m : Message) → Memᴰ m r.messages → Truthful r.table (is_running r) m

-- nobody goes on or off; a notice names a node outside the leafset, such as any that is off
abbrev pub KeepsLeafsets : Ring → Event → Type 0
KeepsLeafsets r (On x) = ⊥
KeepsLeafsets r (Off x polite) = ⊥
KeepsLeafsets r (Notice x z) = leafset r.table x.0 (is_running r) z.0 ≡ false
KeepsLeafsets r (Contact x y) = Unit
KeepsLeafsets r (Timer x k) = Unit
KeepsLeafsets r (Deliver i echo) = Unit
KeepsLeafsets r (Lose i) = Unit

-- ---- settled

-- where the nodes of R run and H says who holds whom, a message to a running node x from y: neither it nor an answer to it changes who is held
pub record Still (t : Table) (R : Set) (H : ℕ → Set) (m : Message) : Type 0 where
  -- a contact of x by y, both running, which x will answer: y holds x already
  pub contacts : m.type ≡ ping_contact → R m.receiver ≡ true → R m.sender ≡ true → H m.sender m.receiver ≡ true
  -- the answer to a contact: x holds y already
  pub answers : m.type ≡ pong_contact → R m.receiver ≡ true → H m.receiver m.sender ≡ true
  -- the answer to an invitation: if y fits, x holds y already
  pub accepts :
      m.type ≡ pong_invite → R m.receiver ≡ true → leafset t m.receiver (with (H m.receiver) m.sender) m.sender ≡ true
      → H m.receiver m.sender ≡ true
  -- y says that it leaves: x does not hold it
  pub leaves : m.type ≡ leave → R m.receiver ≡ true → H m.receiver m.sender ≡ false

-- Converged, and no message in flight changes who is held.
-- Source 000, "steady state": each node "has already included the correct leafset entries .. and nothing more"
pub record Settled (r : Ring) : Type 0 where
  pub converged : Converged r
  pub still : (m : Message) → Memᴰ m r.messages → Still r.table (is_running r) (holds r) m

-- nobody goes on or off; a notice names a node that is not held, such as any that is off; a contact one that is held or off
abbrev pub KeepsHeld : Ring → Event → Type 0
KeepsHeld r (On x) = ⊥
KeepsHeld r (Off x polite) = ⊥
KeepsHeld r (Notice x z) = holds r x.0 z.0 ≡ false
KeepsHeld r (Contact x y) = is_running r y.0 ≡ true → holds r x.0 y.0 ≡ true
KeepsHeld r (Timer x k) = Unit
KeepsHeld r (Deliver i echo) = Unit
KeepsHeld r (Lose i) = Unit

-- ---- routes

-- every route from every running node to every key ends at the running node nearest to the key
pub record RoutesEndNearest (r : Ring) : Type 0 where
  pub ends_nearest :
      (key : ℕ) → key < 16777216 → (x : ℕ) → is_running r x ≡ true
      → get_or (route r key x) (length (route r key x) - 1) 64 ≡ nearest r.table key (is_running r)

-- ---- lists of words, played on the lent words `start`

-- the same nodes run in s as in r
abbrev pub SameNodesRun : Ring → Ring → Type 0
SameNodesRun r s = (x : ℕ) → is_running s x ≡ is_running r x

module _ (start words : List ℕ) where
  -- the ring at a point
  abbrev at : ℕ → Ring
  at p = read_at start words p

  -- word i, if it is accepted, is the word of an event that C allows on the ring of its point
  abbrev pub AcceptedIs : (Ring → Event → Type 0) → ℕ → Type 0
  AcceptedIs C i = answer_at start words i ≡ 0 → C (at i) (event_of (get_or words i 0))

  -- so is every word from point p up to point q
  abbrev pub AcceptedAre : (Ring → Event → Type 0) → ℕ → ℕ → Type 0
  AcceptedAre C p q = (k : ℕ) → p ≤ k → k < q → AcceptedIs C k

  pub record Closed : Type 0 where
    -- Take any point that is secured. Suppose that after it no on and no off is accepted, and that each notice accepted after it names a node outside the
    -- leafset. Then every later point of the list is secured: the same nodes run, each holds its leafset of them, and routes end at the nearest.
    pub secured_kept :
        (point : ℕ) → Secured (at point)
        → (later : ℕ) → point ≤ later → later ≤ length words
        → AcceptedAre KeepsLeafsets point later
        → Secured (at later) × SameNodesRun (at point) (at later) × RoutesEndNearest (at later)
    -- Take any point that is settled. Suppose the same of ons and offs, that each notice names a node that is not held, and each contact one that is held or
    -- off. Then every later point is settled: the same nodes run, and each holds whom it held.
    pub settled_kept :
        (point : ℕ) → Settled (at point)
        → (later : ℕ) → point ≤ later → later ≤ length words
        → AcceptedAre KeepsHeld point later
        → Settled (at later)
        × SameNodesRun (at point) (at later)
        × ((x z : ℕ) → holds (at later) x z ≡ holds (at point) x z)
        × RoutesEndNearest (at later)

-- from every ring that was reached, and for any list of words
abbrev pub Closure : Type 0
Closure = (start : List ℕ) (r : Ring) → Reached start r → (words : List ℕ) → Closed start words
