-- Fair rounds: stretches of a list of words in which every timer fires, every message in flight is delivered, and none is lost.
-- Source 000 says of periodic events "Repeat periodically", and of a message m sent after a certain time that "m is eventually received".
-- That channels "cannot create or duplicate messages" is not supposed: a round may have echoes.
use Rattle.std.specs.Prelude.{◌≡◌, ℕ, zero, suc, ◌+◌, ◌-◌, ◌≤◌, ◌<◌, Bool, true, false, ◌||◌, length, get_or, eqb, ltb, if◌then◌else◌}
use mathlib.Core.List.{List, Memᴰ}
use Rattle.model.specs.Ring.{Ring, Message, is_running}
use Rattle.model.specs.Answers.{is_accepted}
use Rattle.model.specs.Events.{event_of, is_timer}
use Rattle.model.specs.Types.{ping_ask_inv, pong_ask_inv, ping_deloopy, pong_deloopy}
use Rattle.model.specs.ConnectivityPreserved.{Harmless, read_at, answer_at}
use Rattle.model.specs.declared.values.NodeNumber.{NodeNumber}
use Rattle.model.specs.declared.event.Event.{Event}
use Rattle.model.specs.declared.event.Event.TheVariants.{On, Off, Notice, Contact, Timer, Deliver, Lose}
use Rattle.settle_kept.specs.Settled.{AcceptedAre}

-- ---- what becomes of a message

-- in flight, at a position; or gone: taken out, by delivery or by loss
pub data Fate : Type 0 where
  flying : ℕ → Fate
  gone : Fate

-- the position of the message at i when the one at j, another, is taken out
abbrev pub moved_up : ℕ → ℕ → ℕ
moved_up j i = if ltb j i then i - 1 else i

-- of the message at i, when the one at j is taken out
abbrev pub taken_out : ℕ → ℕ → Fate
taken_out j i = if eqb i j then gone else flying (moved_up j i)

-- Of the message at position i, at an accepted event. An echo leaves its message in flight: if it counted as a delivery, old offers could stay so for ever.
abbrev pub fate : Event → ℕ → Fate
fate (On x) i = flying i
fate (Off x polite) i = flying i
fate (Notice x z) i = flying i
fate (Contact x y) i = flying i
fate (Timer x k) i = flying i
fate (Deliver j echo) i = if echo then flying i else taken_out j i
fate (Lose j) i = taken_out j i

-- of whatever is still in flight
abbrev pub onward : Event → Fate → Fate
onward e (flying i) = fate e i
onward e gone = gone

-- whether a message is lost
abbrev pub is_loss : Event → Bool
is_loss (On x) = false
is_loss (Off x polite) = false
is_loss (Notice x z) = false
is_loss (Contact x y) = false
is_loss (Timer x k) = false
is_loss (Deliver j echo) = false
is_loss (Lose j) = true

-- harmless as in demand 3, and no loss
abbrev pub Lossless : Ring → Event → Type 0
Lossless r e = Harmless r e × (is_loss e ≡ false)

module _ (start words : List ℕ) where
  -- the ring at a point
  abbrev at : ℕ → Ring
  at p = read_at start words p

  -- the event of word k
  abbrev pub event_at : ℕ → Event
  event_at k = event_of (get_or words k 0)

  -- word k is accepted, and is the word of this event
  abbrev pub Does : ℕ → Event → Type 0
  Does k e = (answer_at start words k ≡ 0) × (event_at k ≡ e)

  -- what has become of the message at position i of point p, d words later
  unfoldable pub fate_after : ℕ → ℕ → ℕ → Fate
  fate_after p i zero = flying i
  fate_after p i (suc d) = if is_accepted (answer_at start words (p + d)) then onward (event_at (p + d)) (fate_after p i d) else fate_after p i d

  -- ---- rounds

  -- A fair round from point p to point q: whatever is accepted is harmless (demand 3) and loses no message, each timer of each running node is accepted at
  -- least once, and every message in flight at p is gone at q. It is then delivered, since none is lost.
  pub record Round (p q : ℕ) : Type 0 where
    pub ordered : p ≤ q
    pub within : q ≤ length words
    pub lossless : AcceptedAre start words Lossless p q
    pub fires :
        (x : NodeNumber) → is_running (at p) x.0 ≡ true → (j : ℕ) → is_timer j ≡ true
        → (k : ℕ) × (p ≤ k) × (k < q) × Does k (Timer x j)
    pub delivers : (i : ℕ) → i < length (at p).messages → fate_after p i (q - p) ≡ gone

  -- k rounds, one after the other: round i goes from bound i to bound (i + 1)
  pub record Rounds (k p q : ℕ) : Type 0 where
    pub bound : ℕ → ℕ
    pub first : bound 0 ≡ p
    pub last : bound k ≡ q
    pub rounds : (i : ℕ) → i < k → Round (bound i) (bound (suc i))

-- ---- candidates that run

-- The candidates of running nodes run, and no message in flight makes another one a candidate: neither views (type 4), nor senders of types 3 and 12, nor
-- subjects of type 11.
pub record CleanCandidates (r : Ring) : Type 0 where
  pub candidates_run : (x : ℕ) → is_running r x ≡ true → (z : ℕ) → (r.node x).own.candidates z ≡ true → is_running r z ≡ true
  pub views_run : (m : Message) → Memᴰ m r.messages → m.type ≡ pong_ask_inv → (z : ℕ) → m.view z ≡ true → is_running r z ≡ true
  pub askers_run : (m : Message) → Memᴰ m r.messages → (eqb m.type ping_ask_inv || eqb m.type pong_deloopy) ≡ true → is_running r m.sender ≡ true
  pub subjects_run : (m : Message) → Memᴰ m r.messages → m.type ≡ ping_deloopy → is_running r m.subject ≡ true
