-- Cleanup: where A = B, links outside the leafsets go. From a tidy point, in fair rounds, every running node comes to hold exactly its leafset.
-- Source 000, Eventual Cleanup: "If there is a time t after which no add() is invoked at any node in the system, then .. leafset(x, x.neighbors) =
-- x.neighbors". Here add() is a contact, and one of a node of the leafset does no harm.
use Rattle.std.specs.Prelude.{◌≡◌, ◌⊎◌, ℕ, ◌+◌, ◌*◌, ◌≤◌, ◌<◌, true, false, length}
use mathlib.Core.List.{List, Memᴰ}
use Rattle.model.specs.Key.{distance}
use Rattle.model.specs.Sets.{Set, none_node}
use Rattle.model.specs.Leafset.{Table, size, key, leafset, closest}
use Rattle.model.specs.Ring.{Ring, Message, holds, is_running}
use Rattle.model.specs.Types.{ping_contact, pong_contact, pong_ask_repl, ping_replace}
use Rattle.model.specs.ConnectivityPreserved.{Harmless, Reached, read_at}
use Rattle.model.specs.declared.event.Event.{Event}
use Rattle.model.specs.declared.event.Event.TheVariants.{On, Off, Notice, Contact, Timer, Deliver, Lose}
use Rattle.settle_leafsets.specs.Covered.{Even, Covered}
use Rattle.settle_kept.specs.Settled.{Settled, SameNodesRun, AcceptedAre}
use Rattle.settle_kept.specs.Improving.{Clean}
use Rattle.settle_rounds.specs.Rounds.{Rounds}
use Rattle.settle_rounds.specs.Windows.{Windows}

-- where the nodes of R run, a message that, if it is a contact or the answer to one, is between a node and one of its leafset
pub record Familiar (t : Table) (R : Set) (m : Message) : Type 0 where
  pub contacts : m.type ≡ ping_contact → R m.receiver ≡ true → R m.sender ≡ true → leafset t m.sender R m.receiver ≡ true
  pub answers : m.type ≡ pong_contact → R m.receiver ≡ true → leafset t m.receiver R m.sender ≡ true

-- clean and covered, and no contact in flight brings a stranger
pub record Tidy (r : Ring) : Type 0 where
  pub clean : Clean r
  pub covered : Covered r
  pub familiar : (m : Message) → Memᴰ m r.messages → Familiar r.table (is_running r) m

-- a contact names a node of the leafset, or one that is off
abbrev pub NoStranger : Ring → Event → Type 0
NoStranger r (On x) = Unit
NoStranger r (Off x polite) = Unit
NoStranger r (Notice x z) = Unit
NoStranger r (Contact x y) = is_running r y.0 ≡ true → leafset r.table x.0 (is_running r) y.0 ≡ true
NoStranger r (Timer x k) = Unit
NoStranger r (Deliver i echo) = Unit
NoStranger r (Lose i) = Unit

-- harmless, and no contact of a stranger
abbrev pub Calm : Ring → Event → Type 0
Calm r e = Harmless r e × NoStranger r e

-- x holds z, which is not in its leafset of the running nodes. Source 000: "z ∈ x.neighbors \ leafset(x, x.neighbors)"
pub record Outside (r : Ring) (x z : ℕ) : Type 0 where
  pub held : holds r x z ≡ true
  pub far : leafset r.table x (is_running r) z ≡ false

-- Whoever x holds outside at s is nearer to x than somebody whom it held outside at p: the farthest has become nearer, or nobody is left.
-- Source 000, Lemma 14, has the farthest of all nodes for its metric, "m(τ) = max{d(x, z) ..}"
abbrev pub Nearer : ℕ → Ring → Ring → Type 0
Nearer x p s =
    (w : ℕ) → Outside s x w
    → (z : ℕ) × Outside p x z × (distance (key s.table x) (key s.table w) < distance (key s.table x) (key s.table z))

-- whoever x holds outside at s is no farther from x than somebody whom it held outside at p
abbrev pub NotFarther : ℕ → Ring → Ring → Type 0
NotFarther x p s =
    (w : ℕ) → Outside s x w
    → (z : ℕ) × Outside p x z × (distance (key s.table x) (key s.table w) ≤ distance (key s.table x) (key s.table z))

-- Messages and spares agree with the leafsets of R, where the nodes of R run. Source 000, Lemma 13: "z will always provide the same y to x"
pub record Prepared (t : Table) (R : Set) (r : Ring) : Type 0 where
  -- an answer in flight (type 8) names whom its sender offers its receiver
  pub answers : (m : Message) → Memᴰ m r.messages → m.type ≡ pong_ask_repl → m.subject ≡ closest t m.sender R m.receiver
  -- x's spare for a node z outside its leafset is none, or whom z offers x
  pub spares : (x z : ℕ) → R x ≡ true → leafset t x R z ≡ false → ((r.node x).own.spare z ≡ none_node) ⊎ ((r.node x).own.spare z ≡ closest t z R x)
  -- a request in flight (type 9) goes to whom its subject offers its sender
  pub requests : (m : Message) → Memᴰ m r.messages → m.type ≡ ping_replace → m.receiver ≡ closest t m.subject R m.sender

module _ (start words : List ℕ) where
  -- the ring at a point
  abbrev at : ℕ → Ring
  at p = read_at start words p

  -- no contact of a stranger is accepted between two points
  abbrev pub NoStrangers : ℕ → ℕ → Type 0
  NoStrangers p q = AcceptedAre start words NoStranger p q

  -- Take any tidy point of a ring in which A = B, and fair rounds from it on in which no contact of a stranger is accepted.
  pub record Cleaned : Type 0 where
    -- in 8 rounds the farthest node that a running node holds outside its leafset becomes nearer, or nobody is left there
    pub cleans :
        (p q : ℕ) → Tidy (at p) → Even (at p).table
        → Rounds start words 8 p q → NoStrangers p q
        → (x : ℕ) → is_running (at p) x ≡ true
        → Nearer x (at p) (at q)
    -- after 5 rounds the ring is prepared; it is tidy, and the same nodes run
    pub prepares :
        (p q : ℕ) → Tidy (at p) → Even (at p).table
        → Rounds start words 5 p q → NoStrangers p q
        → Tidy (at q) × SameNodesRun (at p) (at q) × Prepared (at q).table (is_running (at q)) (at q)
    -- where it is prepared, 6 rounds do what 8 do elsewhere
    pub progresses :
        (p q : ℕ) → Tidy (at p) → Even (at p).table
        → Prepared (at p).table (is_running (at p)) (at p)
        → Rounds start words 6 p q → NoStrangers p q
        → (x : ℕ) → is_running (at p) x ≡ true
        → Nearer x (at p) (at q)
    -- after 5 rounds, and 6 for each node of the table, the ring is settled: each running node holds exactly its leafset
    pub settles_tidy :
        (p q : ℕ) → Tidy (at p) → Even (at p).table
        → Rounds start words (5 + 6 * size (at p).table) p q → NoStrangers p q
        → Settled (at q) × SameNodesRun (at p) (at q)
    -- a clean and covered point need not be tidy; after 2 rounds the ring is, whatever A and B
    pub tidies :
        (p q : ℕ) → Clean (at p) → Covered (at p)
        → Rounds start words 2 p q → NoStrangers p q
        → Tidy (at q) × SameNodesRun (at p) (at q)
    -- so from a clean and covered point on it is settled after 7 rounds, and 6 for each node
    pub settles :
        (p q : ℕ) → Clean (at p) → Covered (at p) → Even (at p).table
        → Rounds start words (7 + 6 * size (at p).table) p q → NoStrangers p q
        → Settled (at q) × SameNodesRun (at p) (at q)
    -- between rounds, while what is accepted is harmless and contacts no stranger, losses included, a tidy ring stays tidy
    pub tidy_kept :
        (point : ℕ) → Tidy (at point)
        → (later : ℕ) → point ≤ later → later ≤ length words
        → AcceptedAre start words Calm point later
        → Tidy (at later) × SameNodesRun (at point) (at later)
    -- and the farthest node that a running node holds outside never becomes farther
    pub never_farther :
        (point : ℕ) → Tidy (at point)
        → (later : ℕ) → point ≤ later → later ≤ length words
        → AcceptedAre start words Calm point later
        → (x : ℕ) → is_running (at point) x ≡ true
        → NotFarther x (at point) (at later)
    -- so a window of 8 fair rounds for each node of the table, wherever they lie, settles the ring
    pub settles_in_windows :
        (p q : ℕ) → Tidy (at p) → Even (at p).table
        → Windows start words 8 (size (at p).table) p q → NoStrangers p q
        → Settled (at q) × SameNodesRun (at p) (at q)

-- from every ring that was reached, and for any list of words
abbrev pub Cleanup : Type 0
Cleanup = (start : List ℕ) (r : Ring) → Reached start r → (words : List ℕ) → Cleaned start words
