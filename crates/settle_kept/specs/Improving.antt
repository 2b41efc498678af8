-- Leafsets never get worse: from a clean point on, whoever of the nodes held so far would be in a node's leafset now is in it.
-- Source 000, Lemma 9: "variables x.R+ and x.R− either remain the same or decrease".
use Rattle.std.specs.Prelude.{◌≡◌, ℕ, ◌≤◌, true, false, length}
use mathlib.Core.List.{List, Memᴰ}
use Rattle.model.specs.Key.{clockwise, counter_clockwise}
use Rattle.model.specs.Ring.{Ring, Message, holds, is_running}
use Rattle.model.specs.Types.{leave}
use Rattle.model.specs.ConnectivityPreserved.{Harmless, Reached, read_at}
use Rattle.settle_leafsets.specs.Covered.{HoldsRunning, lacking, Improves, NoFarther}
use Rattle.settle_kept.specs.Settled.{takes_in, AcceptedAre}

-- No running node holds one that is off, and no message in flight will make it hold one, or release one that runs.
-- Source 000, Lemma 8: "all the messages sent from nodes that are not in sset(Π) have been delivered", "our algorithm will not add any offline nodes"
pub record Clean (r : Ring) : Type 0 where
  pub holds_running : HoldsRunning r
  pub senders_run :
      (m : Message) → Memᴰ m r.messages → takes_in m.type ≡ true → is_running r m.receiver ≡ true → is_running r m.sender ≡ true
  pub leavers_off : (m : Message) → Memᴰ m r.messages → m.type ≡ leave → is_running r m.receiver ≡ true → is_running r m.sender ≡ false

module _ (start words : List ℕ) where
  -- the ring at a point
  abbrev at : ℕ → Ring
  at p = read_at start words p

  -- Take any point that is clean, and two points from it on, an earlier and a later one. Suppose that what is accepted after the point is harmless (demand 3).
  pub record Improved : Type 0 where
    -- the later point is clean
    pub clean_kept :
        (point : ℕ) → Clean (at point)
        → (later : ℕ) → point ≤ later → later ≤ length words
        → AcceptedAre start words Harmless point later
        → Clean (at later)
    -- every running node's leafset has improved, or is as it was; the nearest node that it holds on either way has not become farther
    pub leafsets_improve :
        (point : ℕ) → Clean (at point)
        → (earlier later : ℕ) → point ≤ earlier → earlier ≤ later → later ≤ length words
        → AcceptedAre start words Harmless point later
        → (x : ℕ) → is_running (at earlier) x ≡ true
        → Improves (at earlier).table x (holds (at earlier) x) (holds (at later) x)
        × NoFarther (at earlier).table x clockwise (holds (at earlier) x) (holds (at later) x)
        × NoFarther (at earlier).table x counter_clockwise (holds (at earlier) x) (holds (at later) x)
    -- no running node lacks more nodes than before; where none lacks any, the ring is covered (`lacking-decides`)
    pub lacking_falls :
        (point : ℕ) → Clean (at point)
        → (earlier later : ℕ) → point ≤ earlier → earlier ≤ later → later ≤ length words
        → AcceptedAre start words Harmless point later
        → (x : ℕ) → is_running (at earlier) x ≡ true
        → lacking (at later) x ≤ lacking (at earlier) x

-- from every ring that was reached, and for any list of words
abbrev pub Improvement : Type 0
Improvement = (start : List ℕ) (r : Ring) → Reached start r → (words : List ℕ) → Improved start words
