-- Getting clean: a fair round delivers what nodes that are off have sent, and then notices rid the running nodes of those that they hold. Source 000, Lemma 8:
-- "all the messages sent from nodes that are not in sset(Π) have been delivered".
use Rattle.std.specs.Prelude.{◌≡◌, ℕ, ◌≤◌, ◌<◌, true, false, List, length}
use Rattle.model.specs.Ring.{Ring, holds, is_running}
use Rattle.model.specs.Connection.{Connected}
use Rattle.model.specs.ConnectivityPreserved.{NoAcknowledgement, LeaversOff, Harmless, Reached, read_at}
use Rattle.settle_leafsets.specs.Covered.{Even}
use Rattle.settle_kept.specs.Settled.{AcceptedAre}
use Rattle.settle_kept.specs.Improving.{Clean}
use Rattle.settle_rounds.specs.Rounds.{Does, Round}
use Rattle.settle_rounds.specs.Progress.{Set-out}
use Rattle.model.specs.declared.values.NodeNumber.{NodeNumber}
use Rattle.model.specs.declared.event.Event.TheVariants.{Notice}

module _ (start words : List ℕ) where
  -- the ring at a point
  abbrev at : ℕ → Ring
  at p = read_at start words p

  -- from point q to point s what is accepted is harmless, losses included, and of each node that is off each running node that holds it at q gets a notice
  pub record Noticed (q s : ℕ) : Type 0 where
    pub ordered : q ≤ s
    pub within : s ≤ length words
    pub harmless : AcceptedAre start words Harmless q s
    pub told :
        (x z : NodeNumber) → is_running (at q) x.0 ≡ true → is_running (at q) z.0 ≡ false
        → holds (at q) x.0 z.0 ≡ true
        → (k : ℕ) × (q ≤ k) × (k < s) × Does start words k (Notice x z)

  pub record GetsClean : Type 0 where
    -- a fair round from any point, and these notices, leave the ring clean
    pub gets_clean : (p q s : ℕ) → Round start words p q → Noticed q s → Clean (at s)
    -- so where A = B, from a point at which all running nodes are connected, and from which on demand 3 keeps them so, they leave it where `convergence` begins
    pub sets_out :
        (p q s : ℕ) → NoAcknowledgement (at p) → LeaversOff (at p) → Even (at p).table
        → ((a b : ℕ) → is_running (at p) a ≡ true → is_running (at p) b ≡ true → Connected (at p) a b)
        → Round start words p q → Noticed q s
        → Set-out start words p s

-- from every ring that was reached, and for any list of words
abbrev pub GettingClean : Type 0
GettingClean = (start : List ℕ) (r : Ring) → Reached start r → (words : List ℕ) → GetsClean start words
