-- Convergence: where A = B, from a clean point at which all running nodes are connected, fair rounds settle the ring.
-- Source 000: "the topology is eventually connected and the leafset of every node is correct".
use Rattle.std.specs.Prelude.{ℕ, suc, ◌+◌, ◌*◌, ◌≤◌, List}
use Rattle.model.specs.Leafset.{Table, size}
use Rattle.model.specs.Ring.{Ring}
use Rattle.model.specs.ConnectivityPreserved.{Reached, read_at}
use Rattle.settle_kept.specs.Settled.{Settled, SameNodesRun}
use Rattle.settle_rounds.specs.Rounds.{Rounds}
use Rattle.settle_rounds.specs.Windows.{Windows}
use Rattle.settle_rounds.specs.Progress.{total_lacking, enough, Set-out}
use Rattle.settle_cleanup.specs.Cleanup.{NoStrangers}

-- so many rounds are enough to settle a covered ring
abbrev pub to_settle : Table → ℕ
to_settle t = 7 + 6 * size t

module _ (start words : List ℕ) where
  -- the ring at a point
  abbrev at : ℕ → Ring
  at p = read_at start words p

  pub record Converging : Type 0 where
    -- where no more than m are lacked: m + 1 times enough rounds until the ring is covered, then those to settle it, in which no contact of a stranger is
    -- accepted
    pub converges :
        (m o p q : ℕ) → Set-out start words o p
        → total_lacking (at p) ≤ m
        → (rs : Rounds start words (enough (at p).table * suc m + to_settle (at p).table) p q)
        → NoStrangers start words (rs.bound (enough (at p).table * suc m)) q
        → Settled (at q) × SameNodesRun (at p) (at q)
    -- no more than n times n are ever lacked
    pub lacked : (p : ℕ) → total_lacking (at p) ≤ size (at p).table * size (at p).table

  -- And through losses: suc m windows of enough rounds until the ring is covered, one of 2 until it is tidy, one of 8 for each node until it is settled; before
  -- each window whatever is harmless, but from where it is covered on no contact of a stranger.
  abbrev pub WindowsConverge : Type 0
  WindowsConverge =
      (m o p covered tidy q : ℕ) → Set-out start words o p
      → total_lacking (at p) ≤ m
      → Windows start words (enough (at p).table) (suc m) p covered
      → Windows start words 2 1 covered tidy
      → Windows start words 8 (size (at p).table) tidy q
      → NoStrangers start words covered q
      → Settled (at q) × SameNodesRun (at p) (at q)

-- from every ring that was reached, and for any list of words
abbrev pub Convergence : Type 0
Convergence = (start : List ℕ) (r : Ring) → Reached start r → (words : List ℕ) → Converging start words

abbrev pub ConvergenceThroughLosses : Type 0
ConvergenceThroughLosses = (start : List ℕ) (r : Ring) → Reached start r → (words : List ℕ) → WindowsConverge start words
