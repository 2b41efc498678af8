-- Progress: where A = B, fair rounds bring every running node the leafset of all running nodes, or one that was lacked.
-- Source 000, Corollary 20: "if .. G(t) is weakly connected, then for all time t' > t2, .. leafset(x, sset(Π)) = leafset(x, x.neighbors)".
use Rattle.std.specs.Prelude.{◌≡◌, ◌⊎◌, ℕ, zero, suc, ◌+◌, ◌*◌, ◌≤◌, ◌<◌, true, List, if◌then◌else◌}
use Rattle.model.specs.Leafset.{Table, size}
use Rattle.model.specs.Ring.{Ring, is_running}
use Rattle.model.specs.Connection.{Connected}
use Rattle.model.specs.ConnectivityPreserved.{NoAcknowledgement, LeaversOff, Harmless, Reached, read_at}
use Rattle.settle_leafsets.specs.Covered.{Even, Covered, lacking}
use Rattle.settle_leafsets.specs.Quiescent.{Quiescent}
use Rattle.settle_kept.specs.Settled.{Secured, RoutesEndNearest, AcceptedAre}
use Rattle.settle_kept.specs.Improving.{Clean}
use Rattle.settle_rounds.specs.Rounds.{Rounds, CleanCandidates}

-- f 0 + .. + f (n - 1)
unfoldable pub sum_to : ℕ → (ℕ → ℕ) → ℕ
sum_to zero f = 0
sum_to (suc n) f = sum_to n f + f n

-- how many nodes the running nodes lack, all together
unfoldable pub total_lacking : Ring → ℕ
total_lacking r = sum_to (size r.table) (λ x. if is_running r x then lacking r x else 0)

-- so many rounds are enough to rid the candidates of nodes that are off
abbrev pub to_purge : Table → ℕ
to_purge t = size t + 1

-- so many to come to rest, if no leafset changes
abbrev pub to_rest : Table → ℕ
to_rest t = size t * 6 + 4

-- and so many for a step, which is both
abbrev pub enough : Table → ℕ
enough t = to_purge t + to_rest t

module _ (start words : List ℕ) where
  -- the ring at a point
  abbrev at : ℕ → Ring
  at p = read_at start words p

  -- A clean point p at which all running nodes are connected, and before it, or there, a point o from which on connection is kept (demand 3).
  -- Source 000 has for both one time, after which "all messages sent before .. have been delivered .. or are lost".
  pub record Set-out (o p : ℕ) : Type 0 where
    pub before : o ≤ p
    pub none : NoAcknowledgement (at o)
    pub off : LeaversOff (at o)
    pub harmless : AcceptedAre start words Harmless o p
    pub even : Even (at p).table
    pub clean : Clean (at p)
    pub connected : (a b : ℕ) → is_running (at p) a ≡ true → is_running (at p) b ≡ true → Connected (at p) a b

  pub record Progressing : Type 0 where
    -- from a clean point on candidates become clean
    pub purges : (p q : ℕ) → Clean (at p) → Rounds start words (to_purge (at p).table) p q → CleanCandidates (at q)
    -- rounds in which no lacked node is held leave the ring quiescent, from the fifth on
    pub quiesces :
        (p q : ℕ) → Even (at p).table → Clean (at p) → CleanCandidates (at p)
        → (rs : Rounds start words (to_rest (at p).table) p q)
        → total_lacking (at p) ≤ total_lacking (at q)
        → Quiescent (at (rs.bound 4))
    -- so enough rounds leave the ring covered, or fewer are lacked than before
    pub progress :
        (o p q : ℕ) → Set-out o p
        → Rounds start words (enough (at p).table) p q
        → Covered (at q) ⊎ (total_lacking (at q) < total_lacking (at p))
    -- where no more than m are lacked, m + 1 times as many leave it covered
    pub includes :
        (m o p q : ℕ) → Set-out o p
        → total_lacking (at p) ≤ m
        → Rounds start words (enough (at p).table * suc m) p q
        → Covered (at q)
    -- no more than n times n are ever lacked, so n gives a number of rounds; the ring stays covered (`secured-kept`), and all routes end at the nearest node
    pub included :
        (o p q : ℕ) → Set-out o p
        → Rounds start words (enough (at p).table * suc (size (at p).table * size (at p).table)) p q
        → Covered (at q) × Secured (at q) × RoutesEndNearest (at q)

-- from every ring that was reached, and for any list of words
abbrev pub Progress : Type 0
Progress = (start : List ℕ) (r : Ring) → Reached start r → (words : List ℕ) → Progressing start words
