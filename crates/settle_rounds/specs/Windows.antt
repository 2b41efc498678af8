-- Windows of fair rounds in a list of words, with losses between them.
use Rattle.std.specs.Prelude.{ℕ, suc, ◌≤◌, ◌<◌, List}
use Rattle.model.specs.Ring.{Ring}
use Rattle.model.specs.ConnectivityPreserved.{Harmless, Reached, read_at}
use Rattle.settle_leafsets.specs.Covered.{Covered}
use Rattle.settle_kept.specs.Settled.{Secured, RoutesEndNearest, AcceptedIs}
use Rattle.settle_rounds.specs.Rounds.{Rounds}
use Rattle.settle_rounds.specs.Progress.{total_lacking, enough, Set-out}

module _ (start words : List ℕ) where
  -- the ring at a point
  abbrev at : ℕ → Ring
  at p = read_at start words p

  -- k windows of n fair rounds each, one after the other; before each, for any while, whatever is harmless, losses included
  pub data Windows (n : ℕ) : ℕ → ℕ → ℕ → Type 0 where
    none : {p : ℕ} → Windows n 0 p p
    more :
        {k p : ℕ} (from to : ℕ) {q : ℕ} → p ≤ from → ((i : ℕ) → p ≤ i → i < from → AcceptedIs start words Harmless i)
        → Rounds start words n from to
        → Windows n k to q
        → Windows n (suc k) p q

  -- as many windows of enough rounds as nodes are lacked, and one more, leave the ring covered: what is lost between them costs nothing
  abbrev pub WindowsInclude : Type 0
  WindowsInclude =
      (m o p q : ℕ) → Set-out start words o p
      → total_lacking (at p) ≤ m
      → Windows (enough (at p).table) (suc m) p q
      → Covered (at q) × Secured (at q) × RoutesEndNearest (at q)

-- from every ring that was reached, and for any list of words
abbrev pub ThroughLosses : Type 0
ThroughLosses = (start : List ℕ) (r : Ring) → Reached start r → (words : List ℕ) → WindowsInclude start words
