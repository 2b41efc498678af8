-- Convergence: the first rounds, or windows, include (Progress), the others clean up (Cleanup).
use mathlib.Core.Path.{◌≡◌, sym, ◌∙◌, subst}
use Prim.Native.Nat.{ℕ, suc, ◌*◌, ◌<◌}
use native.Mathlib.Nat.{mul-suc}
use native.Mathlib.Omega.{arith}
use mathlib.Core.List.{List}
use Rattle.model.specs.Leafset.{Table, size}
use Rattle.model.specs.Ring.{Ring}
use Rattle.model.specs.ConnectivityPreserved.{Reached, read_at}
use Rattle.settle_rounds.specs.Rounds.{Rounds}
use Rattle.settle_rounds.specs.Windows.{Windows, none, more}
use Rattle.settle_rounds.specs.Progress.{enough}
use Rattle.settle_leafsets.specs.Covered.{Covered, Even}
use Rattle.settle_kept.specs.Improving.{Clean}
use Rattle.settle_cleanup.specs.Cleanup.{Tidy, NoStrangers}
use Rattle.settle_cleanup.specs.Convergence.{to_settle, Converging, Convergence, ConvergenceThroughLosses}
use Rattle.settle_rounds.proofs.Windows.{first_rounds, other_rounds, span, since_windows}
use Rattle.settle_rounds.proofs.Progress.{total_low, progress, windows_include}
use Rattle.settle_rounds.proofs.Harmlessly as harmlessly
use Rattle.settle_cleanup.proofs.Cleanup.{cleanup}

module _ (start : List ℕ) (r : Ring) (reached : Reached start r) (words : List ℕ) where
  abbrev at : ℕ → Ring
  at i = read_at start words i

  converging : Converging start words
  converging =
      record {
        converges = λ m o p q out few rs strangers.
            let t : Table = (at p).table in
            let E : ℕ = enough t * suc m in
            let mid : ℕ = rs.bound E in
            let here = first_rounds start words E (to_settle t) p q rs in
            let some : 0 < E = omega (arith, mul-suc (enough t) m) in
            let on = harmlessly.goes_on_lem start r reached words E p mid some here in
            let end = harmlessly.ends_in start r reached words E p mid some here in
            let s = harmlessly.since start r reached words p mid on end (harmlessly.rounds_harmless start r reached words E p mid some here) out.clean in
            let d = (cleanup start r reached words).settles mid q s.still_clean ((progress start r reached words).includes m o p mid out few here)
            (subst Even (sym s.table) out.even)
            (subst (λ (u : Table). Rounds start words (to_settle u) mid q) (sym s.table) (other_rounds start words E (to_settle t) p q rs))
            strangers in
            (d.0, λ x. d.1 x ∙ s.running x);
        lacked = λ p. total_low (at p);
      }

  -- a window of two rounds
  tidies : (p q : ℕ) → Clean (at p) → Covered (at p) → Windows start words 2 1 p q → NoStrangers start words p q → Tidy (at q)
  tidies p q clean covered (more from to gap harmless rs none) strangers =
      let inside = harmlessly.starts_in start r reached words 2 from to (omega arith) rs in
      ((cleanup start r reached words).tidies from to
      (harmlessly.since start r reached words p from gap inside harmless clean).still_clean
      (harmlessly.covered_stays start r reached words p from gap inside harmless clean covered)
      rs (λ i f l. strangers i (omega arith) l)).0

pub convergence : Convergence
convergence start r reached words = converging start r reached words

pub through_losses : ConvergenceThroughLosses
through_losses start r reached words m o p covered tidy q out few ws two rest strangers =
    let at : ℕ → Ring = read_at start words in
    let s = since_windows start r reached words (omega arith) p ws out.clean in
    let u = since_windows start r reached words (omega arith) covered two s.still_clean in
    let before = (span start r reached words (omega arith) covered two).on in
    let after = (span start r reached words (omega arith) tidy rest).on in
    let there = tidies start r reached words covered tidy s.still_clean (windows_include start r reached words m o p out covered few ws) two
    (λ i f l. strangers i f (omega arith)) in
    let same : (at tidy).table ≡ (at p).table = u.table ∙ s.table in
    let d = (cleanup start r reached words).settles_in_windows tidy q there (subst Even (sym same) out.even)
    (subst (λ (t : Table). Windows start words 8 (size t) tidy q) (sym same) rest) (λ i f l. strangers i (omega arith) l) in
    (d.0, λ x. d.1 x ∙ u.running x ∙ s.running x)
