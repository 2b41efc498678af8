-- A covered ring is quiescent, since nobody in it lacks any; so where A = B and all running nodes are connected, quiescent is covered.
use mathlib.Core.Path.{◌≡◌, sym, ap, ◌∙◌}
use mathlib.Core.Logic.{◌↔◌}
use Prim.Native.Nat.{ℕ}
use mathlib.Core.Bool.{true, false, not, ◌&&◌}
use Rattle.model.specs.Sets.{Set, some}
use Rattle.model.specs.Leafset.{size, passes_zero}
use Rattle.model.specs.Ring.{Ring, holds, is_running}
use Rattle.model.specs.WellFormed.{WellFormed}
use Rattle.model.specs.Connection.{Connected}
use Rattle.model.proofs.Laws.{clash, and_left, decide, is_false, some_out}
use Rattle.model.proofs.Choices.{leafset_within}
use Rattle.settle_leafsets.specs.Covered.{Covered, HoldsRunning, lacks, Even}
use Rattle.settle_leafsets.specs.Quiescent.{Quiescent, chosen, offer_of, Meets, held, replaced, Arrives, here, onward}
use Rattle.settle_leafsets.proofs.Lacking.{lacking_decides}
use Rattle.settle_leafsets.proofs.Ways.{count_zero}
use Rattle.settle_leafsets.proofs.Closest.{offer_of_lem}
use Rattle.settle_leafsets.proofs.Quiescent.{quiescent_covers}

-- ---- covered rings

module _ (r : Ring) (g : WellFormed r) (clean : HoldsRunning r) where
  abbrev R : Set
  R = is_running r

  chosen_runs : (x z : ℕ) → R x ≡ true → chosen r x z ≡ true → R z ≡ true
  chosen_runs x z on e = clean x on z (leafset_within r.table x (holds r x) z e)

  pub meets_runs : {x k z : ℕ} → R x ≡ true → Meets r x k z → R z ≡ true
  meets_runs {x = x} on (held {z = z} e) = clean x on z e
  meets_runs {x = x} on (replaced {y = y} {z = z} m out i n) =
      ap R (sym i) ∙ chosen_runs z (offer_of r z x) (meets_runs on m) (offer_of_lem r.table (holds r z) z x (λ j. n (sym i ∙ j))).mine

  -- one that passes zero holds somebody, and so it runs
  passing_runs : (p : ℕ) → passes_zero r.table p (holds r p) ≡ true → R p ≡ true
  unfolding passes_zero
  passing_runs p e =
      decide (R p) (λ on. on)
      (λ off.
      let s = some_out (size r.table) (holds r p) (and_left (some (size r.table) (holds r p)) _ e) in
      clash s.2 ((g.node_well p).off_held off s.0))

  pub arrives_runs : {k a p : ℕ} → Arrives r k a p → R p ≡ true
  arrives_runs (here {p = p} e) = passing_runs p e
  arrives_runs (onward f i a) = arrives_runs a

  module _ (covered : Covered r) where
    lacks_nobody : (x w : ℕ) → R x ≡ true → lacks r x w ≡ false
    lacks_nobody x w on =
        is_false (lacks r x w)
        (λ e. count_zero (size r.table) (lacks r x) ((lacking_decides r g clean).1 covered x on) w
        ((g.node_well w).running_low (and_left (R w) _ (and_left (R w && not (holds r x w)) _ e))) e)

    pub covered_quiescent : Quiescent r
    covered_quiescent =
        record {
          asks = λ x w on e. lacks_nobody w x (chosen_runs x w on e);
          hears = λ x w y on e k. lacks_nobody x y on;
          offers = λ x k z on l m out i. lacks_nobody z x (meets_runs on m);
          passes = λ o k p on e l a. (lacks_nobody o p on, lacks_nobody p o (arrives_runs a));
        }

-- where A and B are equal and all running nodes are connected, quiescent is covered
pub quiescent_decides :
    (r : Ring) → WellFormed r → Even r.table → HoldsRunning r
    → ((a b : ℕ) → is_running r a ≡ true → is_running r b ≡ true → Connected r a b)
    → Quiescent r ↔ Covered r
quiescent_decides r g even clean connected = (quiescent_covers r g even clean connected, covered_quiescent r g clean)
