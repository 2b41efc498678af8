-- A ring that holds no node that is off is covered exactly where no running node lacks any: whoever is missing in a leafset is lacked.
use mathlib.Core.Path.{◌≡◌, refl, sym, ap, ◌∙◌}
use mathlib.Core.Logic.{◌↔◌}
use Prim.Native.Nat.{ℕ}
use native.Mathlib.Omega.{arith}
use mathlib.Core.Bool.{true, false, not, ◌&&◌}
use lib.Dec.{eqb}
use borrow.Author.Tests.{eq-eqb, eqb-true}
use Rattle.model.specs.Sets.{with}
use Rattle.model.specs.Leafset.{Table, size, leafset}
use Rattle.model.specs.Ring.{Ring, holds, is_running}
use Rattle.model.specs.WellFormed.{WellFormed}
use Rattle.model.proofs.Laws.{clash, and_in, and_left, and_right, or_right, or_case, not_in, not_out, decide, is_false, count_none, count_more}
use Rattle.model.proofs.Choices.{leafset_within}
use Rattle.settle_leafsets.specs.Covered.{Covered, HoldsRunning, lacks, lacking}
use Rattle.settle_leafsets.proofs.LeafsetChoice.{heritage, same_choice, with_alike}

module _ (r : Ring) (g : WellFormed r) (clean : HoldsRunning r) where
  abbrev t : Table
  t = r.table

  lacks_none : (x : ℕ) → is_running r x ≡ true → lacking r x ≡ 0 → (w : ℕ) → leafset t x (is_running r) w ≡ true → holds r x w ≡ true
  lacks_none x on none w e =
      let runs : is_running r w ≡ true = leafset_within t x (is_running r) w e in
      decide (holds r x w) (λ h. h)
      (λ h.
      let fits : leafset t x (with (holds r x) w) w ≡ true =
      heritage t x (is_running r) (with (holds r x) w)
      (λ u q. or_case (holds r x u) (eqb u w) q (λ p. clean x on u p) (λ p. ap (is_running r) (eqb-true u w p) ∙ runs))
      w (or_right (holds r x w) (eq-eqb w w refl)) e in
      let more =
      count_more (λ u. false) (lacks r x) (size t) (λ i l q. clash q refl) w ((g.node_well w).running_low runs) refl (and_in (and_in runs (not_in h)) fits) in
      absurd (omega arith))

  pub lacking_decides : ((x : ℕ) → is_running r x ≡ true → lacking r x ≡ 0) ↔ Covered r
  lacking_decides = (
    (λ none. record {
      leafset_held =
          λ x on. same_choice t x g.table_well ((g.node_well x).running_low on) (is_running r) (holds r x) (clean x on)
          (lacks_none x on (none x on));
    }),
    (λ c x on.
        count_none (size t) (lacks r x) (λ w l. is_false (lacks r x w) (λ e.
        let p : (is_running r w && not (holds r x w)) ≡ true = and_left (is_running r w && not (holds r x w)) _ e in
        clash
        (leafset_within t x (holds r x) w
        (c.leafset_held x on w
        ∙ sym (with_alike t x g.table_well ((g.node_well x).running_low on) (holds r x) (is_running r) (c.leafset_held x on) w
        (λ q. and_left (is_running r w) _ p) w)
        ∙ and_right (is_running r w && not (holds r x w)) _ e))
        (not_out (holds r x w) (and_right (is_running r w) (not (holds r x w)) p))))),
  )
