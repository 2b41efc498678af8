-- Where a leafset has improved and as many are lacked as before, it is as before: who came in was lacked, so the count would have fallen.
-- Of two rings with the same leafsets, what depends on leafsets alone is the same.
use mathlib.Core.Path.{◌≡◌, refl, sym, ap, ◌∙◌, subst}
use Prim.Native.Nat.{ℕ, ◌≤◌, ◌<◌}
use native.Mathlib.Omega.{arith}
use mathlib.Core.Bool.{Bool, true, not, ◌&&◌}
use lib.Dec.{eqb}
use borrow.Author.Tests.{eqb-true, eq-eqb}
use Rattle.model.specs.Sets.{Set, with, union, count, some}
use Rattle.model.specs.Leafset.{Table, size, leafset, closest, successor, passes_zero}
use Rattle.model.specs.Ring.{Ring, is_running, holds}
use Rattle.model.specs.WellFormed.{WellFormedTable, WellFormed, Other}
use Rattle.model.proofs.Laws.{clash, and_left, and_right, and_in, or_left, or_right, or_case, not_in, not_out, decide, is_false, same_test, count_more}
use Rattle.model.proofs.Choices.{leafset_within}
use Rattle.settle_leafsets.specs.Covered.{Improves, lacks}
use Rattle.settle_leafsets.specs.Quiescent.{chosen, offer_of}
use Rattle.settle_leafsets.proofs.LeafsetChoice.{heritage, same_choice, with_same, with_none, still_fits}
use Rattle.settle_leafsets.proofs.Closest.{offer_same}
use Rattle.settle_leafsets.proofs.SameLeafsets.{some_same, successor_same, passes_same}

module _ (t : Table) (g : WellFormedTable t) (x : ℕ) (hx : x < size t) where
  abbrev lacks_in : Set → Set → Set
  lacks_in R S w = R w && not (S w) && leafset t x (with S w) w

  module _
      (R S T : Set) (improves : Improves t x S T)
      (runs : (z : ℕ) → T z ≡ true → R z ≡ true) (low : (z : ℕ) → R z ≡ true → z < size t)
      (enough : count (size t) (lacks_in R S) ≤ count (size t) (lacks_in R T))
    where
      -- who lies in the new leafset was held
      was_held : (z : ℕ) → leafset t x T z ≡ true → S z ≡ true
      was_held z e =
          let tz : T z ≡ true = leafset_within t x T z e in
          decide (S z) (λ q. q)
          (λ q.
          let fits : leafset t x (with S z) z ≡ true =
          heritage t x (union S T) (with S z)
          (λ u p. or_case (S u) (eqb u z) p (λ k. or_left (T u) k) (λ k. or_right (S u) (ap T (eqb-true u z k) ∙ tz)))
          z (or_right (S z) (eq-eqb z z refl)) (improves z ∙ e) in
          let fewer : count (size t) (lacks_in R T) < count (size t) (lacks_in R S) =
          count_more (lacks_in R T) (lacks_in R S) (size t)
          (λ w l k.
          let p : (R w && not (T w)) ≡ true = and_left (R w && not (T w)) _ k in
          let s = still_fits t x g hx S T improves w (not_out (T w) (and_right (R w) (not (T w)) p)) (and_right (R w && not (T w)) _ k) in
          and_in (and_in (and_left (R w) (not (T w)) p) (not_in s.0)) s.1)
          z (low z (runs z tz))
          (is_false (lacks_in R T z) (λ k. clash tz (not_out (T z) (and_right (R z) (not (T z)) (and_left (R z && not (T z)) _ k)))))
          (and_in (and_in (runs z tz) (not_in q)) fits) in
          absurd (omega arith))

      pub constant : (z : ℕ) → leafset t x T z ≡ leafset t x S z
      constant z =
          sym (improves z)
          ∙ sym (same_choice t x g hx (union S T) S (λ u e. or_left (T u) e) (λ u e. was_held u (sym (improves u) ∙ e)) z)

  -- whom one lacks depends on the leafset alone
  module _ (R S T : Set) (alike : (z : ℕ) → leafset t x S z ≡ leafset t x T z) where
    one_way : (w : ℕ) → lacks_in R S w ≡ true → lacks_in R T w ≡ true
    one_way w e =
        let p : (R w && not (S w)) ≡ true = and_left (R w && not (S w)) _ e in
        let fits : leafset t x (with T w) w ≡ true = sym (with_same t x g hx S T alike w w) ∙ and_right (R w && not (S w)) _ e in
        and_in
        (and_in (and_left (R w) _ p)
        (not_in (is_false (T w) (λ q.
        clash (leafset_within t x S w (alike w ∙ with_none t x g hx T w (λ k. q) w ∙ fits)) (not_out (S w) (and_right (R w) (not (S w)) p))))))
        fits

-- of two rings with one table, in which the same nodes run, and x has the same leafset
module _
    (r s : Ring) (well : WellFormed r) (table : s.table ≡ r.table) (running : (x : ℕ) → is_running s x ≡ is_running r x)
    (x : ℕ) (on : is_running r x ≡ true) (same : (z : ℕ) → chosen s x z ≡ chosen r x z)
  where
    alike : (z : ℕ) → leafset r.table x (holds s x) z ≡ leafset r.table x (holds r x) z
    alike z = ap (λ (t : Table). leafset t x (holds s x) z) (sym table) ∙ same z

    low : x < size r.table
    low = (well.node_well x).running_low on

    pub same_lacks : (w : ℕ) → lacks s x w ≡ lacks r x w
    same_lacks w =
        ap (λ (t : Table). is_running s w && not (holds s x w) && leafset t x (with (holds s x) w) w) table
        ∙ ap (λ (q : Bool). q && not (holds s x w) && leafset r.table x (with (holds s x) w) w) (running w)
        ∙ same_test _ _
        (one_way r.table well.table_well x low (is_running r) (holds s x) (holds r x) alike w)
        (one_way r.table well.table_well x low (is_running r) (holds r x) (holds s x) (λ z. sym (alike z)) w)

    pub same_offer : (a : ℕ) → offer_of s x a ≡ offer_of r x a
    same_offer a = ap (λ (t : Table). closest t x (holds s x) a) table ∙ offer_same r.table x (holds s x) (holds r x) alike a

    module _ (well-s : WellFormed s) where
      others_s : (z : ℕ) → holds s x z ≡ true → Other (size r.table) x z
      others_s z e = subst (λ (t : Table). Other (size t) x z) table ((well-s.node_well x).own_well.held_other z e)

      abbrev others_r : (z : ℕ) → holds r x z ≡ true → Other (size r.table) x z
      others_r = (well.node_well x).own_well.held_other

      pub same_some : some (size s.table) (holds s x) ≡ some (size r.table) (holds r x)
      same_some = ap (λ (t : Table). some (size t) (holds s x)) table
          ∙ some_same r.table well.table_well x low (holds s x) (holds r x) others_s others_r alike

      pub same_successor : successor s.table x (holds s x) ≡ successor r.table x (holds r x)
      same_successor = ap (λ (t : Table). successor t x (holds s x)) table
          ∙ successor_same r.table well.table_well x low (holds s x) (holds r x) others_s others_r alike

      pub same_passes : passes_zero s.table x (holds s x) ≡ passes_zero r.table x (holds r x)
      same_passes = ap (λ (t : Table). passes_zero t x (holds s x)) table
          ∙ passes_same r.table well.table_well x low (holds s x) (holds r x) others_s others_r alike
