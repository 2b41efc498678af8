-- The test `is_point` decides what demand 3 supposes of a point: no acknowledgement is in flight, and no type 13 from a
-- running node.
use mathlib.Core.Path.{◌≡◌, refl, sym, ap, ◌∙◌}
use mathlib.Core.Logic.{◌↔◌}
use mathlib.Core.Bool.{true, false}
use mathlib.Core.List.{List, [], ◌∷◌, Memᴰ}
use Prim.Native.Nat.{ℕ, zero, suc, ◌+◌, ◌<◌}
use native.Mathlib.Nat.{not-suc-le-zero, le_of_suc-le-suc}
use native.Mathlib.Omega.{arith}
use lib.Dec.{eqb}
use lib.ListN.{length, get_or}
use borrow.Author.Tests.{eqb-true, eq-eqb}
use Rattle.model.specs.Sets.{Set, count}
use Rattle.model.specs.Ring.{Ring, Message, blank, is_running, message_at}
use Rattle.model.specs.Types.{pong_replace, leave}
use Rattle.model.specs.ConnectivityPreserved.{NoAcknowledgement, LeaversOff}
use Rattle.model.proofs.Laws.{clash, and_left, and_right, and_in, is_false, count_none, count_more}
use Rattle.audit_account.specs.Points.{is_acknowledgement, is_late_leave, acknowledgements, late_leaves, is_point}

-- where none is counted, none passes the test
pub none_counted : (n : ℕ) (S : Set) → count n S ≡ 0 → (i : ℕ) → i < n → S i ≡ false
none_counted n S e i h =
    is_false (S i) (λ t. omega (arith, count_more (λ j. false) S n (λ j l f. clash f refl) i h refl t))

-- a message of a list has a place, and what stands at a place is a message of the list
place : {m : Message} {l : List Message} → Memᴰ m l → (i : ℕ) × (i < length l) × (get_or l i blank ≡ m)
place (Memᴰ.head e) = (0, omega arith, sym e)
place (Memᴰ.tail h) = let p = place h in (suc p.0, omega arith, p.2)

at_place : (l : List Message) (i : ℕ) → i < length l → Memᴰ (get_or l i blank) l
at_place [] i h = absurd (not-suc-le-zero h)
at_place (m ∷ l) zero h = Memᴰ.head refl
at_place (m ∷ l) (suc i) h = Memᴰ.tail (at_place l i (le_of_suc-le-suc h))

module _ (r : Ring) where
  abbrev many : ℕ
  many = length r.messages

  abbrev acknowledges : Set
  acknowledges i = is_acknowledgement (message_at r i)

  abbrev is_late : Set
  is_late i = is_late_leave r (message_at r i)

  -- none of each is counted
  counts_out : is_point r ≡ true → (count many acknowledges ≡ 0) × (count many is_late ≡ 0)
  unfolding is_point acknowledgements late_leaves
  counts_out e = let z : count many acknowledges + count many is_late ≡ 0 = eqb-true _ _ e in (omega arith, omega arith)

  counts_in : count many acknowledges ≡ 0 → count many is_late ≡ 0 → is_point r ≡ true
  unfolding is_point acknowledgements late_leaves
  counts_in a l = eq-eqb (count many acknowledges + count many is_late) 0 (omega arith)

  no_acknowledgement : is_point r ≡ true → NoAcknowledgement r
  no_acknowledgement e m h t =
      let p = place h in
      clash (ap is_acknowledgement p.2 ∙ eq-eqb m.type pong_replace t)
      (none_counted many acknowledges (counts_out e).0 p.0 p.1)

  leavers_off : is_point r ≡ true → LeaversOff r
  leavers_off e m h t =
      is_false (is_running r m.sender)
      (λ runs.
      let p = place h in
      clash (ap (is_late_leave r) p.2 ∙ and_in (eq-eqb m.type leave t) runs)
      (none_counted many is_late (counts_out e).1 p.0 p.1))

  is_point_lem : NoAcknowledgement r → LeaversOff r → is_point r ≡ true
  is_point_lem none off =
      counts_in
      (count_none many acknowledges
      (λ i h. is_false (acknowledges i)
      (λ t. none (message_at r i) (at_place r.messages i h) (eqb-true (message_at r i).type pong_replace t))))
      (count_none many is_late
      (λ i h. is_false (is_late i)
      (λ t.
      let m : Message = message_at r i in
      let leaves = and_left (eqb m.type leave) (is_running r m.sender) t in
      let runs = and_right (eqb m.type leave) (is_running r m.sender) t in
      clash runs (off m (at_place r.messages i h) (eqb-true m.type leave leaves)))))

  -- the test decides it
  pub point_decides : (is_point r ≡ true) ↔ (NoAcknowledgement r × LeaversOff r)
  point_decides = ((λ e. (no_acknowledgement e, leavers_off e)), (λ p. is_point_lem p.0 p.1))
