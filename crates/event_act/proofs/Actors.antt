-- A node that may act is in the table, runs, and its clock can rise; what is loaded of it has room, and what its step sends is its own.
use mathlib.Core.Path.{◌≡◌, refl, sym}
use mathlib.Core.Bool.{true, false}
use mathlib.Core.List.{List}
use Prim.Native.Nat.{ℕ, ◌≤◌, ◌<◌}
use native.Mathlib.Omega.{arith}
use borrow.Author.Tests.{ltb-true, eqb-false, not-false}
use Rattle.model.specs.Leafset.{Table, size}
use Rattle.model.specs.Ring.{Own}
use Rattle.model.specs.Steps.{Effect}
use Rattle.model.specs.WellFormed.{Each, nil, cons, WellFormedOwn}
use Rattle.model.specs.Answers.{Refusal, first_of}
use Rattle.model.specs.Words.{decode_table, decode_node, decode, reads_as_ring}
use Rattle.model.specs.Structs.{own_of, spare_at}
use Rattle.model.specs.declared.node.NodeRecord.{NodeRecord}
use Rattle.model.proofs.Answers.{none_applies}
use Rattle.model.proofs.Decoded.{reads_well}
use Rattle.model.proofs.Lists.{first, rest, each_imp}
use Rattle.model.proofs.RoundTrip.{spare_high}
use Rattle.model.proofs.WellFormedSteps.{WellFormedEffect, later_well}
use Rattle.ring_pairs.specs.Loaded.{LoadedNode}
use Rattle.records.specs.Effects.{OwnFits}
use Rattle.records.proofs.WellFormed as protocol
use Rattle.event_act.specs.Acting.{may_act, IsActor}
use Rattle.event_act.specs.declared.Actor.{Actor}
use Rattle.answers.proofs.Valid.{few, clock_high}

module _ (ws : List ℕ) (x : ℕ) (ok : first_of (may_act (decode ws) x) ≡ 0) where
  none : Each (λ (q : Refusal). q.applies ≡ false) (may_act (decode ws) x)
  none = none_applies (may_act (decode ws) x) (cons refl (cons refl (cons refl nil))) ok

  pub acts_in_table : x < size (decode_table ws)
  unfolding decode
  acts_in_table = ltb-true x (size (decode_table ws)) (not-false _ (first none))

  pub acts_running : ((decode ws).node x).running ≡ true
  acts_running = not-false _ (first (rest none))

  pub acts_unspent : ((decode ws).node x).clock ≡ 16777215 → ⊥
  acts_unspent = eqb-false ((decode ws).node x).clock 16777215 (first (rest (rest none)))

pub acts_below_last : (ws : List ℕ) (x : ℕ) → reads_as_ring ws ≡ true → first_of (may_act (decode ws) x) ≡ 0 → ((decode ws).node x).clock < 16777215
unfolding decode
acts_below_last ws x reads ok = omega (arith, clock_high ws reads x, acts_unspent ws x ok)

module _ (ws : List ℕ) (x : ℕ) (reads : reads_as_ring ws ≡ true) (q : NodeRecord) (loaded : LoadedNode ws x q) where
  pub loaded_well : WellFormedOwn (size (decode_table ws)) x (decode_node ws x).clock (own_of q)
  unfolding decode decode_node
  loaded_well = mend (sym loaded.own) ((reads_well ws reads).node_well x).own_well
    where
      mend : {o p : Own} → o ≡ p → WellFormedOwn (size (decode_table ws)) x (decode_node ws x).clock o
          → WellFormedOwn (size (decode_table ws)) x (decode_node ws x).clock p
      mend e g = rw (sym e) g

  pub loaded_fits : OwnFits (size (decode_table ws)) q
  loaded_fits = protocol.own_fits q (few ws reads) (clock_high ws reads x) loaded.room.commit_long loaded.room.spare_long loaded_well

  pub loaded_spare : (z : ℕ) → spare_at q z ≤ 64
  loaded_spare z = spare_high (few ws reads) (loaded_well.spare_other z)

-- what an acting node sends, it sends: the model's law of its step asks for a well-formed record, and a clock that has risen
module _ {ws : List ℕ} (reads : reads_as_ring ws ≡ true) {x : ℕ} {a : Actor} (is : IsActor ws x a) where
  abbrev t : Table
  t = (decode ws).table

  actor_low : x < size t
  unfolding decode
  actor_low = omega (arith, is.nodes, is.member)

  actor_well : WellFormedOwn (size t) x a.time.0 (own_of a.own)
  actor_well =
      mend (sym is.own)
      (later_well (size t) x ((decode ws).node x).clock a.time.0 _ (omega (arith, is.time)) ((reads_well ws reads).node_well x).own_well)
    where
      mend : {o p : Own} → o ≡ p → WellFormedOwn (size t) x a.time.0 o → WellFormedOwn (size t) x a.time.0 p
      mend e g = rw (sym e) g

  pub actor_sends : {e : Effect}
      → (0 < a.time.0 → a.time.0 ≤ 16777215 → x < size t → WellFormedOwn (size t) x a.time.0 (own_of a.own)
      → WellFormedEffect (size t) x a.time.0 e)
      → Each (λ m. m.sender ≡ x) e.sent
  actor_sends f = each_imp (λ m s. s.by_sender) (f (omega (arith, is.time)) (omega (arith, is.time_room)) actor_low actor_well).sent_well
