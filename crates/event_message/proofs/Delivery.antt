-- A delivery: what is known of the message, the clock that must rise, the ring that is left, and so the decision.
use mathlib.Core.Path.{◌≡◌, refl, sym, ap, subst, ◌∙◌}
use mathlib.Core.Bool.{Bool, true, false}
use mathlib.Core.List.{List, [], ◌∷◌}
use Prim.Native.Nat.{ℕ, ◌<◌}
use native.Mathlib.Omega.{arith}
use lib.Dec.{lit<}
use lib.ListN.{length}
use Rattle.std.specs.Prelude.{Option, Result}
use Rattle.model.specs.Leafset.{size}
use Rattle.model.specs.Ring.{Own, Node, Message, Ring, is_running, message_at}
use Rattle.model.specs.Steps.{Effect, deliver}
use Rattle.model.specs.Answers.{Refusal, first_of}
use Rattle.model.specs.Words.{decode_table, decode_node, decode, reads_as_ring}
use Rattle.model.specs.Play.{remove_message, arrived, act, receive, after, refusals, clock_spent}
use Rattle.model.specs.Structs.{own_of, message_of}
use Rattle.model.specs.WellFormed.{Each, WellFormedMessage}
use Rattle.model.specs.declared.event.Event.TheVariants.{Deliver}
use Rattle.model.specs.declared.message.MessageRecord.{MessageRecord}
use Rattle.ring_messages.specs.Loaded.{LoadedMessage}
use Rattle.model.proofs.Decoded.{reads_well}
use Rattle.model.proofs.WellFormedSteps.{deliver_well}
use Rattle.ring_head.proofs.ReadRing.{read_node, read_message}
use Rattle.records.specs.Effects.{Delivered, Leaves}
use Rattle.records.specs.declared.effect.EffectRecord.{EffectRecord}
use Rattle.records.proofs.WellFormed.{delivered}
use Rattle.answers.proofs.Valid.{few, message_well}
use Rattle.model.proofs.Answers.{next, no_more}
use Rattle.answers.proofs.Refusals.{runs, a_message}
use Rattle.event_act.specs.Acting.{may_act, IsActor}
use Rattle.event_act.specs.Changes.{TakenLow, TakenOther, taken_out, Counts, Decided, Silent, Decides}
use Rattle.event_act.specs.declared.Actor.{Actor}
use Rattle.event_act.specs.declared.decision.Becomes.TheVariants.{Stays}
use Rattle.event_act.specs.declared.decision.Change.{Change}
use Rattle.model.specs.declared.refusal.Refusal.{Refusal as Kind}
use Rattle.event_act.proofs.Actors.{actor_sends}
use Rattle.event_act.proofs.Leaving.{never_starts, acts, acting_counts, acting_decides, silent_decides}
use Rattle.event_message.specs.Arrivals.{taken_by}

-- ---- the message that is loaded

module _ {ws : List ℕ} {k : ℕ} {q : MessageRecord} (loaded : LoadedMessage ws k q) (low : k < length (decode ws).messages) where
  pub is_message : message_of q ≡ message_at (decode ws) k
  is_message = loaded.message ∙ sym (read_message ws k low)

  -- "10. The clock is 16,777,215 and must rise": only where the receiver runs
  abbrev rise : Message → Refusal
  rise m = clock_spent (decode ws) (is_running (decode ws) m.receiver) m.receiver

  pub need_not_rise : (decode_node ws q.receiver.0).running ≡ false → (echo : Bool) → first_of (refusals (decode ws) (Deliver k echo)) ≡ 0
  unfolding decode
  need_not_rise off echo =
      let spared : (rise (message_of q)).applies ≡ false = rw off in
      next _ _ (a_message ws k low) ∙ next _ _ (ap (λ (m : Message). (rise m).applies) (sym is_message) ∙ spared) ∙ no_more

  module _ (reads : reads_as_ring ws ≡ true) where
    pub loaded_well : WellFormedMessage (size (decode_table ws)) (message_of q)
    loaded_well = subst (WellFormedMessage (size (decode_table ws))) (sym is_message) (message_well ws reads k low)

    pub other_sender : (message_at (decode ws) k).sender ≡ q.receiver.0 → ⊥
    other_sender e = loaded_well.ends_differ (ap (λ (m : Message). m.sender) is_message ∙ e)

    pub loaded_delivered : {n : ℕ} → n ≡ size (decode_table ws) → Delivered n q
    loaded_delivered e = rw e (delivered q (few ws reads) loaded_well)

    -- a receiver that runs is refused as a node that is to act
    pub must_rise : (decode_node ws q.receiver.0).running ≡ true → (echo : Bool)
        → first_of (may_act (decode ws) q.receiver.0) ≡ first_of (refusals (decode ws) (Deliver k echo))
    unfolding decode
    must_rise on echo =
        runs ws q.receiver.0 _ loaded_well.receiver_low on
        ∙ ap (λ (b : Bool). first_of (clock_spent (decode ws) b q.receiver.0 ∷ [])) (sym on)
        ∙ ap (λ (m : Message). first_of (rise m ∷ [])) is_message ∙ sym (next _ _ (a_message ws k low))

-- ---- the ring that is left

-- a message that its receiver gets, or nobody
receive_off : (m : Message) (s : Ring) → is_running s m.receiver ≡ false → s ≡ receive m s
receive_off m s off = rw off

receive_on : (m : Message) (s : Ring) → is_running s m.receiver ≡ true
    → act m.receiver (λ now o. deliver s.table m.receiver now o m) s ≡ receive m s
receive_on m s on = rw on

-- what is taken out, by whether it is an echo
module _ (k : ℕ) (echo : Bool) {t : Option ℕ} (e : t ≡ taken_by k echo) where
  pub taken_low : {m : ℕ} → k < m → TakenLow m t
  taken_low {m} h = subst (TakenLow m) (sym e) (by_echo echo)
    where
      by_echo : (b : Bool) → TakenLow m (taken_by k b)
      by_echo true = tt
      by_echo false = h

  pub taken_other : (ρ : Ring) {x : ℕ} → ((message_at ρ k).sender ≡ x → ⊥) → TakenOther ρ t x
  taken_other ρ {x} d = subst (λ (q : Option ℕ). TakenOther ρ q x) (sym e) (by_echo echo)
    where
      by_echo : (b : Bool) → TakenOther ρ (taken_by k b) x
      by_echo true = tt
      by_echo false = d

  arrives : (ρ : Ring) → taken_out t ρ ≡ arrived k echo ρ
  arrives ρ = ap (λ (q : Option ℕ). taken_out q ρ) e ∙ by_echo echo
    where
      by_echo : (b : Bool) → taken_out (taken_by k b) ρ ≡ arrived k b ρ
      by_echo true = refl
      by_echo false = refl

  module _ (ρ : Ring) (m : Message) (is : m ≡ message_at ρ k) where
    abbrev step : ℕ → Own → Effect
    step now o = deliver ρ.table m.receiver now o m

    -- on the ring with the message and on the one without it
    by_off : (b : Bool) → is_running ρ m.receiver ≡ false → arrived k b ρ ≡ receive m (arrived k b ρ)
    unfolding remove_message
    by_off true off = receive_off m ρ off
    by_off false off = receive_off m (remove_message k ρ) off

    by_on : (b : Bool) → is_running ρ m.receiver ≡ true → act m.receiver step (arrived k b ρ) ≡ receive m (arrived k b ρ)
    unfolding remove_message
    by_on true on = receive_on m ρ on
    by_on false on = receive_on m (remove_message k ρ) on

    named : receive m (arrived k echo ρ) ≡ after ρ (Deliver k echo)
    unfolding after
    named = ap (λ (a : Message). receive a (arrived k echo ρ)) is

    pub delivered_off : is_running ρ m.receiver ≡ false → taken_out t ρ ≡ after ρ (Deliver k echo)
    delivered_off off = arrives ρ ∙ by_off echo off ∙ named

    pub delivered_on : is_running ρ m.receiver ≡ true → act m.receiver step (taken_out t ρ) ≡ after ρ (Deliver k echo)
    delivered_on on = ap (act m.receiver step) (arrives ρ) ∙ by_on echo on ∙ named

-- ---- the decision

module _ {ws : List ℕ} {k : ℕ} {q : MessageRecord} (reads : reads_as_ring ws ≡ true) (loaded : LoadedMessage ws k q) (low : k < length (decode ws).messages)
    (echo : Bool) {t : Option ℕ} (e : t ≡ taken_by k echo) where
  abbrev y : ℕ
  y = q.receiver.0

  running : {b : Bool} → (decode_node ws y).running ≡ b → is_running (decode ws) y ≡ b
  running is = ap (λ (s : Node). s.running) (read_node ws y) ∙ is

  -- to a node that is off: what is taken out, and nothing else
  pub off_decides : (decode_node ws y).running ≡ false → {d : Result Change Kind} → Silent (decode ws) t q.receiver Stays (record { 0 = 0 }) d
      → Decides ws (Deliver k echo) d
  off_decides off done =
      silent_decides ws reads done (Deliver k echo) (need_not_rise loaded low off echo) (taken_low k echo e low)
      (loaded_well loaded low reads).receiver_low (lit< tt) (λ s. absurd (never_starts refl s))
      (delivered_off k echo e (decode ws) (message_of q) (is_message loaded low) (running off))

  -- to a running node: its step, on the ring with the message or without it
  module _ {a : Actor} (is : IsActor ws y a) {r : EffectRecord}
      (left : Leaves a.n y a.time.0 r (deliver (decode ws).table y a.time.0 (own_of a.own) (message_of q))) where
    abbrev receives : ℕ → Own → Effect
    receives now o = deliver (decode ws).table y now o (message_of q)

    sends : Each (λ s. s.sender ≡ y) (receives a.time.0 (own_of a.own)).sent
    unfolding decode
    sends =
        actor_sends reads is (λ pos high member g.
        deliver_well (decode ws).table (reads_well ws reads).table_well _ pos high _ (message_of q) (loaded_well loaded low reads) g)

    pub on_counts : {m : ℕ} → m ≡ length (decode ws).messages → Counts ws m (acts t q.receiver a r)
    on_counts count =
        acting_counts reads is r receives left t sends count (taken_low k echo e (omega (arith, count, low)))
        (taken_other k echo e (decode ws) (other_sender loaded low reads))

    pub on_decides : (decode_node ws y).running ≡ true → first_of (may_act (decode ws) y) ≡ 0
        → {d : Result Change Kind} → Decided (decode ws) (acts t q.receiver a r) d → Decides ws (Deliver k echo) d
    on_decides on passed {d} decided =
        acting_decides reads is r receives left t (Deliver k echo) (sym (must_rise loaded low reads on echo) ∙ passed) (taken_low k echo e low)
        (delivered_on k echo e (decode ws) (message_of q) (is_message loaded low) (running on)) d decided
