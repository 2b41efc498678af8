-- What a change leaves: of a node that acts, the model's act; of one that sends nothing, its node changed.
use mathlib.Core.Path.{◌≡◌, refl, sym, ap, subst, ◌∙◌}
use mathlib.Core.Bool.{Bool, true, false}
use mathlib.Core.List.{List, [], ◌++◌, append-nil}
use Prim.Native.Nat.{ℕ, ◌+◌, ◌^◌, ◌<◌}
use lib.ListN.{length}
use native.Mathlib.Omega.{arith}
use Rattle.model.specs.Leafset.{size}
use Rattle.model.specs.Ring.{Own, Node, Message, Ring}
use Rattle.model.specs.Steps.{Effect}
use Rattle.model.specs.WellFormed.{Each}
use Rattle.model.specs.Words.{decode_table, decode, reads_as_ring}
use Rattle.model.specs.Answers.{first_of}
use Rattle.model.specs.Play.{set_messages, act, after, refusals}
use Rattle.model.specs.Structs.{own_of}
use Rattle.model.specs.declared.event.Event.{Event}
use Rattle.model.specs.declared.values.NodeNumber.{NodeNumber}
use Rattle.model.specs.declared.values.Stamp.{Stamp}
use Rattle.model.proofs.Laws.{clash}
use Rattle.records.specs.Effects.{Leaves}
use Rattle.records.specs.declared.effect.EffectRecord.{EffectRecord}
use Rattle.event_act.specs.Acting.{IsActor}
use Rattle.event_act.specs.Changes.{TakenLow, TakenOther, taken_out, node_changed, changed, Counts, Changes, Decided, Silent, Decides}
use Rattle.event_act.specs.declared.Actor.{Actor}
use Rattle.std.specs.Prelude.{Option, None, Some, Result, Ok, Err}
use Rattle.model.specs.declared.refusal.Refusal.{Refusal}
use Rattle.event_act.specs.declared.decision.Becomes.{Becomes}
use Rattle.event_act.specs.declared.decision.Becomes.TheVariants.{Stays, Starts, Stops, Acts}
use Rattle.event_act.specs.declared.decision.Change.{Change}
use Rattle.event_act.proofs.Decides.{acted_by, decides}
use Rattle.event_act.proofs.Written.{taken_nodes, node_messages}

abbrev pub starts : Becomes → Bool
starts Stays = false
starts Starts = true
starts Stops = false
starts Acts = false

pub never_starts : {b : Becomes} → starts b ≡ false → b ≡ Starts → ⊥
never_starts f e = clash (ap starts e) f

-- any change, written and counted
pub change_fits : (c : Change) {n : ℕ} {e : Effect} → Leaves n c.node.0 c.time.0 c.effect e
    → {ws : List ℕ} → reads_as_ring ws ≡ true → TakenLow (length (decode ws).messages) c.taken → c.node.0 < size (decode_table ws)
    → c.time.0 < 2 ^ 24 → (c.becomes ≡ Starts → c.time.0 ≡ ((decode ws).node c.node.0).clock + 1) → Changes ws c
change_fits c left reads low member room rises =
    record {
      reads = reads;
      taken_low = low;
      member = member;
      time_room = room;
      rises = rises;
      own_room = left.own_fits.room;
      first_fits = left.first_fits;
      second_fits = left.second_fits;
    }

pub change_counts : (c : Change) {n : ℕ} {e : Effect} → Leaves n c.node.0 c.time.0 c.effect e → Each (λ s. s.sender ≡ c.node.0) e.sent
    → {ws : List ℕ} → reads_as_ring ws ≡ true → {m : ℕ} → m ≡ length (decode ws).messages
    → TakenLow m c.taken → TakenOther (decode ws) c.taken c.node.0 → c.node.0 < size (decode_table ws) → Counts ws m c
change_counts c left by reads count low other member =
    record {
      reads = reads;
      count = count;
      taken_low = low;
      member = member;
      by_node = subst (λ (e : Effect). Each (λ s. s.sender ≡ c.node.0) e.sent) (sym left.effect) by;
      taken_other = λ some. other;
    }

-- a node that acts with the effect r
abbrev pub acts : Option ℕ → NodeNumber → Actor → EffectRecord → Change
acts t x a r = record { taken = t; node = x; becomes = Acts; time = a.time; effect = r }

module _ {ws : List ℕ} (reads : reads_as_ring ws ≡ true) {x : NodeNumber} {a : Actor} (is : IsActor ws x.0 a) (r : EffectRecord)
    (step : ℕ → Own → Effect) (left : Leaves a.n x.0 a.time.0 r (step a.time.0 (own_of a.own))) (t : Option ℕ) where
  abbrev acting : Change
  acting = acts t x a r

  acting_fits : TakenLow (length (decode ws).messages) t → Changes ws acting
  acting_fits low = change_fits acting left reads low (omega (arith, is.nodes, is.member)) is.time_room (λ e. absurd (never_starts refl e))

  pub acting_counts : Each (λ s. s.sender ≡ x.0) (step a.time.0 (own_of a.own)).sent → {m : ℕ} → m ≡ length (decode ws).messages
      → TakenLow m t → TakenOther (decode ws) t x.0 → Counts ws m acting
  acting_counts by count low other = change_counts acting left by reads count low other (omega (arith, is.nodes, is.member))

  acting_leaves : changed acting (decode ws) ≡ act x.0 step (taken_out t (decode ws))
  acting_leaves =
      let kept : (taken_out t (decode ws)).node x.0 ≡ (decode ws).node x.0 = ap (λ (f : ℕ → Node). f x.0) (taken_nodes t (decode ws)) in
      acted_by (taken_out t (decode ws)) x.0 a.time.0 r step
      (is.time ∙ ap (λ (s : Node). s.clock + 1) (sym kept))
      (left.effect ∙ ap (step a.time.0) (is.own ∙ ap (λ (s : Node). s.own) (sym kept)))

  -- an event that is this act, where none of its refusals applies
  pub acting_decides : (e : Event) → first_of (refusals (decode ws) e) ≡ 0 → TakenLow (length (decode ws).messages) t
      → act x.0 step (taken_out t (decode ws)) ≡ after (decode ws) e
      → (d : Result Change Refusal) → Decided (decode ws) acting d → Decides ws e d
  acting_decides e passed low same d decided = decides ws e passed acting (acting_fits low) (acting_leaves ∙ same) d decided

-- an event that is one act and takes nothing out
module _ {ws : List ℕ} (reads : reads_as_ring ws ≡ true) {x : NodeNumber} {a : Actor} (is : IsActor ws x.0 a)
    (step : ℕ → Own → Effect) {r : EffectRecord} (left : Leaves a.n x.0 a.time.0 r (step a.time.0 (own_of a.own))) where
  pub act_counts : Each (λ s. s.sender ≡ x.0) (step a.time.0 (own_of a.own)).sent → Counts ws a.m (acts None x a r)
  act_counts by = acting_counts reads is r step left None by is.count tt tt

  pub act_decides : (e : Event) → first_of (refusals (decode ws) e) ≡ 0 → act x.0 step (decode ws) ≡ after (decode ws) e
      → {d : Result Change Refusal} → Decided (decode ws) (acts None x a r) d → Decides ws e d
  act_decides e passed same {d} decided = acting_decides reads is r step left None e passed tt same d decided

-- a change that sends nothing
module _ (c : Change) {n : ℕ} {o : Own} (left : Leaves n c.node.0 c.time.0 c.effect (record { own = o; sent = [] })) where
  silent_leaves : (ρ : Ring) → changed c ρ ≡ node_changed c.becomes c.node.0 c.time.0 (own_of c.effect.own) (taken_out c.taken ρ)
  silent_leaves ρ =
      ap (λ (ms : List Message). set_messages ms (node_changed c.becomes c.node.0 c.time.0 (own_of c.effect.own) (taken_out c.taken ρ)))
      (ap (λ (e : Effect). (taken_out c.taken ρ).messages ++ e.sent) left.effect
      ∙ append-nil (taken_out c.taken ρ).messages
      ∙ sym (node_messages c.becomes c.node.0 c.time.0 (own_of c.effect.own) (taken_out c.taken ρ)))

-- an event that sends nothing, where none of its refusals applies
module _ (ws : List ℕ) (reads : reads_as_ring ws ≡ true) {t : Option ℕ} {x : NodeNumber} {b : Becomes} {time : Stamp} {d : Result Change Refusal}
    (done : Silent (decode ws) t x b time d) where
  abbrev silently : Change
  silently = record { taken = t; node = x; becomes = b; time = time; effect = done.effect }

  pub silent_decides : (e : Event) → first_of (refusals (decode ws) e) ≡ 0
      → TakenLow (length (decode ws).messages) t → x.0 < size (decode_table ws) → time.0 < 2 ^ 24
      → (b ≡ Starts → time.0 ≡ ((decode ws).node x.0).clock + 1)
      → node_changed b x.0 time.0 (own_of done.effect.own) (taken_out t (decode ws)) ≡ after (decode ws) e
      → Decides ws e d
  silent_decides e passed low member room rises same =
      decides ws e passed silently (change_fits silently (done.quiet 0) reads low member room rises)
      (silent_leaves silently (done.quiet 0) (decode ws) ∙ same) d done.decided
