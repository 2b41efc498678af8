-- What an off leaves, polite or not, and who sends it.
use mathlib.Core.Path.{◌≡◌, ap, ◌∙◌}
use mathlib.Core.Bool.{Bool, true, false}
use mathlib.Core.List.{List, [], ◌∷◌, ◌++◌}
use Prim.Native.Nat.{ℕ, ◌<◌}
use Rattle.model.specs.Leafset.{Table, size}
use Rattle.model.specs.Ring.{Own, Ring}
use Rattle.model.specs.Steps.{Effect, leaving}
use Rattle.model.specs.WellFormed.{Each, WellFormedOwn}
use Rattle.model.specs.Answers.{first_of}
use Rattle.model.specs.Words.{decode_table, decode_node, decode}
use Rattle.model.specs.Play.{set_messages, stopped, after, no_node, node_off}
use Rattle.model.specs.declared.values.NodeNumber.{NodeNumber}
use Rattle.model.specs.declared.event.Event.TheVariants.{Off}
use Rattle.model.proofs.Lists.{each_imp}
use Rattle.model.proofs.Answers.{no_more}
use Rattle.model.proofs.WellFormedSteps.{leaving_well}
use Rattle.ring_head.specs.Parts.{update}
use Rattle.records.specs.declared.effect.EffectRecord.{EffectRecord}
use Rattle.answers.proofs.Refusals.{runs}
use Rattle.std.specs.Prelude.{None}
use Rattle.event_act.specs.declared.decision.Change.{Change}
use Rattle.event_act.specs.declared.decision.Becomes.TheVariants.{Stops}

module _ (ρ : Ring) (x : NodeNumber) {polite : Bool} where
  pub stops : {σ : Ring} → polite ≡ false → σ ≡ update x.0 stopped ρ → σ ≡ after ρ (Off x polite)
  unfolding after
  stops plain same = rw plain same

  -- the messages do not depend on the time
  pub leaves : (time : ℕ) {o : Own} {e : Effect} → polite ≡ true → e ≡ leaving ρ.table x.0 time o → o ≡ (ρ.node x.0).own
      → set_messages (ρ.messages ++ e.sent) (update x.0 stopped ρ) ≡ after ρ (Off x polite)
  unfolding after leaving
  leaves time told is own =
      rw told (ap (λ (e : Effect). set_messages (ρ.messages ++ e.sent) (update x.0 stopped ρ)) (is ∙ ap (leaving ρ.table x.0 time) own))

-- what a node sends that leaves is its own, whatever the time
pub leaver_sends : (t : Table) (time : ℕ) {x clock : ℕ} {o : Own} → x < size t → WellFormedOwn (size t) x clock o
    → Each (λ m. m.sender ≡ x) (leaving t x time o).sent
unfolding leaving
leaver_sends t time {x} {clock} {o} low g = each_imp (λ m s. s.by_sender) (leaving_well t x clock o low g)

-- none of an off's refusals applies
pub may_stop : (ws : List ℕ) (x : ℕ) → x < size (decode_table ws) → (decode_node ws x).running ≡ true
    → first_of (no_node (decode ws) x ∷ node_off (decode ws) x ∷ []) ≡ 0
may_stop ws x low running = runs ws x [] low running ∙ no_more

-- the node stops, and sends what the effect says
abbrev pub stopping : NodeNumber → EffectRecord → Change
stopping x r = record { taken = None; node = x; becomes = Stops; time = record { 0 = 0 }; effect = r }
