use mathlib.Core.Path.{refl, sym}
use Prim.Native.Nat.{ℕ}
use Rattle.model.specs.Ring.{Own, Ring}
use Rattle.model.specs.Steps.{Effect}
use Rattle.model.specs.Steps as steps
use Rattle.model.specs.Words.{decode}
use Rattle.model.specs.Play.{after}
use Rattle.model.specs.declared.event.Event.TheVariants.{Timer}
use Rattle.model.proofs.Decoded.{reads_well}
use Rattle.model.proofs.WellFormedSteps.{timer_well}
use Rattle.event_act.proofs.Decides.{refused_with}
use Rattle.event_act.proofs.Actors.{actor_sends}
use Rattle.event_act.proofs.Leaving.{act_counts, act_decides}
use Rattle.event_timer.proofs.timer.Goals as goal

-- the step of the event, as an act takes it
abbrev ticks : Ring → ℕ → ℕ → ℕ → Own → Effect
ticks ρ x k now o = steps.timer ρ.table x now o k

pub returns-in_err-may_act : goal.returns-in_err-may_act
returns-in_err-may_act c = record { decides = refused_with _ c.from_residual.ensures.1 c.in_err-may_act.ensures.answer }

pub load-actor-requires : goal.load-actor-requires
load-actor-requires c =
    record {
      ring = c.requires.ring;
      actor = sym c.in_ok-may_act.ensures.answer;
    }

pub step-effect-requires : goal.step-effect-requires
step-effect-requires c =
    record {
      ring = c.requires.ring;
      actor = c.load-actor.ensures.actor;
    }

pub acting-requires : goal.acting-requires
acting-requires c = record {
  counts =
      let a = c.args in
      let ρ = decode a.words.now in
      let table = (reads_well a.words.now c.requires.ring).table_well in
      let by = actor_sends c.requires.ring c.load-actor.ensures.actor (λ pos high low g. timer_well ρ.table table _ pos high _ a.x.0 low g a.k) in
      act_counts c.requires.ring c.load-actor.ensures.actor (ticks ρ a.x.0 a.k) c.step-effect.ensures.effect by;
}

pub returns : goal.returns
unfolding after
returns c = record {
  decides =
      let a = c.args in
      let may = sym c.in_ok-may_act.ensures.answer in
      act_decides c.requires.ring c.load-actor.ensures.actor (ticks (decode a.words.now) a.x.0 a.k) c.step-effect.ensures.effect
      (Timer a.x a.k) may refl c.acting.ensures.decided;
}
