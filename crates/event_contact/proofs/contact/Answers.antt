use mathlib.Core.Path.{refl, sym}
use native.Mathlib.Omega.{arith}
use Rattle.model.specs.Steps as steps
use Rattle.model.specs.WellFormed.{nil, cons}
use Rattle.model.specs.Words.{decode}
use Rattle.model.specs.Play.{after}
use Rattle.model.specs.declared.event.Event.TheVariants.{Contact}
use Rattle.event_act.proofs.Decides.{refused_with}
use Rattle.event_act.proofs.Leaving.{act_counts, act_decides}
use Rattle.event_contact.proofs.Meets.{meets_acts, meets_low, contacts}
use Rattle.event_contact.proofs.contact.Goals as goal

pub returns-in_err-may_meet : goal.returns-in_err-may_meet
returns-in_err-may_meet c = record { decides = refused_with _ c.from_residual.ensures.1 c.in_err-may_meet.ensures.answer }

pub load-a-requires : goal.load-a-requires
load-a-requires c =
    record {
      ring = c.requires.ring;
      actor = meets_acts _ _ _ (sym c.in_ok-may_meet.ensures.answer);
    }

pub contact-effect-requires : goal.contact-effect-requires
contact-effect-requires c = record {
  bounds =
      let passed = sym c.in_ok-may_meet.ensures.answer in
      (omega (arith, c.load-a.ensures.actor.member, c.load-a.ensures.actor.few), meets_low _ _ _ passed c.load-a.ensures.actor);
}

pub acting-requires : goal.acting-requires
unfolding steps.contact
acting-requires c = record {
  counts =
      let a = c.args in
      let ρ = decode a.words.now in
      act_counts c.requires.ring c.load-a.ensures.actor (contacts ρ a.x.0 a.y.0) (c.contact-effect.ensures.effect ρ.table _ _ c.load-a.ensures.actor.fits)
      (cons refl nil);
}

pub returns : goal.returns
unfolding after
returns c = record {
  decides =
      let a = c.args in
      act_decides c.requires.ring c.load-a.ensures.actor (contacts (decode a.words.now) a.x.0 a.y.0)
      (c.contact-effect.ensures.effect _ _ _ c.load-a.ensures.actor.fits)
      (Contact a.x a.y) (sym c.in_ok-may_meet.ensures.answer) refl
      c.acting.ensures.decided;
}
