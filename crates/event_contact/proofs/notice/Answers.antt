use mathlib.Core.Path.{refl, sym}
use Rattle.model.specs.Steps as steps
use Rattle.model.specs.WellFormed.{nil}
use Rattle.model.specs.Words.{decode}
use Rattle.model.specs.Play.{after}
use Rattle.model.specs.declared.event.Event.TheVariants.{Notice}
use Rattle.event_act.proofs.Decides.{refused_with}
use Rattle.event_act.proofs.Leaving.{act_counts, act_decides}
use Rattle.event_contact.proofs.Meets.{meets_acts, meets_low, notices}
use Rattle.event_contact.proofs.notice.Goals as goal

pub returns-in_err-may_meet : goal.returns-in_err-may_meet
returns-in_err-may_meet c = record { decides = refused_with _ c.from_residual.ensures.1 c.in_err-may_meet.ensures.answer }

pub load-a-requires : goal.load-a-requires
load-a-requires c =
    record {
      ring = c.requires.ring;
      actor = meets_acts _ _ _ (sym c.in_ok-may_meet.ensures.answer);
    }

pub notice-effect-requires : goal.notice-effect-requires
notice-effect-requires c =
    let passed = sym c.in_ok-may_meet.ensures.answer in
    record {
      bounds = meets_low _ _ _ passed c.load-a.ensures.actor;
      «record» = c.load-a.ensures.actor.fits.room;
    }

pub acting-requires : goal.acting-requires
unfolding steps.notice
acting-requires c = record {
  counts =
      let a = c.args in
      let ρ = decode a.words.now in
      act_counts c.requires.ring c.load-a.ensures.actor (notices ρ a.x.0 a.z.0) (c.notice-effect.ensures.effect ρ.table _ _ _ c.load-a.ensures.actor.fits) nil;
}

pub returns : goal.returns
unfolding after
returns c = record {
  decides =
      let a = c.args in
      act_decides c.requires.ring c.load-a.ensures.actor (notices (decode a.words.now) a.x.0 a.z.0)
      (c.notice-effect.ensures.effect _ _ _ _ c.load-a.ensures.actor.fits)
      (Notice a.x a.z) (sym c.in_ok-may_meet.ensures.answer) refl
      c.acting.ensures.decided;
}
