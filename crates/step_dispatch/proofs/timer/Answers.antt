use Rattle.records.specs.Effects.{Leaves}
use Rattle.records.proofs.Changes.{unchanged}
use Rattle.step_dispatch.proofs.ByTimer.{by_timer, by_no_timer}
use Rattle.step_dispatch.proofs.timer.Goals as goal

pub returns-in-Ok-Invite : goal.returns-in-Ok-Invite
returns-in-Ok-Invite c =
    record { effect = λ time. by_timer _ _ _ _ _ (Leaves _ _ _ _) c.in-Ok-Invite.ensures c.in-Ok-Invite.field-0-is (c.timer0.ensures.effect time) }

pub returns-in-Ok-AskReplacement : goal.returns-in-Ok-AskReplacement
returns-in-Ok-AskReplacement c =
    record {
      effect = λ time. by_timer _ _ _ _ _ (Leaves _ _ _ _) c.in-Ok-AskReplacement.ensures c.in-Ok-AskReplacement.field-0-is
          (c.timer2.ensures.effect time);
    }

pub returns-in-Ok-Replace : goal.returns-in-Ok-Replace
returns-in-Ok-Replace c =
    record { effect = λ time. by_timer _ _ _ _ _ (Leaves _ _ _ _) c.in-Ok-Replace.ensures c.in-Ok-Replace.field-0-is (c.timer3.ensures.effect time) }

pub returns-in-Ok-Deloopy : goal.returns-in-Ok-Deloopy
returns-in-Ok-Deloopy c =
    record { effect = λ time. by_timer _ _ _ _ _ (Leaves _ _ _ _) c.in-Ok-Deloopy.ensures c.in-Ok-Deloopy.field-0-is (c.timer4.ensures.effect _ time) }

pub returns-in-Err : goal.returns-in-Err
returns-in-Err c = record {
  effect = λ time. by_no_timer _ _ _ _ _ (Leaves _ _ _ _) c.in-Err.ensures.1 (c.quiet.ensures.effect _ _ _ _ (unchanged c.requires.lent.own_fits));
}
