-- A delivery is decided: 7, 10, or what is taken out and the receiver's step. `Delivery` has what is known of the message, of the ring that is left
-- and of the decision.
use mathlib.Core.Path.{refl, sym, ◌∙◌}
use native.Mathlib.Omega.{arith}
use Rattle.model.proofs.Answers.{here}
use Rattle.answers.proofs.Valid.{long, room}
use Rattle.answers.proofs.Refusals
use Rattle.event_act.proofs.Decides.{refused_before, refused_with}
use Rattle.event_message.proofs.Delivery
use Rattle.event_message.proofs.deliver.Goals as goal

pub messages-m-requires : goal.messages-m-requires
messages-m-requires c = record { length = long _ c.requires.ring }

pub returns-then-m-k : goal.returns-then-m-k
returns-then-m-k c = record { decides = refused_before _ refl (here _ _ (Refusals.no_message_lem _ _ (omega (arith, c.messages-m.ensures.value)))) }

pub load-message-requires : goal.load-message-requires
load-message-requires c =
    record {
      length = long _ c.requires.ring;
      bounds = omega (arith, room _ c.requires.ring, c.messages-m.ensures.value);
    }

pub is_running-requires : goal.is_running-requires
is_running-requires c =
    record {
      length = long _ c.requires.ring;
      bounds = (Delivery.loaded_well c.load-message.ensures.loaded (omega (arith, c.messages-m.ensures.value)) c.requires.ring).receiver_low;
    }

pub silent-requires : goal.silent-requires
silent-requires c =
    let messages = c.messages-m.ensures.value in record {
      ring = (c.requires.ring, messages);
      change = (
        Delivery.taken_low c.args.position c.args.echo c.taken.ensures.value (omega arith),
        (Delivery.loaded_well c.load-message.ensures.loaded (omega (arith, messages)) c.requires.ring).receiver_low,
      );
    }

pub returns-then-not-is_running : goal.returns-then-not-is_running
returns-then-not-is_running c = record {
  decides =
      Delivery.off_decides c.requires.ring c.load-message.ensures.loaded (omega (arith, c.messages-m.ensures.value)) c.args.echo
      c.taken.ensures.value (sym c.is_running.ensures.value ∙ c.if-not-is_running.true) c.silent.ensures.decided;
}

pub returns-in_err-may_act : goal.returns-in_err-may_act
returns-in_err-may_act c = record {
  decides =
      let on = sym c.is_running.ensures.value ∙ c.if-not-is_running.false in
      let rise = Delivery.must_rise c.load-message.ensures.loaded (omega (arith, c.messages-m.ensures.value)) c.requires.ring on c.args.echo in
      refused_with _ c.from_residual.ensures.1 (c.in_err-may_act.ensures.answer ∙ rise);
}

pub load-actor-requires : goal.load-actor-requires
load-actor-requires c =
    record {
      ring = c.requires.ring;
      actor = sym c.in_ok-may_act.ensures.answer;
    }

pub step-effect-requires : goal.step-effect-requires
step-effect-requires c =
    record {
      ring = (
        c.requires.ring,
        c.load-actor.ensures.actor,
        Delivery.loaded_delivered c.load-message.ensures.loaded (omega (arith, c.messages-m.ensures.value)) c.requires.ring c.load-actor.ensures.actor.nodes,
      );
    }

pub acting-requires : goal.acting-requires
acting-requires c = record {
  counts =
      let messages = c.messages-m.ensures.value in
      Delivery.on_counts c.requires.ring c.load-message.ensures.loaded (omega (arith, messages, c.if-m-k.false)) c.args.echo
      c.taken-2.ensures.value c.load-actor.ensures.actor c.step-effect.ensures.effect messages;
}

pub returns : goal.returns
returns c = record {
  decides =
      Delivery.on_decides c.requires.ring c.load-message.ensures.loaded (omega (arith, c.messages-m.ensures.value, c.if-m-k.false))
      c.args.echo c.taken-2.ensures.value c.load-actor.ensures.actor c.step-effect.ensures.effect
      (sym c.is_running.ensures.value ∙ c.if-not-is_running.false)
      (sym c.in_ok-may_act.ensures.answer) c.acting.ensures.decided;
}
