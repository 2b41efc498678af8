use mathlib.Core.Path.{◌≡◌, refl, sym, ap, ◌∙◌}
use mathlib.Core.List.{List}
use Prim.Native.Nat.{ℕ, ◌+◌, ◌<◌}
use native.Mathlib.Omega.{arith}
use Rattle.model.specs.Ring.{Node}
use Rattle.model.specs.Leafset.{size}
use Rattle.model.specs.Words.{decode_table, decode}
use Rattle.model.specs.Play.{after}
use Rattle.model.specs.declared.event.Event.TheVariants.{On}
use Rattle.model.proofs.Answers.{here, next, no_more}
use Rattle.ring_head.proofs.ReadRing.{read_node}
use Rattle.answers.proofs.Valid.{long, clock_high}
use Rattle.answers.proofs.Refusals
use Rattle.event_act.proofs.Decides.{refused_before}
use Rattle.event_act.proofs.Leaving.{silent_decides}
use Rattle.event_on_off.proofs.on.Goals as goal

pub nodes-requires : goal.nodes-requires
nodes-requires c = record { length = long _ c.requires.ring }

pub returns-then-nodes-index : goal.returns-then-nodes-index
returns-then-nodes-index c =
    record { decides = refused_before _ refl (here _ _ (Refusals.out_of_table _ _ (omega (arith, c.nodes.ensures.value, c.index.ensures.value)))) }

pub is_running-requires : goal.is_running-requires
is_running-requires c =
    record {
      length = long _ c.requires.ring;
      bounds = omega (arith, c.nodes.ensures.value, c.index.ensures.value);
    }

pub returns-then-is_running : goal.returns-then-is_running
returns-then-is_running c = record {
  decides =
      refused_before _ refl
      (next _ _ (Refusals.in_table _ _ (omega (arith, c.nodes.ensures.value, c.index.ensures.value)))
      ∙ here _ _ (Refusals.started _ _ (sym c.is_running.ensures.value ∙ c.if-is_running.true)));
}

pub clock-clock-requires : goal.clock-clock-requires
clock-clock-requires c =
    record {
      length = long _ c.requires.ring;
      bounds = omega (arith, c.nodes.ensures.value, c.index.ensures.value);
    }

pub returns-then-clock-eq-CLOCK : goal.returns-then-clock-eq-CLOCK
returns-then-clock-eq-CLOCK c = record {
  decides =
      refused_before _ refl
      (next _ _ (Refusals.in_table _ _ (omega (arith, c.nodes.ensures.value, c.index.ensures.value)))
      ∙ next _ _ (Refusals.stopped _ _ (sym c.is_running.ensures.value ∙ c.if-is_running.false))
      ∙ here _ _ (Refusals.spent _ _ (sym c.clock-clock.ensures.value ∙ c.if-clock-eq-CLOCK.true)));
}

pub messages-m-requires : goal.messages-m-requires
messages-m-requires c = record { length = long _ c.requires.ring }

pub overflow_add-clock : goal.overflow_add-clock
overflow_add-clock c =
    omega (arith, c.clock-clock.ensures.value, clock_high _ c.requires.ring c.args.x.0)

pub silent-requires : goal.silent-requires
silent-requires c =
    record {
      ring = (c.requires.ring, c.messages-m.ensures.value);
      change = (tt, omega (arith, c.nodes.ensures.value, c.index.ensures.value));
    }

pub returns : goal.returns
unfolding after
returns c = record {
  decides =
      let ws : List ℕ = c.args.words.now in
      let x : ℕ = c.args.x.0 in
      let in_table : x < size (decode_table ws) = omega (arith, c.nodes.ensures.value, c.index.ensures.value) in
      let now : c.clock-clock.result.0 + 1 ≡ ((decode ws).node x).clock + 1 =
      ap (λ (k : ℕ). k + 1) (c.clock-clock.ensures.value ∙ ap (λ (s : Node). s.clock) (sym (read_node ws x)))
      in
      silent_decides ws c.requires.ring c.silent.ensures.decided (On c.args.x)
      (next _ _ (Refusals.in_table ws x in_table)
      ∙ next _ _ (Refusals.stopped ws x (sym c.is_running.ensures.value ∙ c.if-is_running.false))
      ∙ next _ _ (Refusals.unspent ws x (λ e. c.if-clock-eq-CLOCK.false (c.clock-clock.ensures.value ∙ e)))
      ∙ no_more)
      tt in_table (omega (arith, c.clock-clock.ensures.value, clock_high ws c.requires.ring x)) (λ e. now) refl;
}
