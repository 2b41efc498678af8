use mathlib.Core.Path.{sym, ◌∙◌}
use native.Mathlib.Omega.{arith}
use borrow.Author.Tests.{not-true, not-false}
use Rattle.answers.proofs.Valid.{long}
use Rattle.model.proofs.Answers.{here, next, no_more}
use Rattle.answers.proofs.Refusals
use Rattle.event_act.proofs.may_act.Goals as goal

pub nodes-requires : goal.nodes-requires
nodes-requires c = record { length = long _ c.requires.ring }

pub returns-then-nodes-index : goal.returns-then-nodes-index
returns-then-nodes-index c = record {
  answer =
      let a = c.args in
      sym (here _ _ (Refusals.out_of_table a.words.now a.x.0 (omega (arith, c.nodes.ensures.value, c.index.ensures.value))));
}

pub is_running-requires : goal.is_running-requires
is_running-requires c =
    record {
      length = long _ c.requires.ring;
      bounds = omega (arith, c.nodes.ensures.value, c.index.ensures.value);
    }

pub returns-then-not-is_running : goal.returns-then-not-is_running
returns-then-not-is_running c = record {
  answer =
      let a = c.args in
      sym
      (next _ _ (Refusals.in_table a.words.now a.x.0 (omega (arith, c.nodes.ensures.value, c.index.ensures.value)))
      ∙ here _ _ (Refusals.off a.words.now a.x.0 (sym c.is_running.ensures.value ∙ c.if-not-is_running.true)));
}

pub clock-requires : goal.clock-requires
clock-requires c =
    record {
      length = long _ c.requires.ring;
      bounds = omega (arith, c.nodes.ensures.value, c.index.ensures.value);
    }

pub returns-then-clock-eq-CLOCK : goal.returns-then-clock-eq-CLOCK
returns-then-clock-eq-CLOCK c = record {
  answer =
      let a = c.args in
      sym
      (Refusals.runs a.words.now a.x.0 _ (omega (arith, c.nodes.ensures.value, c.index.ensures.value))
      (sym c.is_running.ensures.value ∙ c.if-not-is_running.false)
      ∙ here _ _ (Refusals.spent a.words.now a.x.0 (sym c.clock.ensures.value ∙ c.if-clock-eq-CLOCK.true)));
}

pub returns : goal.returns
returns c = record {
  answer =
      let a = c.args in
      sym
      (Refusals.runs a.words.now a.x.0 _ (omega (arith, c.nodes.ensures.value, c.index.ensures.value))
      (sym c.is_running.ensures.value ∙ c.if-not-is_running.false)
      ∙ next _ _ (Refusals.unspent a.words.now a.x.0 (λ e. c.if-clock-eq-CLOCK.false (c.clock.ensures.value ∙ e)))
      ∙ no_more);
}
