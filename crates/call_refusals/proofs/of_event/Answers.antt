use mathlib.Core.Path.{sym, subst, ◌∙◌}
use borrow.Author.Tests.{eqb-true}
use Rattle.model.proofs.Given.{passed_on}
use Rattle.answers.proofs.Stages.{not_as_long, not_a_ring_lem, not_an_event, an_event}
use Rattle.call_refusals.specs.Admitted.{Admitted}
use Rattle.call_refusals.proofs.of_event.Goals as goal

-- 1
pub returns-then-not-as_long : goal.returns-then-not-as_long
returns-then-not-as_long c = record { admitted = not_as_long _ _ (sym c.as_long.ensures.value ∙ c.if-not-as_long.true) }

pub reads_as_ring-requires : goal.reads_as_ring-requires
reads_as_ring-requires c = record { length = eqb-true _ _ (sym c.as_long.ensures.value ∙ c.if-not-as_long.false) }

-- 4 and 5
pub returns-in_err-event : goal.returns-in_err-event
returns-in_err-event c = record {
  admitted =
      let long = sym c.as_long.ensures.value ∙ c.if-not-as_long.false in
      subst (Admitted _ _) (sym (passed_on c.from_residual.result _ c.from_residual.ensures.1))
      (not_an_event _ _ long c.read_event.ensures.value c.in_err-event.was);
}

-- 6
pub returns-then-not-reads_as_ring : goal.returns-then-not-reads_as_ring
returns-then-not-reads_as_ring c = record {
  admitted =
      let long = sym c.as_long.ensures.value ∙ c.if-not-as_long.false in
      not_a_ring_lem _ _ long c.read_event.ensures.value c.in_ok-event.was
      (sym c.reads_as_ring.ensures.value ∙ c.if-not-reads_as_ring.true);
}

-- the event
pub returns : goal.returns
returns c = record {
  admitted =
      let long = sym c.as_long.ensures.value ∙ c.if-not-as_long.false in
      let reads = sym c.reads_as_ring.ensures.value ∙ c.if-not-reads_as_ring.false in
      record { reads = reads; same = an_event _ _ long c.read_event.ensures.value c.in_ok-event.was reads };
}
