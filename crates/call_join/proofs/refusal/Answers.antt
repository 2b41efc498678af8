-- The lengths, then each source, then both as rings: the first that applies gives its number.
use mathlib.Core.Path.{sym, ◌∙◌}
use Rattle.model.proofs.Answers.{here, next}
use Rattle.answers.proofs.Refusals.{no_ring, a_ring}
use Rattle.call_join.proofs.Refused.{wrong_length_lem, first_long, second_long, lengths_pass}
use Rattle.call_join.proofs.refusal.Goals as goal

pub returns-then-not-as_long : goal.returns-then-not-as_long
returns-then-not-as_long c = record {
  answer =
      wrong_length_lem _ _ _ c.as_long.ensures.value c.as_long-2.ensures.value c.as_long-3.ensures.value
      (c.if-not-as_long.true);
}

pub reads_as_ring-requires : goal.reads_as_ring-requires
reads_as_ring-requires c = record {
  length =
      first_long c.args.first.now c.args.second.now c.args.joined.now
      c.as_long.ensures.value c.as_long-2.ensures.value c.as_long-3.ensures.value (c.if-not-as_long.false);
}

pub returns-then-not-reads_as_ring : goal.returns-then-not-reads_as_ring
returns-then-not-reads_as_ring c = record {
  answer =
      lengths_pass _ _ _
      c.as_long.ensures.value c.as_long-2.ensures.value c.as_long-3.ensures.value
      (c.if-not-as_long.false)
      (sym (here _ _ (no_ring _ (sym c.reads_as_ring.ensures.value ∙ c.if-not-reads_as_ring.true))));
}

pub reads_as_ring-requires-2 : goal.reads_as_ring-requires-2
reads_as_ring-requires-2 c = record {
  length =
      second_long c.args.first.now c.args.second.now c.args.joined.now
      c.as_long.ensures.value c.as_long-2.ensures.value c.as_long-3.ensures.value
      (c.if-not-as_long.false);
}

pub returns-then-not-reads_as_ring-2 : goal.returns-then-not-reads_as_ring-2
returns-then-not-reads_as_ring-2 c = record {
  answer =
      lengths_pass _ _ _
      c.as_long.ensures.value c.as_long-2.ensures.value c.as_long-3.ensures.value
      (c.if-not-as_long.false)
      (sym
      (next _ _ (a_ring _ (sym c.reads_as_ring.ensures.value ∙ c.if-not-reads_as_ring.false))
      ∙ here _ _ (no_ring _ (sym c.reads_as_ring-2.ensures.value ∙ c.if-not-reads_as_ring-2.true))));
}

pub of_rings-requires : goal.of_rings-requires
of_rings-requires c = record {
  rings = (
    sym c.reads_as_ring.ensures.value ∙ c.if-not-reads_as_ring.false,
    sym c.reads_as_ring-2.ensures.value ∙ c.if-not-reads_as_ring-2.false,
  );
}

pub returns : goal.returns
returns c = record {
  answer =
      lengths_pass _ _ _
      c.as_long.ensures.value c.as_long-2.ensures.value c.as_long-3.ensures.value
      (c.if-not-as_long.false)
      (c.of_rings.ensures.answer
      ∙ sym
      (next _ _ (a_ring _ (sym c.reads_as_ring.ensures.value ∙ c.if-not-reads_as_ring.false))
      ∙ next _ _ (a_ring _ (sym c.reads_as_ring-2.ensures.value ∙ c.if-not-reads_as_ring-2.false))));
}
