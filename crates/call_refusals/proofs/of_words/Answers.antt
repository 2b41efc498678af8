use mathlib.Core.Path.{sym, ap, ◌∙◌}
use mathlib.Core.Bool.{not}
use mathlib.Core.List.{List}
use Prim.Native.Nat.{ℕ}
use borrow.Author.Tests.{eqb-true}
use Rattle.model.specs.Buffer.{ring_answer}
use Rattle.model.proofs.Answers.{here, next, no_more}
use Rattle.answers.proofs.Refusals.{no_ring, a_ring}
use Rattle.call_refusals.proofs.of_words.Goals as goal

pub returns-then-not-as_long : goal.returns-then-not-as_long
unfolding ring_answer
returns-then-not-as_long c = record { answer = sym (here _ _ (ap not (sym c.as_long.ensures.value ∙ c.if-not-as_long.true))) }

pub reads_as_ring-requires : goal.reads_as_ring-requires
reads_as_ring-requires c = record { length = eqb-true _ _ (sym c.as_long.ensures.value ∙ c.if-not-as_long.false) }

pub returns-else-reads_as_ring : goal.returns-else-reads_as_ring
unfolding ring_answer
returns-else-reads_as_ring c = record {
  answer =
      let ws : List ℕ = c.args.words.now in
      sym
      (next _ _ (ap not (sym c.as_long.ensures.value ∙ c.if-not-as_long.false))
      ∙ here _ _ (no_ring ws (sym c.reads_as_ring.ensures.value ∙ c.if-reads_as_ring.false)));
}

pub returns-then-reads_as_ring : goal.returns-then-reads_as_ring
unfolding ring_answer
returns-then-reads_as_ring c = record {
  answer =
      let ws : List ℕ = c.args.words.now in
      sym
      (next _ _ (ap not (sym c.as_long.ensures.value ∙ c.if-not-as_long.false))
      ∙ next _ _ (a_ring ws (sym c.reads_as_ring.ensures.value ∙ c.if-reads_as_ring.true))
      ∙ no_more);
}
