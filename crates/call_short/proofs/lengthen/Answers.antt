-- 1 of the long buffer; then 19; then the runs are put back.
use mathlib.Core.Path.{sym, ◌∙◌}
use native.Mathlib.Omega.{arith}
use borrow.Author.Tests.{eqb-true}
use Rattle.call_short.proofs.Editions.{stored, not_empty, not_as_long, not_short_lem, lengthens}
use Rattle.call_short.proofs.lengthen.Goals as goal

pub returns-then-not-as_long : goal.returns-then-not-as_long
returns-then-not-as_long c = record { written = not_as_long _ _ (sym c.as_long.ensures.value ∙ c.if-not-as_long.true) }

pub returns-then-not-reads_as_short : goal.returns-then-not-reads_as_short
returns-then-not-reads_as_short c = record {
  written =
      not_short_lem _ _ (sym c.as_long.ensures.value ∙ c.if-not-as_long.false)
      (sym c.reads_as_short.ensures.value ∙ c.if-not-reads_as_short.true);
}

pub bounds-short-0 : goal.bounds-short-0
bounds-short-0 c =
    not_empty _ (sym c.reads_as_short.ensures.value ∙ c.if-not-reads_as_short.false)

pub lengthen-requires : goal.lengthen-requires
lengthen-requires c = record {
  words =
      let reads = sym c.reads_as_short.ensures.value ∙ c.if-not-reads_as_short.false in
      let s = stored _ reads c.nodes.ensures.value c.messages.ensures.value in
      let long = eqb-true _ _ (sym c.as_long.ensures.value ∙ c.if-not-as_long.false) in
      (long, s.few, s.some_node, s.many, omega (arith, s.long));
}

pub returns : goal.returns
returns c = record {
  written =
      let reads = sym c.reads_as_short.ensures.value ∙ c.if-not-reads_as_short.false in
      lengthens _ _ (sym c.as_long.ensures.value ∙ c.if-not-as_long.false) reads
      c.nodes.ensures.value c.messages.ensures.value c.lengthen.ensures.words;
}
