use mathlib.Core.Path.{sym, ◌∙◌}
use native.Mathlib.Omega.{arith}
use borrow.Author.Tests.{eqb-true}
use Rattle.model.specs.Words.{at}
use Rattle.valid_ring.proofs.Regions.{head_ranges}
use Rattle.valid_short.proofs.ShortRegions.{empty_fails, short_head_fails}
use Rattle.valid_short.proofs.reads_as_short.Goals as goal

pub returns-then-is_empty : goal.returns-then-is_empty
returns-then-is_empty c = record { value = empty_fails c.args.short.now (eqb-true _ _ (sym c.is_empty.ensures ∙ c.if-is_empty.true)) }

pub returns-then-not-head_reads : goal.returns-then-not-head_reads
returns-then-not-head_reads c = record {
  value =
      let ws = c.args.short.now in
      short_head_fails ws (sym c.head_reads.ensures.value ∙ c.if-not-head_reads.true);
}

pub rest_reads-requires : goal.rest_reads-requires
rest_reads-requires c =
    let ws = c.args.short.now in
    let read = sym c.head_reads.ensures.value ∙ c.if-not-head_reads.false in
    let h = head_ranges (at ws 0) read in
    record {
      head = (read, c.nodes.ensures.value, c.messages.ensures.value);
      bounds = (omega arith, omega arith, omega arith);
    }

pub returns : goal.returns
returns c = record { value = c.rest_reads.ensures.value }
