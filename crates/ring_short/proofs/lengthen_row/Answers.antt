use Rattle.ring_short.proofs.Spans.{long_row}
use Rattle.ring_short.proofs.lengthen_row.Goals as goal

pub returns : goal.returns
returns c = record {
  row =
      λ m is.
      long_row c.args.short.now c.args.n m c.requires.words.1 c.args.x c.args.at c.requires.words.2 is
      c.copy_span.ensures.value c.clear.ensures.value c.copy_span-2.ensures.value c.clear-2.ensures.value;
}
