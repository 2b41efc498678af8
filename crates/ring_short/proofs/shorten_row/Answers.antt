use Rattle.ring_short.proofs.Spans.{short_row_lem}
use Rattle.ring_short.proofs.shorten_row.Goals as goal

pub returns : goal.returns
returns c = record {
  row =
      λ size is.
      short_row_lem c.args.words.now c.args.n c.requires.words.1 size c.args.x c.args.at c.requires.words.2 is
      c.copy_span.ensures.value c.copy_span-2.ensures.value;
}
