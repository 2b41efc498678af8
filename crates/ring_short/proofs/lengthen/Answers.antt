use Rattle.ring_short.proofs.Spans.{long_whole}
use Rattle.ring_short.proofs.lengthen.Goals as goal

pub returns : goal.returns
returns c = record {
  words =
      long_whole c.args.short.now c.args.n c.args.m c.requires.words.1 _ c.requires.words.3 c.requires.words.0 c.lengthen_rows-end.ensures.end
      c.copy_span.ensures.value c.clear.ensures.value (c.lengthen_rows-end.ensures.rows c.args.m) c.clear-2.ensures.value
      c.copy_span-2.ensures.value c.clear-3.ensures.value;
}
