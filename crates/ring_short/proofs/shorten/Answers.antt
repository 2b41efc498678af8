use Rattle.ring_short.proofs.Spans.{short_whole}
use Rattle.ring_short.proofs.shorten.Goals as goal

pub returns : goal.returns
returns c = record {
  short =
      λ size count.
      short_whole c.args.words.now c.args.n c.requires.words.1 size c.args.m _ c.requires.words.3 count c.shorten_rows-end.ensures.end
      c.copy_span.ensures.value (c.shorten_rows-end.ensures.rows size) c.copy_span-2.ensures.value;
}
