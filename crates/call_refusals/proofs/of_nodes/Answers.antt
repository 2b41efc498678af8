use mathlib.Core.Path.{sym}
use Rattle.model.proofs.Given.{refuses_with}
use Rattle.call_refusals.proofs.Refused.{passed_answer, refused_words, ring_reads, after_words}
use Rattle.call_refusals.proofs.of_nodes.Goals as goal

pub returns-in_err-of_words : goal.returns-in_err-of_words
returns-in_err-of_words c = record {
  answer =
      let n = c.in_err-of_words.ensures.answer in
      refused_words c.args.words.now c.args.a.0 c.args.b.0 (passed_answer _ _ c.from_residual.ensures.1 n) (refuses_with _ n);
}

pub of_ring-requires : goal.of_ring-requires
of_ring-requires c = record { ring = ring_reads c.args.words.now (sym c.in_ok-of_words.ensures.answer) }

pub returns : goal.returns
returns c = record {
  answer = after_words c.args.words.now c.args.a.0 c.args.b.0 (sym c.in_ok-of_words.ensures.answer) c.of_ring.ensures.answer;
}
