use mathlib.Core.Path.{sym, ap}
use native.Mathlib.Omega.{arith}
use lib.ListN.{length, length-take}
use Rattle.bench_script.proofs.Chunks.{rest_from, words_counted, short_tail}
use Rattle.text_describe.proofs.Steps.{stepped}
use borrow.Author.Rules.{rules}
use Rattle.text_describe.proofs.step.Goals as goal

pub slice_bounds-put_chunk-end : goal.slice_bounds-put_chunk-end
slice_bounds-put_chunk-end c = sym (simp length-take (omega (arith, c.load-n.ensures.loaded.count, c.load-n.ensures.loaded.long)))

pub put_chunk-given-requires : goal.put_chunk-given-requires
put_chunk-given-requires c = record { room = (simp length-take (omega (arith, c.load-n.ensures.loaded.long)), search rules) }

pub slice_bounds-put_tail-count : goal.slice_bounds-put_tail-count
slice_bounds-put_tail-count c =
    omega (arith, c.load-n.ensures.loaded.count)

pub put_tail-requires : goal.put_tail-requires
put_tail-requires c = record {
  room =
      let chunk = c.args.bytes.now in
      let tail = ap length (rest_from chunk (words_counted chunk c.load-n.ensures.loaded.count)) in
      (omega (arith, c.put_chunk-given.ensures.bytes.long, c.put_chunk-given.ensures.end), omega (arith, tail, short_tail chunk));
}

pub shape_of-out : goal.shape_of-out
shape_of-out c =
    let put = c.put_chunk-given.ensures.bytes in
    search rules

pub returns : goal.returns
returns c = record {
  turn =
      let chunk = c.args.bytes.now in
      stepped _ _ chunk c.load-n.ensures.loaded.loaded (rest_from chunk (words_counted chunk c.load-n.ensures.loaded.count)) c.put_chunk-given.ensures.bytes
      c.put_chunk-given.ensures.opened
      c.put_tail.ensures.bytes;
}
