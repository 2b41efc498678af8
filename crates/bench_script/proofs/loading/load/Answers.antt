use Rattle.std.proofs.Common.{◌≡◌, ◌/◌, length, arith}
use Rattle.bench_script.proofs.Loads.{filled_none, filled_more, filled_all, word_of_four}
use Rattle.bench_script.proofs.loading.load.Goals as goal

pub loop-i-init : goal.loop-i-init
loop-i-init c = filled_none _ _

pub loop-i-preserved : goal.loop-i-preserved
loop-i-preserved c =
    let fours = c.as_chunks.ensures in
    let word = word_of_four c.args.bytes.now _ c.loop-i.i (omega (arith, fours.front_len)) fours.front c.from_le_bytes.ensures in
    filled_more c.args.bytes.now c.args.words.now c.loop-i.words c.loop-i.i _ (omega (arith, fours.front_len)) (omega (arith, fours.front_len)) word
    c.loop-i.invariant

pub returns : goal.returns
returns c = record {
  loaded =
      let e : c.loop-i.i ≡ length c.args.bytes.now / 4 = omega (arith, c.as_chunks.ensures.front_len) in
      rw c.as_chunks.ensures.front_len (filled_all c.args.bytes.now c.args.words.now c.loop-i.words (rw e at c.loop-i.invariant));
}
