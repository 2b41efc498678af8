use Rattle.std.proofs.Common.{sym, ◌∙◌, arith}
use Rattle.valid_pairs.specs.Pairs.{run_reads}
use Rattle.valid_pairs.proofs.PairTest.{count_whole}
use Rattle.valid_pairs.proofs.ShortRows.{short_off, short_running}
use Rattle.valid_pairs.proofs.short.short_row_reads.Goals as goal

pub returns-then-not-running : goal.returns-then-not-running
returns-then-not-running c = record {
  value =
      let a = c.args in
      let ws = a.words.now in
      c.nothing.ensures.value ∙ short_off ws a.n a.x a.row c.requires.words.3 c.requires.words.2 (sym c.running.ensures.value ∙ c.if-not-running.true);
}

pub returns : goal.returns
returns c = record {
  value =
      let a = c.args in
      let ws = a.words.now in
      short_running ws a.n a.x a.row c.requires.words.3 c.requires.words.2 c.fitting-before.result.fit c.fitting-after.result.fit (omega arith)
      (sym c.running.ensures.value ∙ c.if-not-running.false)
      (count_whole (run_reads ws a.n a.x a.row) a.x c.fitting-before.result.fit c.fitting-before.ensures.counted) c.fitting-after.ensures.counted;
}
