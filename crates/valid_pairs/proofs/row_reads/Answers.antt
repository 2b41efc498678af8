use Rattle.std.proofs.Common.{◌&&◌, ◌∙◌, ap₂}
use Rattle.model.specs.Words.{pair_place}
use Rattle.model.specs.Sets.{all}
use Rattle.valid_nodes.specs.Nodes.{clear}
use Rattle.valid_pairs.specs.Pairs.{pair_reads, row_reads}
use Rattle.valid_nodes.proofs.Gather.{two}
use Rattle.valid_pairs.proofs.row_reads.Goals as goal

pub returns : goal.returns
unfolding row_reads
returns c = record {
  fits =
      let a = c.args in
      let ws = a.words.now in
      ap₂ ◌&&◌ c.row_pairs_read-row.ensures.fits c.clear-after.ensures.value
      ∙ two (all a.n (pair_reads ws a.n a.x)) (clear ws (pair_place a.x a.n) (pair_place a.x 64));
}
