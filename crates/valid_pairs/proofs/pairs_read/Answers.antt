use Rattle.std.proofs.Common.{◌≡◌, ℕ, ◌+◌, ◌*◌, ◌&&◌, refl, ap, ◌∙◌, ap₂, arith, rules}
use Rattle.model.specs.Words.{pair_place}
use Rattle.model.specs.Sets.{all}
use Rattle.valid_nodes.specs.Nodes.{clear}
use Rattle.valid_pairs.specs.Pairs.{row_reads, pairs_read}
use Rattle.valid_nodes.proofs.Gather.{two, all_more}
use Rattle.valid_pairs.proofs.pairs_read.Goals as goal

pub loop-x-init : goal.loop-x-init
unfolding all
loop-x-init c = (search rules, refl)

pub loop-x-preserved : goal.loop-x-preserved
loop-x-preserved c =
    let l = c.loop-x in
    let a = c.args in
    (search rules, all_more (row_reads a.words.now a.n) l.x _ _ l.invariant.1 c.row_reads-row.ensures.fits)

pub returns : goal.returns
unfolding pairs_read
returns c = record {
  value =
      let l = c.loop-x in
      let a = c.args in
      let e : l.x ≡ a.n = omega arith in
      let f : 129 + 128 * a.n ≡ pair_place a.n 0 = omega arith in
      ap₂ ◌&&◌ (rw e at l.invariant.1) (c.clear.ensures.value ∙ ap (λ (i : ℕ). clear a.words.now i 8321) f)
      ∙ two (all a.n (row_reads a.words.now a.n)) (clear a.words.now (pair_place a.n 0) 8321);
}
