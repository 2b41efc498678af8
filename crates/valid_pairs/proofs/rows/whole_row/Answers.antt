use Rattle.std.proofs.Common.{◌≡◌, ℕ, ◌+◌, ◌*◌, false, eqb, ap, ◌∙◌, arith}
use Rattle.model.specs.Fields.{bits}
use Rattle.model.specs.Sets.{count}
use Rattle.model.specs.Words.{pair_place}
use Rattle.model.proofs.Laws.{count_cong}
use Rattle.valid_nodes.specs.Nodes.{clock_at}
use Rattle.valid_pairs.specs.Pairs.{spare_at, spare_reads, running_reads, run_reads, other_reads}
use Rattle.valid_pairs.proofs.PairTest.{count_whole, others_full, no_link_lem}
use Rattle.valid_pairs.proofs.rows.whole_row.Goals as goal

pub returns : goal.returns
returns c = record {
  fits =
      let a = c.args in
      let ws = a.words.now in
      let counted : c.fitting-run.result.fit ≡ count a.n (other_reads ws a.n a.x) =
      count_whole (run_reads ws a.n a.x (129 + 128 * a.x)) a.n c.fitting-run.result.fit c.fitting-run.ensures.counted
      ∙ count_cong a.n (run_reads ws a.n a.x (129 + 128 * a.x)) (other_reads ws a.n a.x)
      (λ z h. let e : 129 + 128 * a.x + 2 * z ≡ pair_place a.x z = omega arith in ap (running_reads ws a.n a.x z) e) in
      let none : other_reads ws a.n a.x a.x ≡ false =
      rw c.requires.words.3 (no_link_lem (bits 0 24 (clock_at ws a.x)) (spare_reads a.n a.x a.x 0 (spare_at ws a.x a.x))) in
      ap (λ (k : ℕ). eqb (k + 1) a.n) counted ∙ others_full a.n a.x (other_reads ws a.n a.x) c.requires.words.2 none;
}
