use Rattle.std.proofs.Common.{refl, arith}
use Rattle.valid_pairs.proofs.PairTest.{pair_test}
use Rattle.valid_pairs.proofs.rows.pair_fits.Goals as goal

pub returns : goal.returns
returns c = record {
  value =
      let a = c.args in
      pair_test a.clock a.n a.x a.z a.w a.p _ _ c.requires.bounds.0 c.requires.bounds.1 c.requires.bounds.2 c.requires.bounds.3
      (omega arith) refl refl;
}
