use Rattle.std.proofs.Common.{ℕ, ◌+◌, ap, arith}
use lib.Bits.{and_le_r}
use Rattle.valid_pairs.proofs.PairFormats.{without_candidate}
use Rattle.valid_pairs.proofs.lifted.Goals as goal

pub overflow_add-result : goal.overflow_add-result
overflow_add-result c = omega (arith, and_le_r c.args.u 4261412863)

pub returns : goal.returns
returns c = record { value = ap (λ (v : ℕ). v + 16777215) (without_candidate c.args.u (omega arith)) }
