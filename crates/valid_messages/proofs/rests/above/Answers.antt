use native.Mathlib.Omega.{arith}
use lib.Pow.{pow_pos}
use Rattle.valid_messages.proofs.RestTests.{one_shifted}
use Rattle.valid_messages.proofs.rests.above.Goals as goal

pub overflow_sub-result : goal.overflow_sub-result
overflow_sub-result c = rw (one_shifted c.args.free c.requires.bounds) (pow_pos c.args.free)

pub returns : goal.returns
returns c = record { value = rw (one_shifted c.args.free c.requires.bounds) (omega (arith, pow_pos c.args.free)) }
