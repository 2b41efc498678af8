-- A difference of two words is the narrow distance, and that loses nothing.
use Rattle.std.proofs.Common.{rules}
use Rattle.leafset_nearest.proofs.Narrow.{narrow_clockwise_lem}
use Rattle.leafset_nearest.proofs.clockwise.Goals as goal

pub returns : goal.returns
returns c = record { value = narrow_clockwise_lem c.args.from.0 c.args.to.0 (search rules) (search rules) }
