use Rattle.sets.proofs.Bits.{xor_minus}
use Rattle.sets.proofs.minus.Statement.{statement}
use Rattle.sets.proofs.minus.Tie as tie

returns : tie.Need-returns
returns c = xor_minus c.args.a c.args.b

pub minus_spec : {M : Type 1} → statement M
minus_spec = tie.close (tie.spec returns)
