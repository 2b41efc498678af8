use borrow.Author.Rules.{rules}
use Rattle.sets.proofs.Bits.{and_rest}
use Rattle.sets.proofs.rest.Statement.{statement}
use Rattle.sets.proofs.rest.Tie as tie

returns : tie.Need-returns
returns c = and_rest c.args.set c.ranges.set.fits c.requires

pub rest_spec : {M : Type 1} → statement M
rest_spec = tie.close (tie.spec (λ c. search rules) returns)
