-- The call gives the definition's answer and words; the answer here is its number.
use borrow.Author.Rules.{rules}
use Rattle.mekvalgs.proofs.mekvalgs_join.Statement.{statement}
use Rattle.mekvalgs.proofs.mekvalgs_join.Tie as tie

returns : tie.Need-returns
returns c = (rw c.number.ensures c.before.before.before.join.ensures.0, c.before.before.before.join.ensures.1)

pub mekvalgs_join_spec : {M : Type 1} → statement M
mekvalgs_join_spec =
    tie.close
    (tie.spec
    (λ c κs. search rules) (λ c κs. search rules) (λ c. search rules) returns)
