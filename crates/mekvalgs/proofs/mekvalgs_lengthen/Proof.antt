-- The call gives the definition's answer and words; the answer here is its number.
use mathlib.Core.Path.{refl}
use borrow.Author.Rules.{rules}
use Rattle.mekvalgs.proofs.mekvalgs_lengthen.Statement.{statement}
use Rattle.mekvalgs.proofs.mekvalgs_lengthen.Tie as tie

returns : tie.Need-returns
returns c = (rw c.number.ensures c.before.before.before.lengthen.ensures, refl)

pub mekvalgs_lengthen_spec : {M : Type 1} → statement M
mekvalgs_lengthen_spec =
    tie.close
    (tie.spec
    (λ c κs. search rules) (λ c κs. search rules) (λ c. search rules) returns)
