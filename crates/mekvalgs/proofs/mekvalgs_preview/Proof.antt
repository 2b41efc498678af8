use mathlib.Core.Path.{refl}
use borrow.Author.Rules.{rules}
use Rattle.mekvalgs.proofs.mekvalgs_preview.Statement.{statement}
use Rattle.mekvalgs.proofs.mekvalgs_preview.Tie as tie

returns : tie.Need-returns
returns c = (rw c.number.ensures c.before.before.before.preview.ensures.0, refl)

pub mekvalgs_preview_spec : {M : Type 1} → statement M
mekvalgs_preview_spec =
    tie.close
    (tie.spec
    (λ c κs. search rules) (λ c κs. search rules) (λ c. search rules) returns)
