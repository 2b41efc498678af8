use mathlib.Core.Path.{ap, ◌∙◌}
use Rattle.model.specs.Buffer.{Written}
use borrow.Author.Rules.{rules}
use Rattle.mekvalgs.proofs.mekvalgs_open.Statement.{statement}
use Rattle.mekvalgs.proofs.mekvalgs_open.Tie as tie

returns : tie.Need-returns
returns c =
    let e = c.before.before.before.«open».ensures in
    (c.number.ensures ∙ ap (λ (w : Written). w.answer) e, ap (λ (w : Written). w.words) e)

pub mekvalgs_open_spec : {M : Type 1} → statement M
mekvalgs_open_spec =
    tie.close
    (tie.spec
    (λ c κs. search rules) (λ c κs. search rules) (λ c. search rules) returns)
