use borrow.Author.Rules.{rules}
use Rattle.mekvalgs.proofs.mekvalgs_play_all.Statement.{statement}
use Rattle.mekvalgs.proofs.mekvalgs_play_all.Tie as tie

returns : tie.Need-returns
returns c = rw c.number.ensures c.before.before.before.before.before.play_all.ensures

pub mekvalgs_play_all_spec : {M : Type 1} → statement M
mekvalgs_play_all_spec =
    tie.close
    (tie.spec
    (λ c κs. search rules) (λ c κs. search rules) (λ c. search rules) (λ c. search rules) returns)
