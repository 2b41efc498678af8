use borrow.Author.Rules.{rules}
use Rattle.mekvalgs.proofs.mekvalgs_replay.Statement.{statement}
use Rattle.mekvalgs.proofs.mekvalgs_replay.Tie as tie

returns : tie.Need-returns
returns c = rw c.number.ensures c.before.before.before.before.before.replay.ensures

pub mekvalgs_replay_spec : {M : Type 1} → statement M
mekvalgs_replay_spec =
    tie.close
    (tie.spec
    (λ c κs. search rules) (λ c κs. search rules) (λ c. search rules) (λ c. search rules) returns)
