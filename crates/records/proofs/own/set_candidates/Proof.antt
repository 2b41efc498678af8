use Rattle.records.proofs.Changes.{sets_changed}
use Rattle.records.proofs.own.set_candidates.Statement.{statement}
use Rattle.records.proofs.own.set_candidates.Tie as tie

returns : tie.Need-returns
returns c = λ n fits low. sets_changed fits c.args.own.held c.args.set fits.held_within low

pub set_candidates_spec : {M : Type 1} → statement M
set_candidates_spec = tie.close (tie.spec returns)
