use borrow.Author.Rules.{rules}
use Rattle.sets.proofs.Bits.{within_with}
use Rattle.records.proofs.own.add_candidate.Statement.{statement}
use Rattle.records.proofs.own.add_candidate.Tie as tie

returns : tie.Need-returns
returns c =
    let start = c.before.before in
    let a = start.args in
    let more = c.before.with.ensures in
    λ n fits low. rw more at (c.set_candidates.ensures n fits
    (within_with n a.own.candidates a.y.0 _ more low fits.candidates_within))

pub add_candidate_spec : {M : Type 1} → statement M
add_candidate_spec = tie.close (tie.spec (λ c κs. search rules) (λ c κs. search rules) returns)
