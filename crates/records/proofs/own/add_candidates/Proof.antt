use borrow.Author.Rules.{rules}
use Rattle.sets.proofs.Bits.{or_union, within_union}
use Rattle.records.proofs.own.add_candidates.Statement.{statement}
use Rattle.records.proofs.own.add_candidates.Tie as tie

returns : tie.Need-returns
returns c =
    let start = c.before.before in
    let a = start.args in
    let both = or_union a.own.candidates a.set in
    λ n fits low. rw both at (c.set_candidates.ensures n fits
    (within_union n a.own.candidates a.set _ both low fits.candidates_within))

pub add_candidates_spec : {M : Type 1} → statement M
add_candidates_spec = tie.close (tie.spec (λ c κs. search rules) returns)
