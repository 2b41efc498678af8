use borrow.Author.Rules.{rules}
use Rattle.model.specs.Steps as steps
use Rattle.sets.proofs.Bits.{within_without}
use Rattle.records.proofs.own.release.Statement.{statement}
use Rattle.records.proofs.own.release.Tie as tie

returns : tie.Need-returns
unfolding steps.release
returns c =
    let start = c.before.before in
    let a = start.args in
    let less = c.before.without.ensures in
    λ n fits. rw less at (c.set_held.ensures n fits (within_without n a.own.held a.z.0 _ less fits.held_within))

pub release_spec : {M : Type 1} → statement M
release_spec = tie.close (tie.spec (λ c κs. search rules) (λ c κs. search rules) returns)
