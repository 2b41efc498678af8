use native.Mathlib.Omega.{arith}
use lib.ListN.{length-take}
use borrow.Author.Rules.{rules}
use Rattle.audit_session.specs.Sessions.{standing_of}
use Rattle.audit_session.proofs.Beginning.{still_ready, ready_first, ready_within}
use Rattle.audit.proofs.run.Goals as goal

pub loop-init : goal.loop-init
loop-init g c = (search rules, ready_first c.new-session.ensures.session c.requires.words, c.requires.room.0, c.requires.room.1)

pub loop-preserved : goal.loop-preserved
unfolding standing_of
loop-preserved g c =
    let i = c.loop.invariant in
    let still =
    still_ready _ (standing_of c.loop.words c.loop.session.log) _ (simp length-take (omega arith))
    c.in_ok-next.ensures.turn _ i.1.few in
    (search rules, ready_within still (omega arith), search rules, search rules)
