use native.Mathlib.Omega.{arith}
use lib.ListN.{length-take}
use borrow.Author.Rules.{rules}
use Rattle.bench_session.proofs.Sessions.{still_ready, ready_within}
use Rattle.test_vectors.proofs.compare.Goals as goal

pub loop-preserved : goal.loop-preserved
loop-preserved g c =
    let i = c.loop.invariant in
    let still = still_ready _ _ _ _ (simp length-take (omega arith)) c.in_ok-next.ensures.turn _ i.1.few in
    (search rules, ready_within still (omega arith), search rules, search rules, search rules)
