use Rattle.ring_pairs.proofs.Loads.{Loading}
use Rattle.ring_pairs.proofs.load.Given as goal

abbrev pub invariant-loop-z : goal.invariant-loop-z
invariant-loop-z l = Loading l.words l.n l.me l.z l.held l.candidates l.spare l.commit
