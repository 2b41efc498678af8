use Rattle.std.proofs.Common.{◌≡◌, ◌≤◌}
use Rattle.model.specs.Sets.{all}
use Rattle.valid_pairs.specs.Pairs.{row_reads}
use Rattle.valid_pairs.proofs.pairs_read.Given as goal

abbrev pub invariant-loop-x : goal.invariant-loop-x
invariant-loop-x l = (l.x ≤ l.n) × (l.ok ≡ all l.x (row_reads l.words l.n))
