use Rattle.std.proofs.Common.{◌≡◌, ◌+◌, ◌≤◌}
use Rattle.model.specs.Sets.{count}
use Rattle.valid_pairs.specs.Pairs.{run_reads}
use Rattle.valid_pairs.proofs.rows.fitting.Given as goal

abbrev pub invariant-loop-z : goal.invariant-loop-z
invariant-loop-z l =
    (l.from ≤ l.z)
    × (l.z ≤ l.to)
    × (l.fit + l.from ≤ l.z)
    × (count l.from (run_reads l.words l.n l.x l.base) + l.fit ≡ count l.z (run_reads l.words l.n l.x l.base))
