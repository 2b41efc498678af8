use Rattle.std.proofs.Common.{◌≡◌, ◌+◌, ◌-◌, ◌*◌, ◌≤◌}
use Rattle.model.specs.Sets.{all}
use Rattle.valid_pairs.specs.Pairs.{short_pair_reads}
use Rattle.valid_pairs.proofs.short.short_pairs_read.Given as goal

abbrev pub invariant-loop-x : goal.invariant-loop-x
invariant-loop-x l = (l.x ≤ l.n) × (l.row ≡ 1 + 2 * l.n + 2 * ((l.n - 1) * l.x)) × (l.ok ≡ all l.x (λ y. all l.n (short_pair_reads l.words l.n y)))
