use Rattle.std.proofs.Common.{◌≡◌, ◌≤◌, eqb}
use Rattle.valid_pairs.specs.Rows.{no_links, no_spares}
use Rattle.valid_pairs.proofs.off_row.Given as goal

abbrev pub invariant-loop-z : goal.invariant-loop-z
invariant-loop-z l = (l.z ≤ l.n) × (eqb l.link 0 ≡ no_links l.words l.z l.x) × (eqb l.spare 0 ≡ no_spares l.words l.z l.x)
