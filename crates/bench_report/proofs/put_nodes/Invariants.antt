use Prim.Native.Nat.{◌+◌, ◌*◌, ◌≤◌}
use Rattle.bench_lines.specs.Decimal.{lines_bytes}
use Rattle.bench_lines.specs.Put.{Put}
use Rattle.model.specs.Sets.{tabulate}
use Rattle.model.specs.Words.{decode}
use Rattle.model.specs.Bench.{node_line}
use Rattle.bench_report.proofs.put_nodes.Given as goal

abbrev pub invariant-loop-x : goal.invariant-loop-x
invariant-loop-x l = (l.x ≤ l.n) × (l.end ≤ l.at + 1450 * l.x) × Put l.initial.out l.out l.at l.end (lines_bytes (tabulate l.x (node_line (decode l.words))))
