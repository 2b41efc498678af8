-- What the bench prints of a ring at the end, as bytes.
use Rattle.std.specs.Prelude.{ℕ, List, [], ◌∷◌, ◌++◌}
use Rattle.bench_lines.specs.Decimal.{decimal, spaced, newline, lines_bytes}
use Rattle.model.specs.Sets.{tabulate}
use Rattle.model.specs.Leafset.{size, key}
use Rattle.model.specs.Fields.{bit}
use Rattle.model.specs.Ring.{Ring}
use Rattle.model.specs.Connection.{groups}
use Rattle.model.specs.Bench.{node_line}

-- the numbers of a node's line before the held
unfoldable pub state_bytes : Ring → ℕ → List ℕ
state_bytes r x = decimal x ++ spaced (key r.table x ∷ bit (r.node x).running ∷ (r.node x).clock ∷ [])

-- "groups" in ASCII
abbrev pub groups_word : List ℕ
groups_word = 103 ∷ 114 ∷ 111 ∷ 117 ∷ 112 ∷ 115 ∷ []

-- `Last, "groups" and the number of connected groups of running stands`
unfoldable pub groups_bytes : ℕ → List ℕ
groups_bytes g = groups_word ++ spaced (g ∷ []) ++ newline ∷ []

-- "Then per stand: number, key, running, clock, count held, the held in rising order." And the groups
unfoldable pub end_bytes : Ring → List ℕ
end_bytes r = lines_bytes (tabulate (size r.table) (node_line r)) ++ groups_bytes (groups r)
