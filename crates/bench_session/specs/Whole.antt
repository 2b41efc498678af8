-- A whole session: what its chunks print one after the other, beside the definition of the bench.
use Rattle.std.specs.Prelude.{Bool, List, [], ◌∷◌, ◌++◌, ℕ, if◌then◌else◌}
use Rattle.bench_lines.specs.Decimal.{lines_bytes}
use Rattle.model.specs.Ring.{Ring}
use Rattle.model.specs.Bench.{Printed}
use Rattle.bench_report.specs.Report.{groups_bytes}
use Rattle.bench_session.specs.Turns.{Turn, turn}

-- what the chunks print
unfoldable pub turns_bytes : Bool → ℕ → Ring → List (List ℕ) → List ℕ
turns_bytes already k r [] = []
turns_bytes already k r (c ∷ cs) =
    let t : Turn = turn already k r c in
    t.bytes ++ (if t.more then turns_bytes t.opened t.events t.ring cs else [])

abbrev pub group_bytes : List ℕ → List ℕ
group_bytes [] = []
group_bytes (g ∷ gs) = groups_bytes g

-- what the definition of the bench prints
unfoldable pub printed_bytes : Printed → List ℕ
printed_bytes p = lines_bytes p.lines ++ group_bytes p.group
