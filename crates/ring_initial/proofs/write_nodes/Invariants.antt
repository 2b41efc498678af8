use mathlib.Core.Path.{◌≡◌}
use Prim.Native.Nat.{◌≤◌}
use lib.ListN.{length}
use Rattle.model.specs.Ring.{initial}
use Rattle.model.specs.Words.{node_place, word_at}
use Rattle.model.specs.Structs.{table_of}
use Rattle.model.specs.declared.values.Sides.{Sides}
use Rattle.ring_ranges.specs.Spans.{Patched}
use Rattle.ring_initial.proofs.write_nodes.Given as goal

abbrev pub invariant-loop-s : goal.invariant-loop-s
invariant-loop-s l =
    (l.s ≤ length l.keys)
    × (length l.words ≡ 13441)
    × ((sides : Sides) → Patched l.initial.words l.words (node_place 0) (node_place l.s) (word_at (initial (table_of sides l.keys))))
