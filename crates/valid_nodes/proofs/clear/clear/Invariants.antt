use mathlib.Core.Path.{◌≡◌}
use Prim.Native.Nat.{◌+◌, ◌≤◌}
use lib.Dec.{eqb}
use Rattle.valid_nodes.specs.Nodes.{clear}
use Rattle.valid_nodes.proofs.clear.clear.Given as goal

abbrev pub invariant-loop-word : goal.invariant-loop-word
invariant-loop-word l = (l.from + l.word-index ≤ l.to) × (eqb l.met 0 ≡ clear l.words l.from (l.from + l.word-index))
