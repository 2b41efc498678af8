use mathlib.Core.Path.{◌≡◌}
use Prim.Native.Nat.{◌≤◌}
use lib.ListN.{length}
use Rattle.valid_messages.specs.Parts.{Halves}
use Rattle.valid_messages.proofs.halve.Given as goal

abbrev pub invariant-loop-k : goal.invariant-loop-k
invariant-loop-k l = (l.k ≤ l.count) × (length l.lows ≡ 64) × (length l.highs ≡ 64) × Halves l.words l.base l.from l.lows l.highs l.k
