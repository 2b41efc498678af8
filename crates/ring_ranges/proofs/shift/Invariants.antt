use mathlib.Core.Path.{◌≡◌}
use Prim.Native.Nat.{◌+◌, ◌-◌, ◌≤◌}
use lib.ListN.{length, get_or}
use Rattle.ring_ranges.specs.Spans.{Patched}
use Rattle.ring_ranges.proofs.shift.Given as goal

abbrev pub invariant-loop-i : goal.invariant-loop-i
invariant-loop-i l = (l.i ≤ l.i-end) × (l.i-end ≡ length l.initial.part - 5) × (5 ≤ length l.initial.part) × Patched l.initial.part l.part 0 l.i (λ k. get_or l.initial.part (k + 5) 0)
