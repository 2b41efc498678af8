use Prim.Native.Nat.{◌+◌, ◌-◌, ◌*◌, ◌≤◌}
use Rattle.model.specs.Structs.{stamp_at}
use Rattle.ring_ranges.specs.Spans.{Patched}
use Rattle.call_screens.specs.Rows.{spare_in}
use Rattle.call_screens.proofs.put_row.Given as goal

abbrev pub invariant-loop-z : goal.invariant-loop-z
invariant-loop-z l =
    (l.z ≤ 64)
    × Patched l.initial.stamps l.stamps (64 * l.x) (64 * l.x + l.z) (λ i. stamp_at l.own (i - 64 * l.x))
    × Patched l.initial.spares l.spares (64 * l.x) (64 * l.x + l.z) (λ i. spare_in l.n l.x l.own (i - 64 * l.x))
