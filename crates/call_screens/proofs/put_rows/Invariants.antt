use Prim.Native.Nat.{◌*◌, ◌≤◌}
use lib.ListN.{length, replicate}
use Rattle.model.specs.Sets.{to_bits}
use Rattle.model.specs.Words.{decode}
use Rattle.model.specs.Screens.{seen, shown_leafset, of_pair_at}
use Rattle.ring_ranges.specs.Spans.{Patched}
use Rattle.call_screens.proofs.put_rows.Given as goal

abbrev pub invariant-loop-x : goal.invariant-loop-x
invariant-loop-x l =
    (l.x ≤ length l.keys)
    × Patched (replicate 64 0) l.leafsets 0 l.x (shown_leafset (seen (decode l.words)))
    × Patched (replicate 64 0) l.candidates 0 l.x (λ xx. to_bits 64 ((decode l.words).node xx).own.candidates)
    × Patched l.initial.stamps l.stamps 0 (64 * l.x) (of_pair_at (decode l.words) (λ o. o.commit))
    × Patched l.initial.spares l.spares 0 (64 * l.x) (of_pair_at (decode l.words) (λ o. o.spare))
