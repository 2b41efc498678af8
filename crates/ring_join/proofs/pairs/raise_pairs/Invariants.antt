-- The pairs of y with the second's nodes from a up to z, each copied, its spare raised.
use mathlib.Core.Path.{◌≡◌}
use Prim.Native.Nat.{◌+◌, ◌≤◌}
use lib.ListN.{length}
use Rattle.model.specs.Words.{decode_own}
use Rattle.model.specs.Join.{raised_own}
use Rattle.ring_pairs.specs.Stored.{Stored}
use Rattle.ring_join.proofs.pairs.raise_pairs.Given as goal

abbrev pub invariant-loop-z : goal.invariant-loop-z
invariant-loop-z l =
    (l.a ≤ l.z) × (l.z ≤ l.b) × Stored l.initial.joined l.joined (l.n + l.y) (l.n + l.a) (l.n + l.z) (raised_own l.n (decode_own l.second l.y))
    × (l.n + l.k ≤ 64) × (length l.second ≡ 13441) × (length l.joined ≡ 13441)
