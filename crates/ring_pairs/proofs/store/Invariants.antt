use mathlib.Core.Path.{◌≡◌}
use Prim.Native.Nat.{◌/◌, ◌^◌, ◌≤◌}
use Rattle.model.specs.Structs.{own_of}
use Rattle.ring_pairs.specs.Stored.{Stored}
use Rattle.ring_pairs.proofs.store.Given as goal

abbrev pub invariant-loop-z : goal.invariant-loop-z
invariant-loop-z l = (l.a ≤ l.z) × (l.z ≤ l.b) × Stored l.initial.words l.words l.x l.a l.z (own_of l.own) × (l.held ≡ l.own.held / 2 ^ l.z) ×
    (l.candidates ≡ l.own.candidates / 2 ^ l.z)
