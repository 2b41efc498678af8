-- What was found of the first's nodes below x, by one more search among the second's.
use mathlib.Core.Path.{◌≡◌}
use Prim.Native.Nat.{◌≤◌}
use Rattle.model.specs.Leafset.{size}
use Rattle.model.specs.Sets.{some}
use Rattle.model.specs.Words.{decode_table}
use Rattle.call_join.proofs.Refused.{key_shared}
use Rattle.call_join.proofs.shares_key.Given as goal

abbrev pub invariant-loop-x : goal.invariant-loop-x
invariant-loop-x l = (l.x ≤ l.x-end) × (l.x-end ≡ size (decode_table l.first)) × (l.k ≡ size (decode_table l.second)) ×
    (l.found ≡ some l.x (key_shared l.first l.second))
