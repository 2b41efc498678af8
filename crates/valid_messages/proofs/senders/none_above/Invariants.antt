use mathlib.Core.Path.{◌≡◌}
use Prim.Native.Nat.{◌≤◌}
use lib.Dec.{leb}
use lib.ListN.{get_or}
use Rattle.model.specs.Sets.{all}
use Rattle.valid_messages.proofs.senders.none_above.Given as goal

abbrev pub invariant-loop-count : goal.invariant-loop-count
invariant-loop-count l = (l.count-index ≤ l.n) × (l.ok ≡ all l.count-index (λ y. leb (get_or l.counts y 0) l.most))
