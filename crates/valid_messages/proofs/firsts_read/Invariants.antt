use mathlib.Core.Path.{◌≡◌}
use Prim.Native.Nat.{min, ◌-◌}
use Rattle.model.specs.Leafset.{Table, size}
use Rattle.model.specs.Sets.{all}
use Rattle.valid_messages.specs.Parts.{first_reads}
use Rattle.valid_messages.proofs.firsts_read.Given as goal

abbrev pub invariant-loop-from : goal.invariant-loop-from
invariant-loop-from l = (t : Table) → size t ≡ l.n → l.ok ≡ all (min l.from l.m) (first_reads l.words l.base t)

abbrev pub decreases-loop-from : goal.decreases-loop-from
decreases-loop-from l = l.m - l.from
