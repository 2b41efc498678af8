use Prim.Native.Nat.{ℕ}
use lib.ListN.{get_or}
use Rattle.model.specs.Sets.{some}
use Rattle.sets.proofs.Collect.{Collecting}
use Rattle.audit_parting.proofs.Tearing.{lost}
use Rattle.audit_parting.proofs.torn.Given as goal

abbrev pub invariant-loop-x : goal.invariant-loop-x
invariant-loop-x l =
    Collecting 64 l.running (λ (x : ℕ). some 64 (lost (get_or l.old x 0) (get_or l.new x 0) l.running)) l.torn l.x-iterator.rest
