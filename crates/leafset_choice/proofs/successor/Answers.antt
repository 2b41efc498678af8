use Rattle.std.specs.Prelude.{Option, None, Some, IfSome}
use mathlib.Core.Path.{◌≡◌}
use mathlib.Core.Bool.{true}
use Prim.Native.Nat.{ℕ}
use Rattle.model.specs.Sets.{Set}
use Rattle.model.specs.declared.values.NodeNumber.{NodeNumber}
use Rattle.leafset_nearest.specs.Span.{Nearest}
use Rattle.leafset_nearest.proofs.Pick.{found_number}
use Rattle.leafset_choice.proofs.Choices.{successor_found}
use Rattle.leafset_choice.proofs.successor.Goals as goal

member_of : (S : Set) (m : ℕ → ℕ) (r : Option NodeNumber) → Nearest S m r → IfSome r (λ y. S y.0 ≡ true)
member_of S m None f = tt
member_of S m (Some b) l = l.member

pub returns : goal.returns
returns c =
    let f = rw c.index.ensures.value at c.nearest.ensures.nearest in
    record {
      value = λ sides. successor_found sides _ _ _ c.requires.table.within (found_number c.nearest.result f);
      member = member_of _ _ c.nearest.result f;
    }
