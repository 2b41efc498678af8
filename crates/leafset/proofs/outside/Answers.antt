use mathlib.Core.Path.{ap, ◌∙◌}
use mathlib.Core.Bool.{not, ◌&&◌}
use Rattle.model.specs.Sets.{Set, of_bits}
use Rattle.leafset.proofs.Leaves.{leafset_back}
use Rattle.leafset.proofs.outside.Goals as goal

pub returns : goal.returns
returns c = record {
  members =
      let a = c.args in
      c.minus.ensures.members ∙ ap {B = Set} (λ (S : Set). λ z. of_bits a.held z && not (S z)) (leafset_back a.sides c.requires.table c.leafset.ensures.value);
}
