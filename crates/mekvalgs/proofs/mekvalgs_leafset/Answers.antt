use mathlib.Core.Path.{ap, ◌∙◌}
use mathlib.Core.List.{List}
use Prim.Native.Nat.{ℕ}
use Rattle.model.specs.Questions.{leafset_answer, leafset_of}
use Rattle.mekvalgs.proofs.Unwrapped.{unwrapped}
use Rattle.mekvalgs.proofs.Far.{leafset_cut, leafset_of_cut}
use Rattle.mekvalgs.proofs.mekvalgs_leafset.Goals as goal

pub returns : goal.returns
returns c =
    let ws : List ℕ = c.args.words.now in
    let x : ℕ = c.args.x in
    record {
      answer = c.number.ensures.answer ∙ c.leafset_of-asked.ensures.answer ∙ ap (leafset_answer ws) c.node.ensures.value ∙ leafset_cut ws x;
      set = c.unwrap_or.ensures ∙ unwrapped c.leafset_of-asked.result 0 ∙ c.leafset_of-asked.ensures.set ∙ ap (leafset_of ws) c.node.ensures.value
          ∙ leafset_of_cut ws x;
    }
