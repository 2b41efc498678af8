use mathlib.Core.Path.{ap, ◌∙◌}
use mathlib.Core.List.{List}
use Prim.Native.Nat.{ℕ}
use Rattle.model.specs.Reach.{reach_of}
use Rattle.mekvalgs.proofs.Far.{reach_cut}
use Rattle.call_reach.specs.declared.Reached.{Reached}
use Rattle.mekvalgs.proofs.Unwrapped.{reach_numbers}
use Rattle.mekvalgs.proofs.mekvalgs_reach.Goals as goal

pub returns : goal.returns
returns c = record {
  reached =
      let a = c.args in
      let ws : List ℕ = a.words.now in
      let last = c.unwrap_or-last.ensures in
      rw c.number.ensures.answer
      (reach_numbers c.reach-reached.result (c.from.ensures ∙ ap (λ (q : Reached). q.end.0) last) (ap (λ (q : Reached). q.hops) last)
      ∙ c.reach-reached.ensures.reach
      ∙ ap (λ (x : ℕ). reach_of ws x a.key) c.node.ensures.value
      ∙ reach_cut ws a.start a.key);
}
