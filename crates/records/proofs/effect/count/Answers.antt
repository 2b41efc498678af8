use mathlib.Core.Path.{sym, ◌∙◌}
use mathlib.Core.Logic.{inl, inr}
use lib.ListN.{length-map}
use Rattle.model.specs.Sets.{of_bits}
use Rattle.model.proofs.Laws.{count_le, length_members}
use Rattle.records.proofs.effect.count.Goals as goal

pub returns-in-Each-clause-value : goal.returns-in-Each-clause-value
returns-in-Each-clause-value c = λ me time own.
    elim c.in-Each.is [
      | inl p ↦ rw p.1 (simp length-map (c.size.ensures.value ∙ sym (length_members 64 (of_bits _))))
      | inr p ↦ rw p (simp length-map (c.size.ensures.value ∙ sym (length_members 64 (of_bits _))))
    ]

pub returns-in-Each-clause-bound : goal.returns-in-Each-clause-bound
returns-in-Each-clause-bound c = rw c.size.ensures.value (count_le 64 (of_bits _))
