use Rattle.leafset_choice.proofs.Choices.{passes_found, passes_none}
use Rattle.leafset_choice.proofs.passes_zero.Goals as goal

pub returns-in_default : goal.returns-in_default
returns-in_default c = record {
  value = λ sides. passes_none sides _ _ _ c.requires.table.few c.requires.table.within c.successor.result c.in_default.not-Some
      (c.successor.ensures.value sides);
}

pub bounds-keys-index-2 : goal.bounds-keys-index-2
bounds-keys-index-2 c = rw c.index-2.ensures.value (c.requires.table.within _ c.in-Some.ensures.member)

pub returns : goal.returns
returns c = record {
  value =
      λ sides. passes_found sides _ _ _ (_, c.requires.table.within _ c.in-Some.ensures.member, c.in-Some.ensures.member) _ _ _ (c.in-Some.ensures.value sides)
      (rw c.index.ensures.value at c.clockwise.ensures.value) (rw (c.index.ensures.value, c.index-2.ensures.value) at c.clockwise-2.ensures.value);
}
