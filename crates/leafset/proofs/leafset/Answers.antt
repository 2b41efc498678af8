use mathlib.Core.Path.{◌∙◌}
use native.Mathlib.Omega.{arith}
use lib.Bits.{or_lt}
use borrow.Author.Rules.{rules}
use Rattle.sets.proofs.Bits.{or_union}
use Rattle.leafset.proofs.Leaves.{left_low, leafset_all, leafset_near, from_set}
use Rattle.leafset.proofs.leafset.Goals as goal

pub returns-then-size-sides : goal.returns-then-size-sides
returns-then-size-sides c = record {
  value =
      from_set (search rules)
      (leafset_all c.args.sides c.requires.table c.without-left.ensures.members (omega (arith, c.size.ensures.value)));
}

pub near-ahead-requires : goal.near-ahead-requires
near-ahead-requires c =
    record {
      members = left_low c.args.sides c.requires.table c.without-left.ensures.members;
      enough = omega (arith, c.size.ensures.value);
    }

pub near-behind-requires : goal.near-behind-requires
near-behind-requires c =
    record {
      members = left_low c.args.sides c.requires.table c.without-left.ensures.members;
      enough = omega (arith, c.size.ensures.value);
    }

pub returns : goal.returns
returns c = record {
  value =
      from_set (or_lt 64 c.near-ahead.result c.near-behind.result (search rules) (search rules))
      (or_union _ _
      ∙ leafset_near c.args.sides c.requires.table c.without-left.ensures.members
      (omega (arith, c.size.ensures.value)) (rw c.index.ensures.value at c.near-ahead.ensures.members)
      (rw c.index.ensures.value at c.near-behind.ensures.members));
}
