-- The row's spans: across, then those below and above y.
use mathlib.Core.Path.{◌∙◌}
use native.Mathlib.Omega.{arith}
use Rattle.model.specs.Words.{decode_own}
use Rattle.ring_join.proofs.Rows.{row_raised}
use borrow.Author.Rules.{rules}
use Rattle.ring_join.proofs.pairs.write_row.Goals as goal

pub clear-requires : goal.clear-requires
clear-requires c = record {
  words = (
    c.requires.second.0,
    omega (arith, c.requires.second.1.room, c.requires.second.2),
    search rules,
    omega (arith, c.requires.second.1.room),
  );
}

pub raise_pairs-requires : goal.raise_pairs-requires
raise_pairs-requires c =
    record {
      second = (c.clear.ensures.value.long ∙ c.requires.second.0, c.requires.second.1);
      bounds = (c.requires.second.2, search rules, search rules, λ z h g e. absurd (omega arith));
    }

pub raise_pairs-requires-2 : goal.raise_pairs-requires-2
raise_pairs-requires-2 c =
    let long = c.raise_pairs.ensures.value.long ∙ c.clear.ensures.value.long ∙ c.requires.second.0 in
    record {
      second = (long, c.requires.second.1);
      bounds = (c.requires.second.2, search rules, search rules, λ z h g e. absurd (omega arith));
    }

pub shape_of-joined : goal.shape_of-joined
shape_of-joined c =
    c.raise_pairs-2.ensures.value.long ∙ c.raise_pairs.ensures.value.long ∙ c.clear.ensures.value.long

pub returns : goal.returns
returns c = record {
  row =
      row_raised _ _ _ _ _ _ _ (decode_own c.args.second.now c.args.y) c.requires.second.1.room c.requires.second.2
      c.clear.ensures.value c.raise_pairs.ensures.value c.raise_pairs-2.ensures.value;
}
