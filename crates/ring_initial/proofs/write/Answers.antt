use mathlib.Core.Path.{◌∙◌}
use lib.ListN.{length-set}
use Rattle.model.specs.Structs.{table_of, any_sides}
use Rattle.ring_initial.proofs.Opening.{opened}
use Rattle.ring_initial.proofs.write.Goals as goal

pub write_nodes-requires : goal.write_nodes-requires
write_nodes-requires c = record { words = (simp length-set (c.clear.ensures.value.long ∙ c.requires.words.0), c.requires.words.2, c.requires.words.3) }

pub write_pairs-requires : goal.write_pairs-requires
write_pairs-requires c =
    record {
      length = (c.write_nodes.ensures.value any_sides).long ∙ simp length-set (c.clear.ensures.value.long ∙ c.requires.words.0);
      bounds = c.requires.words.2;
    }

pub shape_of-words : goal.shape_of-words
shape_of-words c =
    c.write_pairs.ensures.value.long
    ∙ (c.write_nodes.ensures.value any_sides).long
    ∙ simp length-set c.clear.ensures.value.long

pub returns : goal.returns
returns c = record {
  words =
      opened (table_of c.args.sides c.args.keys.now) c.requires.words.2 _ _ _ _ _ c.requires.words.0
      c.clear.ensures.value c.new.ensures.value
      (c.write_nodes.ensures.value c.args.sides) c.write_pairs.ensures.value;
}
