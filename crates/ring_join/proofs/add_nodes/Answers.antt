-- Each stage says which words it left: by place they are those of the join.
use Rattle.ring_join.proofs.Rows.{second_long}
use Rattle.ring_join.proofs.Join.{nodes_joined}
use borrow.Author.Rules.{rules}
use Rattle.ring_join.proofs.add_nodes.Goals as goal

pub copy_nodes-requires : goal.copy_nodes-requires
copy_nodes-requires c = record { words = (search rules, second_long c.requires.second.1, c.requires.second.1.room) }

pub returns : goal.returns
returns c = record {
  words =
      λ first m size few is.
      nodes_joined first c.args.second.now _ _ _ _ _ _ _ m c.requires.second.1 size few is
      c.set_nodes.ensures.words c.copy_nodes.ensures.value c.clear_across.ensures.rows c.write_rows.ensures.rows;
}
