use Rattle.valid_nodes.proofs.Formats.{head_tests}
use Rattle.valid_nodes.proofs.head.head_reads.Goals as goal

pub returns : goal.returns
returns c = record {
  value =
      rw (c.sides_fit.ensures.value, c.sides-sides.ensures.value, c.nodes-n.ensures.value, c.messages-m.ensures.value)
      (head_tests c.args.w);
}
