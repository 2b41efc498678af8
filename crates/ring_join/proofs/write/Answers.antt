-- The first's words, then all messages, then all nodes: what is copied encodes the first ring.
use mathlib.Core.Path.{sym, ◌∙◌}
use native.Mathlib.Omega.{arith}
use Rattle.model.proofs.Words.{reads_out}
use Rattle.model.specs.Words.{decode}
use Rattle.ring_head.proofs.ReadRing.{read_is}
use borrow.Author.Rules.{rules}
use Rattle.ring_join.proofs.write.Goals as goal

pub nodes-n-requires : goal.nodes-n-requires
nodes-n-requires c = record { length = (reads_out _ c.requires.rings.0).long }

pub nodes-k-requires : goal.nodes-k-requires
nodes-k-requires c = record { length = (reads_out _ c.requires.rings.1).long }

pub copy_from_slice-requires : goal.copy_from_slice-requires
copy_from_slice-requires c = c.requires.rings.2 ∙ sym (reads_out _ c.requires.rings.0).long

pub messages-requires : goal.messages-requires
messages-requires c = record { length = (reads_out _ c.requires.rings.0).long }

pub add_nodes-requires : goal.add_nodes-requires
add_nodes-requires c = record {
  second = (
    search rules,
    record {
      reads = c.requires.rings.1;
      nodes = c.nodes-k.ensures.value;
      room = omega (arith, c.nodes-n.ensures.value, c.nodes-k.ensures.value, c.requires.room.0);
    },
  );
}

pub returns : goal.returns
returns c = record {
  words =
      c.add_nodes.ensures.words c.args.first.now _ c.nodes-n.ensures.value (omega (arith, c.messages.ensures.value, c.requires.room.1))
      (c.append_messages.ensures.ring (decode c.args.first.now) _
      (rw c.copy_from_slice.ensures.after (read_is c.args.first.now c.requires.rings.0 _ _ c.nodes-n.ensures.value c.messages.ensures.value)));
}
