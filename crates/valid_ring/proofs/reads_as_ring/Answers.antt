use mathlib.Core.Bool.{◌&&◌}
use mathlib.Core.Path.{ap, ap₂, sym, ◌∙◌}
use Prim.Native.Nat.{ℕ}
use native.Mathlib.Omega.{arith}
use Rattle.model.specs.Words.{at, node_place, message_place, decode_table, ring_length}
use Rattle.valid_nodes.specs.Nodes.{clear, nodes_read}
use Rattle.valid_pairs.specs.Pairs.{pairs_read}
use Rattle.valid_messages.specs.Messages.{messages_read}
use Rattle.valid_nodes.proofs.NodeTests.{size_is}
use Rattle.valid_ring.proofs.Regions.{head_ranges, head_fails, after_head}
use Rattle.valid_ring.proofs.reads_as_ring.Goals as goal

pub returns-then-not-head_reads : goal.returns-then-not-head_reads
returns-then-not-head_reads c = record {
  value =
      head_fails c.args.words.now c.requires.length
      (sym c.head_reads.ensures.value ∙ c.if-not-head_reads.true);
}

pub nodes_read-requires : goal.nodes_read-requires
nodes_read-requires c = record {
  words =
      let h = head_ranges (at c.args.words.now 0) (sym c.head_reads.ensures.value ∙ c.if-not-head_reads.false) in
      (omega (arith, c.requires.length), omega arith);
}

pub keys_differ-requires : goal.keys_differ-requires
keys_differ-requires c = record {
  words =
      let h = head_ranges (at c.args.words.now 0) (sym c.head_reads.ensures.value ∙ c.if-not-head_reads.false) in
      (omega (arith, c.requires.length), omega arith, c.nodes-n.ensures.value);
}

pub pairs_read-requires : goal.pairs_read-requires
pairs_read-requires c =
    let h = head_ranges (at c.args.words.now 0) (sym c.head_reads.ensures.value ∙ c.if-not-head_reads.false) in
    record {
      length = c.requires.length;
      bounds = omega arith;
    }

pub messages_read-requires : goal.messages_read-requires
messages_read-requires c = record {
  words =
      let h = head_ranges (at c.args.words.now 0) (sym c.head_reads.ensures.value ∙ c.if-not-head_reads.false) in
      (omega (arith, c.requires.length, h, c.messages-m.ensures.value), omega arith, omega arith, omega arith);
}

pub clear-requires : goal.clear-requires
clear-requires c = record {
  words =
      let h = head_ranges (at c.args.words.now 0) (sym c.head_reads.ensures.value ∙ c.if-not-head_reads.false) in
      (c.requires.length, omega (arith, h, c.messages-m.ensures.value), omega arith);
}

pub clear-requires-2 : goal.clear-requires-2
clear-requires-2 c = record {
  words =
      let h = head_ranges (at c.args.words.now 0) (sym c.head_reads.ensures.value ∙ c.if-not-head_reads.false) in
      (c.requires.length, omega (arith, h, c.nodes-n.ensures.value), omega arith);
}

pub returns : goal.returns
returns c = record {
  value =
      let ws = c.args.words.now in
      ap₂ ◌&&◌ (ap₂ ◌&&◌ (ap₂ ◌&&◌ (ap₂ ◌&&◌ (ap₂ ◌&&◌
      (c.nodes_read.ensures.value ∙ ap (nodes_read ws) c.nodes-n.ensures.value)
      c.keys_differ.ensures.value)
      (c.pairs_read.ensures.value ∙ ap (pairs_read ws) c.nodes-n.ensures.value))
      (c.messages_read.ensures.value (decode_table ws) (size_is ws ∙ sym c.nodes-n.ensures.value)
      ∙ ap (messages_read ws 8321 (decode_table ws)) c.messages-m.ensures.value))
      (c.clear.ensures.value ∙ ap (λ (m : ℕ). clear ws (message_place m) ring_length) c.messages-m.ensures.value))
      (c.clear-2.ensures.value ∙ ap (λ (n : ℕ). clear ws (node_place n) 129) c.nodes-n.ensures.value)
      ∙ after_head ws c.requires.length (sym c.head_reads.ensures.value ∙ c.if-not-head_reads.false);
}
