use mathlib.Core.Bool.{◌&&◌}
use mathlib.Core.Path.{sym, ap₂, ◌∙◌}
use native.Mathlib.Omega.{arith}
use borrow.Author.Tests.{ne_eqb}
use borrow.Author.Rules.{rules}
use Rattle.model.specs.Words.{decode_table}
use Rattle.valid_nodes.proofs.NodeTests.{size_is}
use Rattle.valid_short.proofs.ShortRegions.{square_high, square_low, rest_reads_lem, wrong_length_lem}
use Rattle.valid_short.proofs.rest_reads.Goals as goal

pub overflow_mul-messages : goal.overflow_mul-messages
overflow_mul-messages c = let h = square_high c.args.n c.requires.bounds.1 in search rules

pub overflow_mul-messages-2 : goal.overflow_mul-messages-2
overflow_mul-messages-2 c = let h = square_high c.args.n c.requires.bounds.1 in search rules

pub overflow_add-messages : goal.overflow_add-messages
overflow_add-messages c = let h = square_high c.args.n c.requires.bounds.1 in search rules

pub overflow_add-messages-2 : goal.overflow_add-messages-2
overflow_add-messages-2 c = let h = square_high c.args.n c.requires.bounds.1 in search rules

pub returns-then-short-messages : goal.returns-then-short-messages
returns-then-short-messages c = record {
  value =
      let a = c.args in
      let ws = a.short.now in
      wrong_length_lem ws a.n a.m c.requires.head.1 c.requires.head.2 c.requires.bounds.1 c.requires.bounds.2
      (ne_eqb _ _ c.if-short-messages.true);
}

pub nodes_read-requires : goal.nodes_read-requires
nodes_read-requires c = record {
  words =
      let a = c.args in
      let ws = a.short.now in
      let long = c.if-short-messages.false in
      let w = square_low a.n c.requires.bounds.0 in
      (omega (arith, long, w), c.requires.bounds.1);
}

pub keys_differ-requires : goal.keys_differ-requires
keys_differ-requires c = record {
  words =
      let a = c.args in
      let ws = a.short.now in
      let long = c.if-short-messages.false in
      let w = square_low a.n c.requires.bounds.0 in
      (omega (arith, long, w), c.requires.bounds.1, c.requires.head.1);
}

pub short_pairs_read-requires : goal.short_pairs_read-requires
short_pairs_read-requires c = record {
  words =
      let a = c.args in
      let ws = a.short.now in
      let long = c.if-short-messages.false in
      (omega (arith, long), c.requires.bounds.0, c.requires.bounds.1);
}

pub messages_read-requires : goal.messages_read-requires
messages_read-requires c = record {
  words =
      let a = c.args in
      let ws = a.short.now in
      let long = c.if-short-messages.false in
      (omega (arith, long), c.requires.bounds.0, c.requires.bounds.1, c.requires.bounds.2);
}

pub returns : goal.returns
returns c = record {
  value =
      let a = c.args in
      let ws = a.short.now in
      let long = c.if-short-messages.false in
      ap₂ ◌&&◌ (ap₂ ◌&&◌ (ap₂ ◌&&◌
      c.nodes_read.ensures.value c.keys_differ.ensures.value) c.short_pairs_read.ensures.value)
      (c.messages_read.ensures.value (decode_table ws) (size_is ws ∙ sym c.requires.head.1))
      ∙ rest_reads_lem ws a.n a.m c.requires.head.1 c.requires.head.2 c.requires.bounds.1 c.requires.bounds.2 c.requires.head.0 long;
}
