use Rattle.valid_messages.proofs.RestTests.{rests_test}
use Rattle.valid_messages.proofs.rests.rests_read.Goals as goal

pub returns : goal.returns
returns c = record {
  value = λ t e.
      rests_test c.args.words.now c.args.base c.of_types-types.result
      c.of_receivers-receivers.result t c.args.n c.args.m c.nothing_wrong.result
      (record { of_types = c.of_types-types.ensures.value; of_receivers = c.of_receivers-receivers.ensures.table })
      e c.requires.words.1 c.nothing_wrong.ensures.small c.nothing_wrong.ensures.value;
}
