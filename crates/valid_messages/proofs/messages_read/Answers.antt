use mathlib.Core.Bool.{◌&&◌}
use mathlib.Core.Path.{ap₂, sym, ◌∙◌}
use Rattle.valid_messages.proofs.MessageTests.{messages_split}
use Rattle.valid_messages.proofs.messages_read.Goals as goal

pub returns : goal.returns
returns c = record {
  value = λ t e.
      ap₂ ◌&&◌ (ap₂ ◌&&◌ (c.firsts_read.ensures.value t e) (c.rests_read.ensures.value t e)) (c.senders_read.ensures.value t e)
      ∙ sym (messages_split c.args.words.now c.args.base t c.args.m);
}
