use mathlib.Core.Path.{ap, ◌∙◌}
use native.Mathlib.Omega.{arith}
use Rattle.std.specs.Prelude.{if◌then◌else◌}
use mathlib.Core.Bool.{Bool}
use Rattle.word_ring.proofs.Bytes.{byte_is, byte_small}
use Rattle.ring_messages.proofs.Sent.{sent_before_first, sent_before_next, sent_before_few, sent_before_last}
use Rattle.ring_messages.proofs.sent_by.Goals as goal

pub loop-k-init : goal.loop-k-init
loop-k-init c = sent_before_first _ _

pub bounds-words-k : goal.bounds-words-k
bounds-words-k c = omega (arith, c.requires.words.0, c.requires.words.1)

pub overflow_add-sent : goal.overflow_add-sent
overflow_add-sent c =
    omega (arith, byte_small c.eq.result, sent_before_few _ _ c.loop-k.invariant, c.requires.words.1)

pub loop-k-preserved : goal.loop-k-preserved
loop-k-preserved c =
    sent_before_next _ _ c.loop-k.invariant (omega (arith, c.requires.words.2)) c.sender-sender.ensures.value
    (c.from-sent.ensures ∙ byte_is c.eq.result ∙ ap (λ (b : Bool). if b then 1 else 0) c.eq.ensures)

pub returns : goal.returns
returns c =
    let counted = c.loop-k.invariant in
    record {
      value = sent_before_last _ _ counted (omega (arith, counted.within, c.requires.words.2));
      bound = omega (arith, sent_before_few _ _ counted, counted.within, c.requires.words.2);
    }
