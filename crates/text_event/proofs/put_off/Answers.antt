use Rattle.text_form.specs.Describe.{event_text}
use Rattle.text_event.proofs.put_off.Goals as goal

pub returns-then-polite : goal.returns-then-polite
unfolding event_text
returns-then-polite c =
    record {
      bytes = rw c.if-polite.true (rw c.from.ensures at c.put_one.ensures.bytes);
      end = c.put_one.ensures.end;
    }

pub returns : goal.returns
unfolding event_text
returns c =
    record {
      bytes = rw c.if-polite.false (rw c.from-2.ensures at c.put_one-2.ensures.bytes);
      end = c.put_one-2.ensures.end;
    }
