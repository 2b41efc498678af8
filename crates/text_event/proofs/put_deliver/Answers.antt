-- By the test of the echo.
use Rattle.text_form.specs.Describe.{event_text}
use Rattle.text_event.proofs.put_deliver.Goals as goal

pub returns-then-echo : goal.returns-then-echo
unfolding event_text
returns-then-echo c =
    record {
      bytes = rw c.if-echo.true c.put_one.ensures.bytes;
      end = c.put_one.ensures.end;
    }

pub returns : goal.returns
unfolding event_text
returns c =
    record {
      bytes = rw c.if-echo.false c.put_one-2.ensures.bytes;
      end = c.put_one-2.ensures.end;
    }
