-- In each arm the event is known, and what is put is its text.
use mathlib.Core.Path.{sym, ap}
use Rattle.bench_lines.proofs.Puts.{put_as}
use Rattle.text_form.specs.Describe.{event_text}
use Rattle.text_event.proofs.put_event.Goals as goal

pub returns-in-On : goal.returns-in-On
unfolding event_text
returns-in-On c =
    record {
      bytes = put_as (rw c.from.ensures at c.put_one.ensures.bytes) (ap event_text (sym c.in-On.is));
      end = c.put_one.ensures.end;
    }

pub returns-in-Off : goal.returns-in-Off
unfolding event_text
returns-in-Off c =
    record {
      bytes = put_as c.put_off.ensures.bytes (ap event_text (sym c.in-Off.is));
      end = c.put_off.ensures.end;
    }

pub returns-in-Notice : goal.returns-in-Notice
unfolding event_text
returns-in-Notice c =
    record {
      bytes = put_as c.put_two.ensures.bytes (ap event_text (sym c.in-Notice.is));
      end = c.put_two.ensures.end;
    }

pub returns-in-Contact : goal.returns-in-Contact
unfolding event_text
returns-in-Contact c =
    record {
      bytes = put_as c.put_two-in-Contact.ensures.bytes (ap event_text (sym c.in-Contact.is));
      end = c.put_two-in-Contact.ensures.end;
    }

pub returns-in-Timer : goal.returns-in-Timer
unfolding event_text
returns-in-Timer c =
    record {
      bytes = put_as c.put_timer.ensures.bytes (ap event_text (sym c.in-Timer.is));
      end = c.put_timer.ensures.end;
    }

pub returns-in-Deliver : goal.returns-in-Deliver
unfolding event_text
returns-in-Deliver c =
    record {
      bytes = put_as c.put_deliver.ensures.bytes (ap event_text (sym c.in-Deliver.is));
      end = c.put_deliver.ensures.end;
    }

pub returns-in-Lose : goal.returns-in-Lose
unfolding event_text
returns-in-Lose c =
    record {
      bytes = put_as c.put_one-in-Lose.ensures.bytes (ap event_text (sym c.in-Lose.is));
      end = c.put_one-in-Lose.ensures.end;
    }
