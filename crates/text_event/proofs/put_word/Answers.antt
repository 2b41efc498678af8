use mathlib.Core.Path.{sym, ◌∙◌}
use Rattle.bench_lines.proofs.Puts.{put_as}
use Rattle.text_event.proofs.Texts.{as_event, as_digits}
use Rattle.text_event.proofs.put_word.Goals as goal

pub returns-then-is_event : goal.returns-then-is_event
returns-then-is_event c =
    let is_event = sym c.is_event.ensures.value ∙ c.if-is_event.true in
    record {
      bytes = put_as c.put_event.ensures.bytes (as_event _ _ is_event c.event.ensures.value);
      end = c.put_event.ensures.end;
    }

pub returns : goal.returns
returns c =
    let no_event = sym c.is_event.ensures.value ∙ c.if-is_event.false in
    record {
      bytes = put_as c.put_raw.ensures.bytes (as_digits _ no_event);
      end = c.put_raw.ensures.end;
    }
