use native.Mathlib.Omega.{arith}
use Rattle.bench_lines.proofs.Puts.{put_as, put_more}
use Rattle.audit_lines.proofs.Lines.{event_line}
use Rattle.audit_lines.proofs.put_event.Goals as goal

pub returns : goal.returns
returns c =
    let event = put_more (put_more c.put_number-first.ensures.bytes c.put_byte-second.ensures.bytes) c.put_word-third.ensures.bytes in record {
      bytes = λ r s. put_as (put_more event (c.put_answered.ensures.bytes r s)) (event_line _ _ _ r);
      end = omega (arith, c.put_number-first.ensures.end, c.put_byte-second.ensures.bytes.ends, c.put_word-third.ensures.end, c.put_answered.ensures.end);
    }
