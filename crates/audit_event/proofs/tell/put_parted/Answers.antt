use native.Mathlib.Omega.{arith}
use Rattle.bench_lines.proofs.Puts.{put_as, put_more}
use Rattle.audit_event.proofs.Tells.{parted_line}
use Rattle.audit_event.proofs.tell.put_parted.Goals as goal

pub returns : goal.returns
returns c =
    record {
      bytes = λ r r' a is n. put_as (put_more (put_more (put_more c.put_numbered-first.ensures.bytes c.put_byte-second.ensures.bytes)
          (c.put_sides-third.ensures.bytes r r' a is n)) c.put_byte.ensures.bytes) (parted_line _ r r' n);
      end = omega (arith, c.put_numbered-first.ensures.end, c.put_byte-second.ensures.bytes.ends, c.put_sides-third.ensures.end, c.put_byte.ensures.bytes.ends);
    }
