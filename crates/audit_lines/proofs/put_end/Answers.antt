use native.Mathlib.Omega.{arith}
use Rattle.bench_lines.proofs.Puts.{put_as, put_more}
use Rattle.audit_lines.proofs.Lines.{never_line, parted_line}
use Rattle.audit_lines.proofs.put_end.Goals as goal

pub returns-then-account-eq0 : goal.returns-then-account-eq0
returns-then-account-eq0 c =
    record {
      bytes = put_as c.put_bytes.ensures.bytes (never_line _ c.if-account-eq0.true);
      end = omega (arith, c.put_bytes.ensures.bytes.ends);
    }

pub returns : goal.returns
returns c =
    let all = put_more (put_more (put_more (put_more c.put_numbered-first.ensures.bytes c.put_numbered-second.ensures.bytes)
    c.put_numbered-third.ensures.bytes) c.put_numbered-fourth.ensures.bytes) c.put_byte.ensures.bytes in record {
      bytes = put_as all (parted_line _ c.if-account-eq0.false);
      end = omega (
        arith,
        c.put_numbered-first.ensures.end,
        c.put_numbered-second.ensures.end,
        c.put_numbered-third.ensures.end,
        c.put_numbered-fourth.ensures.end,
        c.put_byte.ensures.bytes.ends,
      );
    }
