use native.Mathlib.Omega.{arith}
use Rattle.bench_lines.proofs.Puts.{put_as, put_more}
use Rattle.audit_lines.proofs.Lines.{entry_line}
use Rattle.audit_lines.proofs.put_entry.Goals as goal

pub returns : goal.returns
returns c =
    let all = put_more (put_more (put_more c.put_numbered-first.ensures.bytes c.put_byte-second.ensures.bytes) c.put_word-third.ensures.bytes)
    c.put_byte.ensures.bytes in
    record {
      bytes = put_as all (entry_line _);
      end = omega (arith, c.put_numbered-first.ensures.end, c.put_byte-second.ensures.bytes.ends, c.put_word-third.ensures.end, c.put_byte.ensures.bytes.ends);
    }
