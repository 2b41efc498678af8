use native.Mathlib.Omega.{arith}
use Rattle.bench_lines.proofs.Puts.{put_as, put_more}
use Rattle.audit_lines.proofs.Lines.{state_line_lem}
use Rattle.audit_lines.proofs.put_state.Goals as goal

pub returns : goal.returns
returns c =
    let all = put_more (put_more (put_more c.put_numbered-first.ensures.bytes c.put_numbered-second.ensures.bytes) c.put_numbered-third.ensures.bytes)
    c.put_byte.ensures.bytes in
    record {
      bytes = λ r s. put_as all (state_line_lem r _ s);
      end = omega (arith, c.put_numbered-first.ensures.end, c.put_numbered-second.ensures.end, c.put_numbered-third.ensures.end, c.put_byte.ensures.bytes.ends);
    }
