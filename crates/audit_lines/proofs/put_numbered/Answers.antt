use native.Mathlib.Omega.{arith}
use Rattle.bench_lines.proofs.Puts.{put_more}
use Rattle.audit_lines.proofs.put_numbered.Goals as goal

pub returns : goal.returns
returns c =
    record {
      bytes = put_more c.put_bytes-start.ensures.bytes c.put_number.ensures.bytes;
      end = omega (arith, c.put_bytes-start.ensures.bytes.ends, c.put_number.ensures.end);
    }
