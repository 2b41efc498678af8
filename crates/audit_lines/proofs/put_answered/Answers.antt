use native.Mathlib.Omega.{arith}
use Rattle.bench_lines.proofs.Puts.{put_more}
use Rattle.audit_lines.proofs.put_answered.Goals as goal

pub returns : goal.returns
returns c =
    record {
      bytes = λ r s. put_more (put_more c.put_bytes-first.ensures.bytes c.put_answer-second.ensures.bytes) (c.put_state.ensures.bytes r s);
      end = omega (arith, c.put_bytes-first.ensures.bytes.ends, c.put_answer-second.ensures.end, c.put_state.ensures.end);
    }
