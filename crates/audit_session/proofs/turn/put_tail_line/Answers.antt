use native.Mathlib.Omega.{arith}
use Rattle.bench_lines.proofs.Puts.{put_as, put_more}
use Rattle.audit_session.proofs.Turning.{tail_line_lem}
use Rattle.audit_session.proofs.turn.put_tail_line.Goals as goal

pub returns : goal.returns
returns c =
    record {
      bytes = λ s sees e.
          put_as (put_more (put_more (put_more c.put_number-first.ensures.bytes c.put_bytes-second.ensures.bytes) c.put_hex-third.ensures.bytes)
          (c.put_answered.ensures.bytes s.ring sees)) (tail_line_lem s _ c.requires.room.2 e);
      end = omega (
        arith,
        c.put_number-first.ensures.end,
        c.put_bytes-second.ensures.bytes.ends,
        c.put_hex-third.ensures.end,
        c.put_answered.ensures.end,
        c.requires.room.1,
      );
    }
