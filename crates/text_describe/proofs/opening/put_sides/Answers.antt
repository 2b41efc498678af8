use native.Mathlib.Omega.{arith}
use Rattle.bench_lines.proofs.Puts.{put_as, put_more}
use Rattle.text_event.proofs.Texts.{spaced_two}
use Rattle.text_describe.proofs.opening.put_sides.Goals as goal

pub returns : goal.returns
returns c =
    record {
      bytes = put_more c.put_bytes-first.ensures.bytes
          (put_as (rw (c.from.ensures, c.from-2.ensures) at (put_more c.put_next-second.ensures.bytes c.put_next.ensures.bytes)) (spaced_two _ _));
      end = omega (arith, c.put_bytes-first.ensures.bytes.ends);
    }
