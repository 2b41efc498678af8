use native.Mathlib.Omega.{arith}
use Rattle.bench_lines.proofs.Puts.{put_more}
use Rattle.text_describe.proofs.put_line.Goals as goal

pub returns : goal.returns
returns c =
    record {
      bytes = put_more c.put_text-end.ensures.bytes c.put_byte.ensures.bytes;
      end = omega (arith, c.put_byte.ensures.bytes.ends);
    }
