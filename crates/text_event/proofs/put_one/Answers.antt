use native.Mathlib.Omega.{arith}
use Rattle.bench_lines.proofs.Puts.{put_more}
use Rattle.text_event.proofs.Texts.{spaced_short}
use Rattle.text_event.proofs.put_one.Goals as goal

pub returns : goal.returns
returns c =
    let short = spaced_short 4 c.args.n (omega arith) in
    let number = rw c.from.ensures at c.put_next.ensures.bytes in
    record {
      bytes = put_more c.put_bytes-first.ensures.bytes number;
      end = omega (arith, c.put_bytes-first.ensures.bytes.ends, number.ends, short);
    }
