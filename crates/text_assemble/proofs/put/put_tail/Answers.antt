-- `put_tail` meets its contract: the last of the value's bytes are those of the tail, case by case of their count.
use native.Mathlib.Omega.{arith}
use Rattle.bench_lines.proofs.Puts.{put_as}
use Rattle.text_assemble.proofs.Gives.{tail_part, tail_short}
use Rattle.text_assemble.proofs.put.put_tail.Goals as goal

pub returns : goal.returns
returns c =
    let bytes = rw (c.to_be_bytes-bytes.ensures, c.from-start.ensures) at c.put_bytes.ensures.bytes in
    let p = put_as bytes (tail_part c.args.count c.args.value c.requires.room.0) in
    record {
      bytes = p;
      end = omega (arith, p.ends, tail_short c.args.count c.args.value c.requires.room.0);
    }
