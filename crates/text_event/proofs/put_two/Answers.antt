use native.Mathlib.Omega.{arith}
use Rattle.bench_lines.proofs.Puts.{put_as, put_more}
use Rattle.text_event.proofs.Texts.{spaced_two}
use Rattle.text_event.proofs.put_two.Goals as goal

pub returns : goal.returns
returns c =
    record {
      bytes = put_more c.put_bytes-first.ensures.bytes (put_as (put_more c.put_node-second.ensures.bytes c.put_node.ensures.bytes) (spaced_two _ _));
      end = omega (arith, c.put_bytes-first.ensures.bytes.ends, c.put_node-second.ensures.end, c.put_node.ensures.end, c.requires.room.1);
    }
