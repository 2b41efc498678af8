use native.Mathlib.Omega.{arith}
use Rattle.bench_lines.proofs.Puts.{put_more}
use Rattle.text_form.specs.Describe.{event_text}
use Rattle.text_event.proofs.put_timer.Goals as goal

pub returns : goal.returns
unfolding event_text
returns c =
    record {
      bytes = put_more (put_more (put_more c.put_bytes-first.ensures.bytes c.put_node-second.ensures.bytes) c.put_bytes-third.ensures.bytes)
          c.put_node.ensures.bytes;
      end = omega (arith, c.put_bytes-first.ensures.bytes.ends, c.put_bytes-third.ensures.bytes.ends);
    }
