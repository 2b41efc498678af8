use native.Mathlib.Omega.{arith}
use Rattle.text_describe.specs.Turns.{chunk_text, opens_ring}
use Rattle.text_describe.proofs.put_chunk.Goals as goal

pub returns-then-session : goal.returns-then-session
unfolding chunk_text opens_ring
returns-then-session c =
    record {
      bytes = rw c.if-session.true c.put_words.ensures.bytes;
      opened = rw c.if-session.true;
      end = omega (arith, c.put_words.ensures.end);
    }

pub returns : goal.returns
unfolding chunk_text opens_ring
returns c =
    record {
      bytes = rw c.if-session.false c.put_first.ensures.bytes;
      opened = rw c.if-session.false c.put_first.ensures.opened;
      end = c.put_first.ensures.end;
    }
