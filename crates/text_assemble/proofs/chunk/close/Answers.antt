-- `close` meets its contract: the last line ends, then the text: two steps, one after the other.
use native.Mathlib.Omega.{arith}
use Rattle.text_reader.proofs.Bounded.{closed_bounded}
use Rattle.text_assemble.proofs.Steps.{line_read, text_ended}
use Rattle.text_assemble.proofs.chunk.close.Goals as goal

pub put_step-requires : goal.put_step-requires
put_step-requires c = record {
  step =
      let l = line_read c.requires.ready.0 c.requires.ready.1 c.read_byte-line.ensures.put in
      let s = closed_bounded c.read_byte-line.result.reader l.bounded in
      rw c.closed-step.ensures.value (
        s.reader,
        s.given,
        l.bounded_keys,
        omega (arith, s.keys, s.reader.keys),
        omega
            (arith, c.read_byte-line.ensures.put.gave.room, l.put.long, c.requires.ready.3),
      );
}

pub returns : goal.returns
returns c = record {
  read =
      text_ended c.requires.ready.0 c.requires.ready.1 c.read_byte-line.ensures.put
      (rw (c.closed-step.ensures.value, c.from.ensures) at c.put_step.ensures.put);
}
