-- `read_byte` meets its contract: the step is that of the byte, and stays within its bounds.
use native.Mathlib.Omega.{arith}
use Rattle.text_reader.proofs.Bounded.{byte_bounded}
use Rattle.text_assemble.proofs.chunk.read_byte.Goals as goal

pub put_step-requires : goal.put_step-requires
put_step-requires c = record {
  step =
      let s = byte_bounded c.args.reader c.args.byte c.requires.ready.0 in
      rw c.byte_read-step.ensures.value (s.reader, s.given, c.requires.ready.2, omega (arith, s.keys, s.reader.keys), c.requires.ready.3);
}

pub returns : goal.returns
returns c = record { put = rw (c.byte_read-step.ensures.value, c.from.ensures) at c.put_step.ensures.put }
