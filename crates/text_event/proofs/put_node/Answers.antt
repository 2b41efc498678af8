use native.Mathlib.Omega.{arith}
use Rattle.text_event.proofs.Texts.{spaced_short}
use Rattle.text_event.proofs.put_node.Goals as goal

pub returns : goal.returns
returns c =
    let short = spaced_short 2 c.args.x.0 (omega arith) in
    let number = rw c.from.ensures at c.put_next.ensures.bytes in
    record {
      bytes = number;
      end = omega (arith, number.ends, short);
    }
