use mathlib.Core.Path.{sym, ◌∙◌}
use native.Mathlib.Omega.{arith}
use Rattle.text_assemble.proofs.Steps.{none_read, more_read, all_read}
use borrow.Author.Rules.{rules}
use Rattle.text_assemble.proofs.chunk.read_chunk.Goals as goal

pub loop-byte-init : goal.loop-byte-init
loop-byte-init c = none_read _ _ _ _ c.requires.ready.0 c.requires.ready.1

pub read_byte-read-requires : goal.read_byte-read-requires
read_byte-read-requires c = record {
  ready =
      let t = c.loop-byte.invariant in
      (t.reached.bounded, omega (arith, t.lines, c.requires.ready.2), t.reached.bounded_keys, omega (arith, t.room, t.reached.put.long, c.requires.ready.3));
}

pub loop-byte-preserved : goal.loop-byte-preserved
loop-byte-preserved c =
    more_read c.loop-byte.invariant (search rules) c.read_byte-read.ensures.put

pub shape_of-keys : goal.shape_of-keys
shape_of-keys c =
    c.loop-byte.invariant.reached.bounded_keys.long ∙ sym c.requires.ready.1.long

pub shape_of-out : goal.shape_of-out
shape_of-out c = c.loop-byte.invariant.reached.put.long

pub returns : goal.returns
returns c =
    let l = c.loop-byte in
    record {
      read = all_read l.invariant (search rules);
      line = omega (arith, l.invariant.lines, l.invariant.within);
    }
