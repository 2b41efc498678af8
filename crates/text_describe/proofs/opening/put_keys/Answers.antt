use native.Mathlib.Omega.{arith}
use Rattle.text_describe.proofs.Pieces.{none_put, more_put, last_put, next_key, no_keys}
use borrow.Author.Rules.{rules}
use Rattle.text_describe.proofs.opening.put_keys.Goals as goal

pub loop-s-init : goal.loop-s-init
loop-s-init c = (search rules, search rules, none_put _ _ _)

pub put_key-end-requires : goal.put_key-end-requires
put_key-end-requires c = record { room = let put = c.loop-s.invariant.2.put in omega (arith, put.long) }

pub loop-s-preserved : goal.loop-s-preserved
loop-s-preserved c =
    let l = c.loop-s in
    (search rules, search rules, more_put l.invariant.2 c.put_key-end.ensures.bytes (next_key c.args.keys.now l.s (search rules)))

pub put_byte-requires : goal.put_byte-requires
put_byte-requires c = record { room = let put = c.loop-s.invariant.2.put in omega (arith, put.long) }

pub shape_of-out : goal.shape_of-out
shape_of-out c = let put = c.loop-s.invariant.2.put in search rules

pub returns : goal.returns
returns c =
    let l = c.loop-s in
    record {
      bytes = last_put l.invariant.2 c.put_byte.ensures.bytes (no_keys c.args.keys.now l.s (search rules));
      end = omega (arith, c.put_byte.ensures.bytes.ends);
    }
