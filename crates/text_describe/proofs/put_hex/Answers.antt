use native.Mathlib.Omega.{arith}
use Rattle.text_describe.proofs.Pieces.{none_put, more_put, all_put, next_pair, no_pairs}
use borrow.Author.Rules.{rules}
use Rattle.text_describe.proofs.put_hex.Goals as goal

pub loop-byte-init : goal.loop-byte-init
loop-byte-init c = (search rules, none_put _ _ _)

pub put_pair-end-requires : goal.put_pair-end-requires
put_pair-end-requires c = record { room = let put = c.loop-byte.invariant.1.put in omega (arith, put.long) }

pub loop-byte-preserved : goal.loop-byte-preserved
loop-byte-preserved c =
    let l = c.loop-byte in
    (search rules, more_put l.invariant.1 c.put_pair-end.ensures.bytes (next_pair c.args.bytes.now l.byte-index (search rules)))

pub shape_of-out : goal.shape_of-out
shape_of-out c = c.loop-byte.invariant.1.put.long

pub returns : goal.returns
returns c =
    let l = c.loop-byte in
    record {
      bytes = all_put l.invariant.1 (no_pairs c.args.bytes.now l.byte-index (search rules));
      end = search rules;
    }
