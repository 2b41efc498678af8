use native.Mathlib.Omega.{arith}
use Rattle.bench_lines.proofs.Puts.{put_as, put_more}
use Rattle.text_assemble.proofs.Gives.{word_length, no_keys, keys_more, all_keys}
use borrow.Author.Rules.{rules}
use Rattle.text_assemble.proofs.put.put_keys.Goals as goal

pub loop-key-init : goal.loop-key-init
loop-key-init c = (search rules, no_keys _ _ c.args.keys.now)

pub new-requires : goal.new-requires
new-requires c = record { bounds = c.requires.keys.0 c.loop-key.key-index }

pub put_word-end-requires : goal.put_word-end-requires
put_word-end-requires c = record { room = omega (arith, c.loop-key.invariant.1.long) }

pub loop-key-preserved : goal.loop-key-preserved
loop-key-preserved c =
    let l = c.loop-key in (
      omega (arith, l.invariant.0, c.put_word-end.ensures.bytes.ends, word_length c.new.result.0),
      put_as (put_more l.invariant.1 c.put_word-end.ensures.bytes) (keys_more c.args.keys.now l.key-index c.new.result.0 (search rules) c.new.ensures.value),
    )

pub shape_of-out : goal.shape_of-out
shape_of-out c = c.loop-key.invariant.1.long

pub returns : goal.returns
returns c =
    let l = c.loop-key in
    record {
      bytes = put_as l.invariant.1 (all_keys _ _ (search rules));
      end = omega (arith, l.invariant.0);
    }
