-- `put_opening` meets its contract: the head word, then the words of the keys, one after the other.
use native.Mathlib.Omega.{arith}
use Rattle.bench_lines.proofs.Puts.{put_as, put_more}
use Rattle.text_assemble.proofs.Gives.{word_length, opening_bytes}
use Rattle.text_assemble.proofs.put.put_opening.Goals as goal

pub put_keys-requires : goal.put_keys-requires
put_keys-requires c = record {
  keys = (c.requires.keys.1, omega (arith, c.put_word-first.ensures.bytes.ends, c.put_word-first.ensures.bytes.long, word_length c.new-head.result.0));
}

pub returns : goal.returns
returns c = record {
  bytes = put_as (put_more c.put_word-first.ensures.bytes c.put_keys.ensures.bytes) (opening_bytes _ _ c.new-head.result.0 c.new-head.ensures.value);
  end = omega (arith, c.put_keys.ensures.end, c.put_word-first.ensures.bytes.ends, word_length c.new-head.result.0);
}
