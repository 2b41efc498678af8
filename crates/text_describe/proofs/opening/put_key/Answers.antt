use native.Mathlib.Omega.{arith}
use Rattle.bench_lines.proofs.Puts.{put_as, put_more}
use Rattle.text_describe.proofs.Pieces.{first_key, further_key}
use borrow.Author.Rules.{rules}
use Rattle.text_describe.proofs.opening.put_key.Goals as goal

pub returns-then-s-eq0 : goal.returns-then-s-eq0
returns-then-s-eq0 c =
    record {
      bytes = put_as (put_more c.put_bytes-first.ensures.bytes (rw c.from.ensures at c.put_next.ensures.bytes)) (first_key _ _ c.if-s-eq0.true);
      end = omega (arith, c.put_bytes-first.ensures.bytes.ends);
    }

pub returns : goal.returns
returns c = record {
  bytes = put_as (rw c.from-2.ensures at c.put_next-2.ensures.bytes) (further_key _ _ c.if-s-eq0.false);
  end = search rules;
}
