use mathlib.Core.Path.{sym, ◌∙◌}
use borrow.Author.Tests.{eqb-true, eqb-false}
use Rattle.bench_lines.proofs.Puts.{put_none, put_as, put_more}
use Rattle.text_describe.proofs.Described.{tail_none, tail_line_lem}
use Rattle.text_describe.proofs.put_tail.Goals as goal

pub returns-then-is_empty : goal.returns-then-is_empty
returns-then-is_empty c =
    record { bytes = put_as (put_none _ _) (sym (tail_none c.args.tail.now (eqb-true _ 0 (sym c.is_empty.ensures ∙ c.if-is_empty.true)))) }

pub returns : goal.returns
returns c = record {
  bytes = put_as (put_more (put_more c.put_bytes-first.ensures.bytes c.put_hex-second.ensures.bytes) c.put_byte.ensures.bytes)
      (tail_line_lem _ (eqb-false _ 0 (sym c.is_empty.ensures ∙ c.if-is_empty.false)));
}
