use Rattle.bench_lines.proofs.Decimals.{line_of_three}
use Rattle.bench_lines.proofs.Puts.{put_as, put_more}
use Rattle.bench_lines.proofs.put_three.Goals as goal

pub returns-clause-bytes : goal.returns-clause-bytes
returns-clause-bytes c =
    let numbers = put_more (put_more c.put_number-first.ensures.bytes c.put_next-second.ensures.bytes) c.put_next-third.ensures.bytes in
    put_as (put_more numbers c.put_byte.ensures.bytes) (line_of_three _ _ _)
