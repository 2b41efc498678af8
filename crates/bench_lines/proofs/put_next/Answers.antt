use Rattle.bench_lines.proofs.Decimals.{one_more_lem}
use Rattle.bench_lines.proofs.Puts.{put_as, put_more}
use Rattle.bench_lines.proofs.put_next.Goals as goal

pub returns-clause-bytes : goal.returns-clause-bytes
returns-clause-bytes c = put_as (put_more c.put_byte-start.ensures.bytes c.put_number.ensures.bytes) (one_more_lem _)
