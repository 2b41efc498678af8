use borrow.Author.Rules.{rules}
use Rattle.bench_lines.proofs.Puts.{put_as, put_more}
use Rattle.bench_report.proofs.Reports.{groups_line}
use Rattle.bench_report.proofs.put_groups.Goals as goal

pub returns : goal.returns
returns c =
    record {
      bytes =
          let put = put_more (put_more c.put_bytes-first.ensures.bytes c.put_next-second.ensures.bytes) c.put_byte.ensures.bytes in
          put_as (rw c.from.ensures at put) (groups_line _);
      end = search rules;
    }
