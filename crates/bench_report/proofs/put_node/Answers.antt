use borrow.Author.Rules.{rules}
use Rattle.bench_lines.proofs.Puts.{put_as, put_more}
use Rattle.bench_report.proofs.Reports.{line_of_node}
use Rattle.bench_report.proofs.put_node.Goals as goal

pub returns : goal.returns
returns c =
    let put = put_more (put_more c.put_state-first.ensures.bytes c.put_held-second.ensures.bytes) c.put_byte.ensures.bytes in
    record {
      bytes = put_as put (line_of_node _ _ c.load-own.ensures.loaded (search rules));
      end = search rules;
    }
