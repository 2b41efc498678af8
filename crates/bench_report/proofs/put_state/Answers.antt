use borrow.Author.Rules.{rules}
use Rattle.bench_lines.proofs.Puts.{put_as, put_more}
use Rattle.bench_report.proofs.Reports.{state_of_node}
use Rattle.bench_report.proofs.put_state.Goals as goal

pub returns : goal.returns
returns c =
    let two = put_more c.put_number-first.ensures.bytes c.put_next-second.ensures.bytes in
    let put = put_more (put_more two c.put_next-third.ensures.bytes) c.put_next.ensures.bytes in
    record {
      bytes = put_as (rw (c.from.ensures, c.from-2.ensures, c.from-3.ensures, c.from-4.ensures) at put)
          (state_of_node _ _ c.key.ensures.value c.is_running.ensures.value c.clock.ensures.value);
      end = search rules;
    }
