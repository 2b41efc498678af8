use mathlib.Core.Path.{◌∙◌}
use borrow.Author.Rules.{rules}
use Rattle.bench_lines.proofs.Puts.{put_as, put_more}
use Rattle.model.specs.Sets.{of_bits}
use Rattle.model.proofs.Laws.{count_le}
use Rattle.bench_report.proofs.Reports.{held_room, held_list}
use Rattle.bench_report.proofs.put_held.Goals as goal

pub put_members-requires : goal.put_members-requires
put_members-requires c = record { room = held_room _ _ _ (search rules) }

pub returns : goal.returns
returns c =
    let h = count_le 64 (of_bits c.args.held) in
    record {
      bytes = put_as (put_more c.put_next-first.ensures.bytes c.put_members.ensures.bytes) (held_list _ (c.from.ensures ∙ c.size.ensures.value));
      end = search rules;
    }
