use borrow.Author.Rules.{rules}
use Rattle.bench_lines.proofs.Puts.{put_more}
use Rattle.audit_parting.proofs.put_side.Goals as goal

pub returns : goal.returns
returns c = record {
  bytes = put_more c.put_bar-start.ensures.bytes c.put_members.ensures.bytes;
  end = search rules;
}
