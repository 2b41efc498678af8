use borrow.Author.Rules.{rules}
use Rattle.bench_lines.proofs.Puts.{put_as}
use Rattle.audit_session.proofs.Turning.{not_yet, at_end}
use Rattle.audit_session.proofs.turn.put_end.Goals as goal

pub returns-then-more : goal.returns-then-more
returns-then-more c = record {
  bytes = not_yet _ _ _ c.if-more.true;
  end = search rules;
}

pub returns : goal.returns
returns c =
    record {
      bytes = put_as c.put_end.ensures.bytes (at_end _ c.if-more.false);
      end = c.put_end.ensures.end;
    }
