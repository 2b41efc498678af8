use mathlib.Core.Path.{◌∙◌}
use borrow.Author.Rules.{rules}
use Rattle.bench_lines.proofs.Puts.{put_as}
use Rattle.bench_session.proofs.Parts.{no_tail, tail_line_lem}
use Rattle.bench_session.proofs.turn.put_tail.Goals as goal

pub returns-then-size-eq0 : goal.returns-then-size-eq0
returns-then-size-eq0 c = record {
  bytes = no_tail _ _ _ _ _ c.if-size-eq0.true;
  end = search rules;
}

pub returns : goal.returns
returns c =
    let text = tail_line_lem _ _ _ c.if-size-eq0.false (c.from.ensures ∙ c.number-refusal.ensures.answer) c.messages.ensures.value in
    record {
      bytes = put_as c.put_three.ensures.bytes text;
      end = c.put_three.ensures.end;
    }
