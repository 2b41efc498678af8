use native.Mathlib.Omega.{arith}
use Rattle.text_describe.specs.Turns.{line_text}
use Rattle.text_describe.proofs.Pieces.{none_put, more_put, all_put, next_line, no_lines}
use borrow.Author.Rules.{rules}
use Rattle.text_describe.proofs.put_words.Goals as goal

pub loop-word-init : goal.loop-word-init
loop-word-init c = (search rules, none_put _ _ _)

pub put_line-end-requires : goal.put_line-end-requires
put_line-end-requires c = record { room = let put = c.loop-word.invariant.1.put in omega (arith, put.long) }

pub loop-word-preserved : goal.loop-word-preserved
loop-word-preserved c =
    let l = c.loop-word in (
      search rules,
      more_put l.invariant.1 c.put_line-end.ensures.bytes
          (next_line (line_text c.args.opened) c.args.script.now l.word-index (search rules)),
    )

pub shape_of-out : goal.shape_of-out
shape_of-out c = c.loop-word.invariant.1.put.long

pub returns : goal.returns
returns c =
    let l = c.loop-word in
    record {
      bytes = all_put l.invariant.1 (no_lines (line_text c.args.opened) c.args.script.now l.word-index (search rules));
      end = search rules;
    }
