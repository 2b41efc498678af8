use Prim.Native.Nat.{◌+◌, ◌*◌, ◌≤◌}
use lib.ListN.{drop}
use Rattle.text_form.specs.Describe.{word_lines}
use Rattle.text_describe.specs.Turns.{line_text}
use Rattle.text_describe.proofs.Pieces.{PutBefore}
use Rattle.text_describe.proofs.put_words.Given as goal

abbrev pub invariant-loop-word : goal.invariant-loop-word
invariant-loop-word l =
    (l.end ≤ l.at + 17 * l.word-index)
    × PutBefore l.initial.out l.out l.at l.end (word_lines (line_text l.opened) l.script) (word_lines (line_text l.opened) (drop l.word-index l.script))
