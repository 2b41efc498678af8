use Rattle.text_describe.specs.Turns.{line_text}
use Rattle.text_describe.proofs.put_text.Goals as goal

pub returns-then-opened : goal.returns-then-opened
unfolding line_text
returns-then-opened c = record {
  bytes = rw c.if-opened.true c.put_word.ensures.bytes;
  end = c.put_word.ensures.end;
}

pub returns : goal.returns
unfolding line_text
returns c = record {
  bytes = rw c.if-opened.false c.put_raw.ensures.bytes;
  end = c.put_raw.ensures.end;
}
