-- `grown` meets its contract: one byte more or too long, one test.
use borrow.Author.Tests.{lt-ltb, le-ltb}
use Rattle.text_form.specs.Assemble.{grown}
use Rattle.text_reader.proofs.token.grown.Goals as goal

pub returns-then-token-lt72057594037927936 : goal.returns-then-token-lt72057594037927936
unfolding grown
returns-then-token-lt72057594037927936 c = record { value = rw (lt-ltb _ _ c.if-token-lt72057594037927936.true, c.from.ensures) }

pub returns-else-token-lt72057594037927936 : goal.returns-else-token-lt72057594037927936
unfolding grown
returns-else-token-lt72057594037927936 c = record { value = rw (le-ltb _ _ c.if-token-lt72057594037927936.false) }
