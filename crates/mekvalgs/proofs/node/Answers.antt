use borrow.Author.Tests.{lt-ltb, le-ltb}
use Rattle.mekvalgs.proofs.node.Goals as goal

pub returns-then-x-lt64 : goal.returns-then-x-lt64
returns-then-x-lt64 c = record { value = rw (lt-ltb c.args.x 64 c.if-x-lt64.true) }

pub returns-else-x-lt64 : goal.returns-else-x-lt64
returns-else-x-lt64 c = record { value = rw (le-ltb c.args.x 64 c.if-x-lt64.false) }
