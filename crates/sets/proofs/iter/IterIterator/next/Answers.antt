use Rattle.sets.proofs.Bits.{members_end}
use Rattle.sets.proofs.iter.IterIterator.next.Goals as goal

pub returns-then-self-eq0-clause-steps : goal.returns-then-self-eq0-clause-steps
returns-then-self-eq0-clause-steps c = (members_end c.if-self-eq0.true, members_end c.if-self-eq0.true)
