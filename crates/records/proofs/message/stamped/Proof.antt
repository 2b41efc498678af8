use borrow.Author.Rules.{rules}
use Rattle.sets.proofs.Bits.{nobody}
use Rattle.records.proofs.message.stamped.Statement.{statement}
use Rattle.records.proofs.message.stamped.Tie as tie

returns : tie.Need-returns
returns c = record { message = rw nobody; room = search rules }

pub stamped_spec : {M : Type 1} → statement M
stamped_spec = tie.close (tie.spec returns)
