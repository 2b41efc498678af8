use mathlib.Core.Path.{ap}
use lib.ListN.{length}
use borrow.Author.Rules.{rules}
use Rattle.mekvalgs.proofs.mekvalgs_messages.Statement.{statement}
use Rattle.mekvalgs.proofs.mekvalgs_messages.Tie as tie

returns : tie.Need-returns
returns c = ap length c.messages.ensures

pub mekvalgs_messages_spec : {M : Type 1} → statement M
mekvalgs_messages_spec =
    tie.close
    (tie.spec
    (λ c κs. search rules) returns)
