use borrow.Author.Rules.{rules}
use Rattle.audit_parting.proofs.Tearing.{lost_some}
use Rattle.audit_parting.proofs.is_torn.Goals as goal

pub returns : goal.returns
returns c = record { value = lost_some _ _ _ _ (search rules) c.minus.ensures.members }
