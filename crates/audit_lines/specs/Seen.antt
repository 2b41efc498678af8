-- What the lines of an account are handed.
use Rattle.std.specs.Prelude.{◌≡◌, length}
use Rattle.model.specs.Ring.{Ring}
use Rattle.model.specs.Connection as model
use Rattle.audit_account.specs.Points as points
use Rattle.audit_lines.specs.declared.Sight.{Sight}

-- the numbers are those of the ring
pub record Sees (s : Sight) (r : Ring) : Type 0 where
  pub messages : s.messages ≡ length r.messages
  pub acknowledgements : s.acknowledgements ≡ points.acknowledgements r
  pub groups : s.groups ≡ model.groups r
