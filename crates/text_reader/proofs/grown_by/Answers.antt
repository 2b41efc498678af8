-- `grown_by` meets its contract: one field is set to what the call ensures.
use Rattle.text_form.specs.Assemble.{grown_by}
use Rattle.text_reader.proofs.grown_by.Goals as goal

pub returns : goal.returns
unfolding grown_by
returns c = record { value = rw c.grown.ensures.value }
