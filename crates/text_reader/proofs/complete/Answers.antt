-- `complete` meets its contract: the line is complete by its place or its number of parts.
use Rattle.text_form.specs.Assemble.{complete}
use Rattle.text_reader.proofs.complete.Goals as goal

pub returns : goal.returns
unfolding complete
returns c = record { value = rw c.arity.ensures.value }
