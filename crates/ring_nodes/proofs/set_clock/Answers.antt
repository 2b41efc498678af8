use Rattle.ring_nodes.proofs.Marks.{clock_set}
use Rattle.ring_nodes.proofs.set_clock.Goals as goal

pub returns : goal.returns
returns c = record { ring = λ ρ n m is hx. rw c.index.ensures.value (clock_set ρ _ n m _ is hx _ _ c.new.ensures.value) }
