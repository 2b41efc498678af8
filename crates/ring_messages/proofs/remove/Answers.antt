use Rattle.ring_messages.proofs.Queue.{removed}
use Rattle.ring_messages.proofs.remove.Goals as goal

pub returns : goal.returns
returns c = record {
  ring = λ ρ n is. removed ρ _ _ _ _ n _ _ c.requires.words.1 c.requires.words.2 is c.set_count.ensures.words c.move_down.ensures.value c.clear.ensures.value;
}
