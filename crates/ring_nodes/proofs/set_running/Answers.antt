use mathlib.Core.Path.{ap, ◌∙◌}
use Prim.Native.Nat.{ℕ}
use Rattle.model.specs.Words.{key_word}
use Rattle.ring_nodes.proofs.Marks.{running_set}
use Rattle.ring_nodes.proofs.set_running.Goals as goal

pub returns : goal.returns
returns c = record {
  ring =
      let i = c.index.ensures.value in
      λ ρ n m is hx.
      rw i
      (running_set ρ _ n m _ is hx _ _ (c.new.ensures.value ∙ ap (λ (k : ℕ). key_word k c.args.running) (rw i at c.key-key.ensures.value)));
}
