use mathlib.Core.Path.{◌≡◌, refl, ap, ◌∙◌}
use mathlib.Core.Bool.{Bool, true, false, not, ◌&&◌}
use Rattle.model.specs.Sets.{Set, of_bits}
use Rattle.model.specs.Words.{decode}
use Rattle.model.specs.Connection.{connected}
use Rattle.ring_connection.proofs.group.Goals as goal

both : (p q : Bool) → (p && not (p && not q)) ≡ (p && q)
both true true = refl
both true false = refl
both false q = refl

pub returns : goal.returns
returns c = record {
  members = λ b.
      let q = c.args in
      ap (λ (S : Set). S b) c.minus.ensures.members
      ∙ ap (λ (p : Bool). of_bits q.set b && not p) (c.apart.ensures.members b)
      ∙ both (of_bits q.set b) (connected (decode q.words.now) q.a.0 b);
}
