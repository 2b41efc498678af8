use mathlib.Core.Path.{ap}
use mathlib.Core.List.{[], ◌∷◌}
use borrow.Author.Rules.{rules}
use Rattle.model.specs.Ring.{Message}
use Rattle.records.proofs.effect.EffectRecord.replying.Statement.{statement}
use Rattle.records.proofs.effect.EffectRecord.replying.Tie as tie

returns : tie.Need-returns
returns c = λ n me time o x p q.
    c.sending.ensures n me time o (x ∷ []) p (record { messages = ap (λ (m : Message). m ∷ []) q.message; fits = q.room })

pub replying_spec : {M : Type 1} → statement M
replying_spec = tie.close (tie.spec (λ c κs. search rules) returns)
