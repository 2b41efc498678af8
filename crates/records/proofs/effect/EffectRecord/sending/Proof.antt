use mathlib.Core.Path.{ap₂, ◌∙◌}
use mathlib.Core.List.{List, append-nil}
use Rattle.model.specs.Ring.{Own, Message}
use Rattle.records.proofs.effect.EffectRecord.sending.Statement.{statement}
use Rattle.records.proofs.effect.EffectRecord.sending.Tie as tie

returns : tie.Need-returns
returns c = λ n me time o ms p q. record {
  effect = ap₂ (λ (o : Own) (l : List Message). record { own = o; sent = l }) p.own (append-nil _ ∙ q.messages);
  own_fits = p.fits;
  first_fits = q.fits;
  second_fits = tt;
}

pub sending_spec : {M : Type 1} → statement M
sending_spec = tie.close (tie.spec returns)
