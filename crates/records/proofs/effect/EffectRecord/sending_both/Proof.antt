use mathlib.Core.Path.{ap₂}
use mathlib.Core.List.{List, ◌++◌}
use Rattle.model.specs.Ring.{Own, Message}
use Rattle.records.proofs.effect.EffectRecord.sending_both.Statement.{statement}
use Rattle.records.proofs.effect.EffectRecord.sending_both.Tie as tie

returns : tie.Need-returns
returns c = λ n me time o ms ns p q s. record {
  effect = ap₂ (λ (o : Own) (l : List Message). record { own = o; sent = l }) p.own (ap₂ (λ (k l : List Message). k ++ l) q.messages s.messages);
  own_fits = p.fits;
  first_fits = q.fits;
  second_fits = s.fits;
}

pub sending_both_spec : {M : Type 1} → statement M
sending_both_spec = tie.close (tie.spec returns)
