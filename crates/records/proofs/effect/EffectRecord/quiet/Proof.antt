use mathlib.Core.Path.{ap}
use mathlib.Core.List.{[]}
use Rattle.model.specs.Ring.{Own}
use Rattle.records.proofs.effect.EffectRecord.quiet.Statement.{statement}
use Rattle.records.proofs.effect.EffectRecord.quiet.Tie as tie

returns : tie.Need-returns
returns c = λ n me time o p. record {
  effect = ap (λ (q : Own). record { own = q; sent = [] }) p.own;
  own_fits = p.fits;
  first_fits = tt;
  second_fits = tt;
}

pub quiet_spec : {M : Type 1} → statement M
quiet_spec = tie.close (tie.spec returns)
