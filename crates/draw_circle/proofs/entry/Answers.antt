use Rattle.std.proofs.Common.{refl, rules}
use Rattle.draw_circle.specs.Circle.{sines}
use Rattle.draw_circle.proofs.Sines.{sine_le}
use Rattle.draw_circle.proofs.entry.Goals as goal

pub returns : goal.returns
unfolding sines
returns c = record {
  value = refl;
  bound = sine_le c.args.i (search rules);
}
