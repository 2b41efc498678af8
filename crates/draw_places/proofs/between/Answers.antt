use mathlib.Core.Path.{refl}
use Rattle.draw_places.specs.Places.{between_of}
use borrow.Author.Rules.{rules}
use Rattle.draw_places.proofs.between.Goals as goal

pub returns : goal.returns
unfolding between_of
returns c = record {
  value = refl;
  bound = search rules;
}
