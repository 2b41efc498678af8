use Rattle.draw_places.specs.Places.{end_of, ahead_of}
use borrow.Author.Rules.{rules}
use Rattle.draw_places.proofs.ahead.Goals as goal

pub returns : goal.returns
unfolding ahead_of end_of
returns c =
    record {
      value = rw (
        c.min.ensures,
        c.pushed_most.ensures.value,
        c.distances.ensures.value,
        c.angle.ensures.value,
        c.lowest.ensures.value,
        c.rank-rank.ensures.value,
      );
      bound = search rules;
    }
