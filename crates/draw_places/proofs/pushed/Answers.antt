use borrow.Author.Tests.{lt-ltb, le-ltb}
use Rattle.draw_places.specs.Places.{pushed_by}
use borrow.Author.Rules.{rules}
use Rattle.draw_places.proofs.pushed.Goals as goal

pub returns-then-rank-before : goal.returns-then-rank-before
unfolding pushed_by
returns-then-rank-before c = record {
  value = rw (← c.rank-before.ensures.value, lt-ltb _ _ c.if-rank-before.true);
  bound = search rules;
}

pub returns : goal.returns
unfolding pushed_by
returns c =
    record {
      value = rw (← c.rank-before.ensures.value, le-ltb _ _ c.if-rank-before.false, c.angle.ensures.value, c.distances.ensures.value);
      bound = search rules;
    }
