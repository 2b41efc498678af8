use Rattle.std.proofs.Common.{rules, ne_eqb, ◌/◌, ◌%◌, ◌≢◌, ℕ}
use Rattle.draw_circle.specs.Circle.{in_quarter, point_at}
use Rattle.draw_circle.proofs.point_at.Goals as goal

pub returns-in-0 : goal.returns-in-0
unfolding point_at in_quarter
returns-in-0 c =
    record {
      value = rw (c.in-0.is, c.share-sine.ensures.value, c.share-cosine.ensures.value);
      bounds = search rules;
    }

pub returns-in-1 : goal.returns-in-1
unfolding point_at in_quarter
returns-in-1 c =
    record {
      value = rw (c.in-1.is, c.share-sine.ensures.value, c.share-cosine.ensures.value);
      bounds = search rules;
    }

pub returns-in-2 : goal.returns-in-2
unfolding point_at in_quarter
returns-in-2 c =
    record {
      value = rw (c.in-2.is, c.share-sine.ensures.value, c.share-cosine.ensures.value);
      bounds = search rules;
    }

pub returns-in_default : goal.returns-in_default
unfolding point_at in_quarter
returns-in_default c =
    let q : ℕ = c.args.angle % 65536 / 16384 in
    let not-0 : q ≢ 0 = search rules in
    let not-1 : q ≢ 1 = search rules in
    let not-2 : q ≢ 2 = search rules in
    record {
      value = rw (ne_eqb q 0 not-0, ne_eqb q 1 not-1, ne_eqb q 2 not-2, c.share-sine.ensures.value, c.share-cosine.ensures.value);
      bounds = search rules;
    }
