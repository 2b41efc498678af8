use Rattle.std.proofs.Common.{◌%◌, arith, rules, eq-eqb, ne_eqb}
use Rattle.draw_circle.specs.Circle.{quarter_sine}
use Rattle.draw_circle.proofs.Sines.{left_le, right_le, between_le}
use Rattle.draw_circle.proofs.quarter_sine.Goals as goal

pub returns-then-angle-eq-QUARTER : goal.returns-then-angle-eq-QUARTER
unfolding quarter_sine
returns-then-angle-eq-QUARTER c = record {
  value = rw (eq-eqb _ _ c.if-angle-eq-QUARTER.true);
  bound = search rules;
}

pub overflow_mul-result : goal.overflow_mul-result
overflow_mul-result c =
    let low = left_le (c.args.angle % 256) c.entry.result 0 (search rules) c.entry.ensures.bound (search rules) in
    record { fits = omega (arith, low) }

pub overflow_mul-result-2 : goal.overflow_mul-result-2
overflow_mul-result-2 c =
    let low = right_le (c.args.angle % 256) 0 c.entry-2.result (search rules) (search rules) c.entry-2.ensures.bound in
    record { fits = omega (arith, low) }

pub overflow_add-result : goal.overflow_add-result
overflow_add-result c =
    let f = c.args.angle % 256 in
    let left = left_le f c.entry.result c.entry-2.result (search rules) c.entry.ensures.bound c.entry-2.ensures.bound in
    let right = right_le f c.entry.result c.entry-2.result (search rules) c.entry.ensures.bound c.entry-2.ensures.bound in
    record { fits = omega (arith, left, right) }

pub returns : goal.returns
unfolding quarter_sine
returns c =
    record {
      value = rw (ne_eqb _ _ c.if-angle-eq-QUARTER.false, c.entry.ensures.value, c.entry-2.ensures.value);
      bound = between_le (c.args.angle % 256) _ _ (search rules) c.entry.ensures.bound c.entry-2.ensures.bound;
    }
