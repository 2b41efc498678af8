use Rattle.std.proofs.Common.{mul-le-mul_left, arith}
use Rattle.draw_circle.specs.Circle.{share_of}
use Rattle.draw_circle.proofs.share.Goals as goal

pub overflow_mul-result : goal.overflow_mul-result
overflow_mul-result c =
    let low = mul-le-mul_left c.args.radius c.quarter_sine.ensures.bound in
    record { fits = omega (arith, low) }

pub overflow_add-result : goal.overflow_add-result
overflow_add-result c =
    let low = mul-le-mul_left c.args.radius c.quarter_sine.ensures.bound in
    record { fits = omega (arith, low) }

pub returns : goal.returns
unfolding share_of
returns c =
    let low = mul-le-mul_left c.args.radius c.quarter_sine.ensures.bound in
    record {
      value = rw c.quarter_sine.ensures.value;
      bound = omega (arith, low);
    }
