use Rattle.std.proofs.Common.{ℕ, ◌+◌, ◌*◌, ◌/◌, ◌≤◌, refl, arith, rules}
use native.Mathlib.Nat.{div-le_of_le-mul}
use Rattle.draw_circle.specs.Links.{depth_of}
use Rattle.draw_circle.proofs.curve.depth.Goals as goal

few : (d : ℕ) → d ≤ 32768 → 875 * d / (d + 8192) ≤ 740
few d h = div-le_of_le-mul (d + 8192) (omega arith)

pub overflow_sub-result : goal.overflow_sub-result
overflow_sub-result c = few c.args.apart (search rules)

pub returns : goal.returns
unfolding depth_of
returns c = record {
  value = refl;
  bound = search rules;
}
