use mathlib.Core.Path.{sym, ◌∙◌}
use Prim.Native.Nat.{◌≤◌}
use native.Mathlib.Omega.{arith}
use native.Mathlib.Nat.{mul-le-mul_left}
use borrow.Author.Rules.{rules}
use Rattle.text_reader.proofs.Tokens.{none_spelled, unit_small, one_more_lem, no_digit, all_spelled}
use Rattle.text_reader.proofs.token.spelled.Goals as goal

pub loop-rest-init : goal.loop-rest-init
loop-rest-init c = none_spelled _ _ (search rules)

pub returns-then-base-next : goal.returns-then-base-next
returns-then-base-next c = record {
  value =
      sym (no_digit _ _ _ _ _ c.requires.base c.loop-rest-test.true c.loop-rest.invariant _
      (c.from-next.ensures ∙ c.digit.ensures.value) c.if-base-next.true);
}

pub overflow_mul-value : goal.overflow_mul-value
overflow_mul-value c =
    let u = unit_small c.loop-rest.invariant in
    let d : c.from-next.result ≤ 16 = omega (arith, c.from-next.ensures, c.digit.ensures.bound) in
    omega (arith, mul-le-mul_left c.loop-rest.unit d)

pub overflow_add-value : goal.overflow_add-value
overflow_add-value c =
    let u = unit_small c.loop-rest.invariant in
    let d : c.from-next.result ≤ 16 = omega (arith, c.from-next.ensures, c.digit.ensures.bound) in
    omega (arith, mul-le-mul_left c.loop-rest.unit d, c.loop-rest.invariant.less)

pub overflow_mul-unit : goal.overflow_mul-unit
overflow_mul-unit c =
    let u = unit_small c.loop-rest.invariant in
    omega (arith, mul-le-mul_left c.loop-rest.unit c.requires.base)

pub loop-rest-preserved : goal.loop-rest-preserved
loop-rest-preserved c =
    one_more_lem _ _ _ _ _ c.requires.base c.loop-rest-test.true c.loop-rest.invariant _
    (c.from-next.ensures ∙ c.digit.ensures.value) c.if-base-next.false

pub returns : goal.returns
returns c = record {
  value =
      let s = c.loop-rest.invariant in
      let is = all_spelled s (search rules) in
      (is, omega (arith, is, s.less, unit_small s));
}

pub overflow_cast-result : goal.overflow_cast-result
overflow_cast-result c =
    let s = c.loop-rest.invariant in
    omega (arith, s.less, unit_small s)
