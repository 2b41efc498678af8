use mathlib.Core.Path.{◌≡◌, ap, ◌∙◌}
use Prim.Native.Nat.{ℕ}
use native.Mathlib.Omega.{arith}
use lib.Dec.{eqb}
use Rattle.model.specs.Sets.{some}
use Rattle.call_join.proofs.Refused.{is_key, some_none, some_more}
use borrow.Author.Rules.{rules}
use Rattle.call_join.proofs.has_key.Goals as goal

pub loop-y-init : goal.loop-y-init
loop-y-init c = (search rules, some_none _)

pub loop-y-preserved : goal.loop-y-preserved
loop-y-preserved c =
    let l = c.loop-y in
    let a = c.args in
    (search rules, some_more (is_key a.words.now a.key.0) l.y l.invariant.1 (ap (eqb a.key.0) c.key.ensures.value))

pub returns : goal.returns
returns c = record {
  value =
      let l = c.loop-y in
      let a = c.args in
      let e : l.y ≡ a.n = omega arith in
      l.invariant.1 ∙ ap (λ (k : ℕ). some k (is_key a.words.now a.key.0)) e;
}
