use mathlib.Core.Path.{◌≡◌, ap, ap₂, ◌∙◌}
use Prim.Native.Nat.{ℕ}
use native.Mathlib.Omega.{arith}
use Rattle.model.specs.Leafset.{size}
use Rattle.model.specs.Sets.{some}
use Rattle.model.specs.Words.{decode_table, decode}
use Rattle.call_join.proofs.Refused.{is_key, key_shared, some_none, some_more}
use borrow.Author.Rules.{rules}
use Rattle.call_join.proofs.shares_key.Goals as goal

pub loop-x-init : goal.loop-x-init
loop-x-init c = (search rules, c.nodes-x-end.ensures.value, c.nodes-k.ensures.value, some_none _)

pub has_key-found-requires : goal.has_key-found-requires
has_key-found-requires c = record { words = (c.requires.second.0, c.loop-x.invariant.2, omega (arith, c.loop-x.invariant.2, c.requires.second.1)) }

pub loop-x-preserved : goal.loop-x-preserved
loop-x-preserved c =
    let l = c.loop-x in
    let a = c.args in (
      search rules,
      l.invariant.1,
      l.invariant.2,
      some_more (key_shared a.first.now a.second.now) l.x l.invariant.3
          (c.has_key-found.ensures.value ∙ ap₂ (λ (k q : ℕ). some k (is_key a.second.now q)) l.invariant.2 c.key.ensures.value),
    )

pub returns : goal.returns
unfolding decode
returns c = record {
  value =
      let l = c.loop-x in
      let a = c.args in
      let e : l.x ≡ size (decode_table a.first.now) = omega (arith, l.invariant.1) in
      l.invariant.3 ∙ ap (λ (k : ℕ). some k (key_shared a.first.now a.second.now)) e;
}
