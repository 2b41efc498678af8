use mathlib.Core.Path.{◌≡◌, refl, sym, ap, ◌∙◌}
use Prim.Native.Nat.{ℕ}
use native.Mathlib.Nat.{not-suc-le-zero}
use native.Mathlib.Omega.{arith}
use mathlib.Core.Bool.{true, false}
use lib.ListN.{get_or}
use borrow.Author.Rules.{rules}
use Rattle.model.proofs.Laws.{clash, is_false, all_out}
use Rattle.model.specs.Sets.{all}
use Rattle.valid_nodes.specs.Hashes.{is_new}
use Rattle.valid_nodes.proofs.NodeTests.{unmet_new, hashed_more, keys_tests}
use Rattle.valid_nodes.proofs.Gather.{all_more}
use Rattle.valid_nodes.proofs.nodes.keys_differ.Goals as goal

pub loop-x-init : goal.loop-x-init
unfolding all
loop-x-init c = (search rules, refl, refl, λ y h. absurd (not-suc-le-zero h))

pub hashed_is_new-requires : goal.hashed_is_new-requires
hashed_is_new-requires c = record {
  words =
      let l = c.loop-x in
      let ws = c.args.words.now in (
        omega arith,
        omega arith,
        λ unmet. unmet_new l.met ws l.x l.invariant.3 (ap (λ (i : ℕ). get_or l.met i false) (sym c.hash-h.ensures.value) ∙ unmet),
      );
}

pub returns-then-not-hashed_is_new : goal.returns-then-not-hashed_is_new
returns-then-not-hashed_is_new c = record {
  value =
      let l = c.loop-x in
      let a = c.args in
      let ws = a.words.now in
      let old : is_new ws l.x ≡ false = sym c.hashed_is_new.ensures.value ∙ c.if-not-hashed_is_new.true in
      sym (sym (keys_tests ws a.n c.requires.words.2)
      ∙ is_false (all a.n (is_new ws)) (λ t. clash (all_out a.n (is_new ws) t l.x (omega arith)) old));
}

pub loop-x-preserved : goal.loop-x-preserved
loop-x-preserved c =
    let l = c.loop-x in
    let ws = c.args.words.now in (
      search rules,
      search rules,
      all_more (is_new ws) l.x true true l.invariant.2 (sym c.if-not-hashed_is_new.false ∙ c.hashed_is_new.ensures.value),
      rw c.hash-h.ensures.value (hashed_more l.met ws l.x l.invariant.1 l.invariant.3),
    )

pub returns : goal.returns
returns c = record {
  value =
      let l = c.loop-x in
      let a = c.args in
      let e : l.x ≡ a.n = omega arith in
      (rw e at l.invariant.2) ∙ keys_tests a.words.now a.n c.requires.words.2;
}
