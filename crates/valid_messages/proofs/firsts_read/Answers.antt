use mathlib.Core.Path.{◌≡◌, refl, ◌∙◌, ap}
use Prim.Native.Nat.{ℕ, min, ◌+◌}
use native.Mathlib.Omega.{arith}
use Rattle.model.specs.Sets.{all}
use Rattle.valid_messages.specs.Parts.{first_reads}
use Rattle.valid_messages.proofs.MessageTests.{block_more}
use Rattle.valid_messages.proofs.firsts_read.Goals as goal

pub loop-from-init : goal.loop-from-init
unfolding all
loop-from-init c = λ t e. let none : min 0 c.args.m ≡ 0 = omega arith in rw none refl

pub loop-from-preserved : goal.loop-from-preserved
loop-from-preserved c =
    let l = c.loop-from in
    let before : min l.from c.args.m ≡ l.from = omega arith in
    let after : l.from + c.min.result ≡ min (l.from + 64) c.args.m = omega arith in
    λ t e.
    block_more (first_reads c.args.words.now c.args.base t) l.from c.min.result l.ok c.block_reads-ok.result
    (rw before at (l.invariant t e)) (c.block_reads-ok.ensures.value t e)
    ∙ ap (λ (k : ℕ). all k (first_reads c.args.words.now c.args.base t)) after

pub returns : goal.returns
returns c = record {
  value = λ t e.
      let l = c.loop-from in
      let done : min l.from c.args.m ≡ c.args.m = omega arith in
      rw done at (l.invariant t e);
}

-- after the last block
pub returns-2 : goal.returns-2
returns-2 c = record {
  value =
      let l = c.loop-from in
      let before : min l.from c.args.m ≡ l.from = omega arith in
      let after : l.from + c.min.result ≡ c.args.m = omega arith in
      λ t e.
      block_more (first_reads c.args.words.now c.args.base t) l.from c.min.result l.ok c.block_reads-ok.result
      (rw before at (l.invariant t e)) (c.block_reads-ok.ensures.value t e)
      ∙ ap (λ (k : ℕ). all k (first_reads c.args.words.now c.args.base t)) after;
}
