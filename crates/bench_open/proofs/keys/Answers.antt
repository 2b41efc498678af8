use mathlib.Core.Path.{◌≡◌, ap, ◌∙◌}
use Prim.Native.Nat.{◌+◌, ◌-◌, ◌<◌}
use native.Mathlib.Omega.{arith}
use borrow.Author.Rules.{rules}
use Rattle.model.specs.Fields.{bits}
use Rattle.ring_head.proofs.Arrays.{fill_none, fill_more}
use Rattle.bench_open.proofs.Begins.{word_at, words_long, keys_loaded}
use Rattle.bench_open.proofs.keys.Goals as goal

pub loop-s-init : goal.loop-s-init
loop-s-init c = fill_none _ _ _

pub loop-s-preserved : goal.loop-s-preserved
loop-s-preserved c =
    let below : c.loop-s.s < c.args.n + 1 - 1 = omega (arith, words_long c.args.script.now c.args.n c.requires.lengths, c.loop-s-test.true) in
    fill_more _ _ _ _ _ c.loop-s.invariant _ (search rules) (c.key.ensures.value ∙ ap (bits 0 24) (word_at c.args.script.now _ c.loop-s.s below))

pub returns : goal.returns
returns c =
    let l = c.loop-s in
    let e : l.s ≡ c.args.n = omega (arith, words_long c.args.script.now c.args.n c.requires.lengths, l.auto.s-end, c.loop-s-test.false) in
    record {
      places = l.invariant.long;
      keys = keys_loaded c.args.script.now _ _ c.requires.lengths c.requires.bounds (rw e at l.invariant);
    }
