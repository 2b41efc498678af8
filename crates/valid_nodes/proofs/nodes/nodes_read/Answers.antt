use mathlib.Core.Bool.{◌&&◌}
use mathlib.Core.List.{[], ◌∷◌}
use mathlib.Core.Path.{ap, ap₂, ◌∙◌, ◌≡◌, refl}
use Prim.Native.Nat.{◌/◌, ◌^◌}
use lib.Dec.{eqb}
use lib.ListN.{length, length-append}
use Rattle.std.specs.Slice.Iter.{chunks_exact_rest, chunks_exact_size}
use Rattle.model.specs.Words.{key_word, clock_word}
use Rattle.model.specs.Sets.{all}
use Rattle.model.specs.Fields.{bits, flag}
use Rattle.valid_nodes.specs.Nodes.{key_at, clock_at}
use Rattle.valid_nodes.proofs.NodeTests.{key_word_lem, clock_word_lem, nodes_tests}
use Rattle.valid_nodes.proofs.Gather.{or_more, above}
use Rattle.valid_nodes.proofs.Chunks.{left_all, left_none, left_first, left_second, left_more}
use Rattle.valid_nodes.proofs.nodes.nodes_read.Goals as goal

pub loop-node-init : goal.loop-node-init
unfolding all
loop-node-init c =
    let made = c.into_iter-node-iterator.ensures.into_iter_gives in (
      left_all _ _ _ (ap chunks_exact_rest made ∙ c.chunks_exact-node-items.ensures.rest),
      ap chunks_exact_size made ∙ c.chunks_exact-node-items.ensures.size,
      refl,
      refl,
    )

pub loop-node-preserved : goal.loop-node-preserved
loop-node-preserved c =
    let l = c.loop-node in
    let ws = c.args.words.now in
    let k = length l.yielded in
    let s = c.in-Some.ensures.steps in
    let two = s.1.1 ∙ l.invariant.1 in
    let room = c.requires.words.0 in
    let key = left_first ws 1 c.args.n room l.invariant.0 _ _ s.1.0 two in
    let clock = left_second ws 1 c.args.n room l.invariant.0 _ _ s.1.0 two in
    rw (length-append l.yielded (c.in-Some.node ∷ [])) (
      left_more ws 1 c.args.n room l.invariant.0 _ _ s.1.0 two,
      s.0 ∙ l.invariant.1,
      rw key
          (or_more (λ w. w / 2 ^ 25) (above 25) (λ i. eqb (key_at ws i) (key_word (bits 0 24 (key_at ws i)) (flag 24 (key_at ws i))))
          k l.keys _ l.invariant.2 (key_word_lem (key_at ws k))),
      rw clock
          (or_more (λ w. w / 2 ^ 24) (above 24) (λ i. eqb (clock_at ws i) (clock_word (bits 0 24 (clock_at ws i))))
          k l.clocks _ l.invariant.3 (clock_word_lem (clock_at ws k))),
    )

pub returns : goal.returns
returns c = record {
  value =
      let l = c.loop-node in
      let a = c.args in
      let s = c.in-None.ensures.steps in
      let e : length l.yielded ≡ a.n = left_none _ _ _ c.requires.words.0 l.invariant.0 (rw l.invariant.1 at s.1.0) in
      ap₂ ◌&&◌ (rw e at l.invariant.2) (rw e at l.invariant.3) ∙ nodes_tests a.words.now a.n;
}
