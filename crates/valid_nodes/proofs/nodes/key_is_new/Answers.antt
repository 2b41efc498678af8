use mathlib.Core.Path.{◌≡◌, refl, sym, ap, ◌∙◌}
use mathlib.Core.List.{[], ◌∷◌}
use native.Mathlib.Omega.{arith}
use mathlib.Core.Bool.{not}
use lib.Dec.{eqb}
use lib.ListN.{length, length-append}
use Rattle.std.specs.Slice.Iter.{chunks_exact_rest, chunks_exact_size}
use Rattle.model.specs.Sets.{all}
use Rattle.model.specs.Fields.{bits}
use Rattle.valid_nodes.specs.Hashes.{is_new}
use Rattle.valid_nodes.specs.Nodes.{key_at}
use Rattle.valid_nodes.proofs.Gather.{all_more}
use Rattle.valid_nodes.proofs.Chunks.{left_all, left_none, left_first, left_more}
use Rattle.valid_nodes.proofs.nodes.key_is_new.Goals as goal

pub loop-node-init : goal.loop-node-init
unfolding all
loop-node-init c =
    let made = c.into_iter-node-iterator.ensures.into_iter_gives in (
      left_all _ _ _ (ap chunks_exact_rest made ∙ c.chunks_exact-node-items.ensures.rest),
      ap chunks_exact_size made ∙ c.chunks_exact-node-items.ensures.size,
      refl,
    )

pub loop-node-preserved : goal.loop-node-preserved
loop-node-preserved c =
    let l = c.loop-node in
    let ws = c.args.words.now in
    let s = c.in-Some.ensures.steps in
    let two = s.1.1 ∙ l.invariant.1 in
    let first = left_first ws 1 c.args.x (omega arith) l.invariant.0 _ _ s.1.0 two in
    rw (length-append l.yielded (c.in-Some.node ∷ [])) (
      left_more ws 1 c.args.x (omega arith) l.invariant.0 _ _ s.1.0 two,
      s.0 ∙ l.invariant.1,
      all_more (λ k. not (eqb (bits 0 24 (key_at ws k)) (bits 0 24 (key_at ws c.args.x)))) (length l.yielded) _ _ l.invariant.2
          (rw (sym first, sym c.key.ensures.value, sym c.key-key.ensures.value) c.ne-ok.ensures),
    )

pub returns : goal.returns
unfolding is_new
returns c = record {
  value =
      let l = c.loop-node in
      let e : length l.yielded ≡ c.args.x = left_none _ _ _ (omega arith) l.invariant.0 (rw l.invariant.1 at c.in-None.ensures.steps.1.0) in
      rw e at l.invariant.2;
}
