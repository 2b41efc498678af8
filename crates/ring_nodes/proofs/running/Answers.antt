use mathlib.Core.Path.{◌≡◌, sym, ap, ◌∙◌}
use mathlib.Core.Bool.{◌&&◌}
use Prim.Native.Nat.{ℕ}
use native.Mathlib.Omega.{arith}
use lib.Dec.{ltb}
use borrow.Author.Rules.{rules}
use Rattle.model.specs.Sets.{Set, of_bits, with}
use Rattle.model.specs.Leafset.{size}
use Rattle.model.specs.Fields.{flag}
use Rattle.model.specs.Words.{at, node_place, decode_table, decode_node, decode}
use Rattle.sets.proofs.Bits.{of_none}
use Rattle.sets.proofs.UpTo.{up_to_none, up_to_kept, up_to_passed}
use Rattle.ring_nodes.proofs.running.Goals as goal
use Rattle.ring_nodes.proofs.running.Goals.{then-running, else-running}

pub loop-x-init : goal.loop-x-init
loop-x-init c = (search rules, up_to_none _ of_none)

pub loop-x-preserved : goal.loop-x-preserved
loop-x-preserved c =
    let l = c.loop-x in (
      omega arith,
      elim c.if-running.branch [
        | then-running w ↦
            ap of_bits w.set-is
            ∙ w.with-set.ensures.members
            ∙ ap (λ (S : Set). with S l.x) l.invariant.1
            ∙ up_to_kept _ l.x (sym c.running.ensures.value ∙ w.if-running.true)
        | else-running w ↦
            ap of_bits w.set-is ∙ l.invariant.1 ∙ up_to_passed _ l.x (sym c.running.ensures.value ∙ w.if-running.false)
      ],
    )

pub returns : goal.returns
unfolding decode decode_node
returns c = record {
  members =
      let l = c.loop-x in
      let e : l.x ≡ size (decode_table c.args.words.now) = omega arith in
      λ y. ap (λ (S : Set). S y) l.invariant.1 ∙ ap (λ (k : ℕ). ltb y k && flag 24 (at c.args.words.now (node_place y))) e;
}
