use mathlib.Core.Path.{sym, ap, ◌∙◌, fun_ext}
use mathlib.Core.Bool.{not, ◌&&◌}
use native.Mathlib.Omega.{arith}
use lib.Dec.{eqb}
use borrow.Author.Tests.{eqb-false}
use Rattle.model.specs.Sets.{Set, of_bits}
use Rattle.model.specs.Steps as steps
use Rattle.model.specs.Structs.{spare_at}
use Rattle.model.proofs.Laws.{and_right, not_out}
use Rattle.sets.proofs.Bits.{within_part}
use Rattle.records.proofs.Changes.{unchanged}
use Rattle.records.proofs.Calls.{requested}
use Rattle.step_replace.proofs.timer3.Goals as goal

pub returns : goal.returns
unfolding steps.timer3
returns c = record {
  effect =
      let node = c.args.node.now in
      let q = c.requires.lent.table in
      let some = of_bits c.outside-outside.result in
      let low = within_part _ _ some _ (within_part _ _ (of_bits node.own.now.held) _ q.within c.outside-outside.ensures.members)
      (fun_ext c.spared.ensures.members) in
      λ time.
      c.sending.ensures.effect _ _ time _ _ (unchanged c.requires.lent.own_fits)
      (requested node.me.0 time node.own.now _ _ q.few low
      (fun_ext (λ z. c.spared.ensures.members z ∙ ap (λ (S : Set). S z && not (eqb (spare_at node.own.now z) 64)) c.outside-outside.ensures.members))
      (λ z e.
      let other = not (eqb (spare_at node.own.now z) 64) in
      let one = eqb-false (spare_at node.own.now z) 64
      (not_out (eqb (spare_at node.own.now z) 64) (and_right (some z) other (sym (c.spared.ensures.members z) ∙ e))) in
      omega (arith, c.requires.lent.spare_high z)));
}
