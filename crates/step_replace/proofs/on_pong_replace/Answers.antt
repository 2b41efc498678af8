use mathlib.Core.Path.{◌≡◌, refl, sym, ap, ap₂, ◌∙◌}
use mathlib.Core.Bool.{Bool, false, not, ◌&&◌, and-false}
use Prim.Native.Nat.{ℕ, ◌<◌}
use native.Mathlib.Omega.{arith}
use lib.Dec.{eqb}
use lib.ListN.{get_or}
use Rattle.model.specs.Leafset.{leafset}
use Rattle.model.proofs.Laws.{and_in}
use Rattle.model.specs.Sets.{Set, of_bits}
use Rattle.model.specs.Steps as steps
use Rattle.model.specs.Structs.{table_of, spare_at, RoomNode}
use Rattle.model.specs.declared.node.NodeRecord.{NodeRecord}
use Rattle.sets.proofs.Arrays.{spare_read}
use Rattle.records.proofs.Changes.{wider, unchanged}
use Rattle.step_replace.proofs.on_pong_replace.Goals as goal
use Rattle.step_replace.proofs.on_pong_replace.Goals.{else-has-via-then-has+else-eq, else-has-via-else-has}

-- "if z is held, outside my leafset, and its spare is y", as the code asks it
replace-test : (q : NodeRecord) (S : Set) (y z out : ℕ) (b d : Bool) → RoomNode q → z < 64 → b ≡ of_bits out z → of_bits out ≡ S
    → d ≡ eqb (get_or q.spare z (record { 0 = 0 })).0 y → (b && d) ≡ (S z && eqb (spare_at q z) y)
replace-test q S y z out b d room h e f g = ap₂ ◌&&◌ (e ∙ ap (λ (R : Set). R z) f) (g ∙ ap (λ (s : ℕ). eqb s y) (spare_read q z room h))

pub replaced-requires : goal.replaced-requires
replaced-requires c =
    record {
      «record» = (
        c.requires.message.0,
        omega (arith, c.requires.message.1),
        c.requires.message.2,
        wider c.requires.lent.own_fits c.requires.lent.table.few,
      );
    }

pub returns-then-eq : goal.returns-then-eq
unfolding steps.on_pong_replace
returns-then-eq c = record {
  effect =
      let a = c.args in
      let asked = replace-test a.node.now.own.now _ a.message.sender.0 a.message.subject.0 _ _ _
      c.requires.lent.own_fits.room c.requires.message.2 c.has.ensures.value c.outside-outside.ensures.members (rw c.index.ensures.value at c.eq.ensures)
      in
      rw (sym asked ∙ and_in c.if-has.true c.if-eq.true)
      (c.quiet.ensures.effect _ _ _ _ (c.replaced.ensures.record _ c.requires.lent.own_fits c.requires.message.1));
}

pub returns-else-has : goal.returns-else-has
unfolding steps.on_pong_replace
returns-else-has c = record {
  effect =
      let a = c.args in
      let room = c.requires.lent.own_fits.room in
      let low = c.requires.message.2 in
      let S : Set = λ z. of_bits a.node.now.own.now.held z && not
      (leafset (table_of a.node.now.sides a.node.now.keys.now) a.node.now.me.0 (of_bits a.node.now.own.now.held) z) in
      let stays : (S a.message.subject.0 && eqb (spare_at a.node.now.own.now a.message.subject.0) a.message.sender.0) ≡ false =
      elim c.else-has.branch [
        | else-has-via-then-has+else-eq w ↦
            sym (replace-test a.node.now.own.now S a.message.sender.0 a.message.subject.0 _ _ _ room low
            c.has.ensures.value c.outside-outside.ensures.members (rw w.index.ensures.value at w.eq.ensures))
            ∙ ap (◌&&◌ c.has.result) w.if-eq.false ∙ and-false c.has.result
        | else-has-via-else-has w ↦
            rw (sym (ap (λ (R : Set). R a.message.subject.0) c.outside-outside.ensures.members) ∙ sym c.has.ensures.value ∙ w.if-has.false) refl
      ]
      in
      rw stays (c.quiet-else-has.ensures.effect _ _ _ _ (unchanged c.requires.lent.own_fits));
}
