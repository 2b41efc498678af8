use mathlib.Core.Path.{sym, ap, ◌∙◌}
use Prim.Native.Nat.{ℕ}
use native.Mathlib.Omega.{arith}
use Rattle.model.specs.Structs.{any_sides}
use Rattle.model.specs.Steps as steps
use Rattle.records.proofs.Changes.{unchanged}
use Rattle.leafset_choice.proofs.Choices.{passes_some, some_successor}
use Rattle.sets.specs.Numbers.{number_or_none}
use Rattle.sets.proofs.Numbers.{is_some_low}
use Rattle.step_deloopy.proofs.timer4.Goals as goal

pub returns-then-not-passes_zero : goal.returns-then-not-passes_zero
unfolding steps.timer4
returns-then-not-passes_zero c = record {
  effect =
      λ sides time.
      rw (sym (c.passes_zero.ensures.value sides) ∙ c.if-not-passes_zero.true) (c.quiet.ensures.effect _ _ _ _ (unchanged c.requires.record));
}

pub naming-requires : goal.naming-requires
naming-requires c = record {
  bounds =
      let passes = sym (c.passes_zero.ensures.value any_sides) ∙ c.if-not-passes_zero.false in
      let low = some_successor any_sides c.requires.table (passes_some any_sides c.requires.table passes) in (
        omega arith,
        omega (arith, c.requires.table.node, c.requires.table.few),
        omega (arith, low, c.requires.table.few, ap number_or_none (sym c.unwrap-next.ensures) ∙ c.successor.ensures.value any_sides),
        omega (arith, low, c.requires.table.node, c.requires.table.few, ap number_or_none (sym c.unwrap-next.ensures) ∙ c.successor.ensures.value any_sides),
      );
}

pub returns : goal.returns
unfolding steps.timer4
returns c = record {
  effect =
      let a = c.args in
      λ sides time.
      rw (sym (c.passes_zero.ensures.value sides) ∙ c.if-not-passes_zero.false)
      (c.replying.ensures.effect _ _ _ _ _ (unchanged c.requires.record) (record {
        message = c.naming.ensures.message.message
            ∙ ap (λ (y : ℕ). steps.naming 11 a.me.0 y a.me.0) (ap number_or_none (sym c.unwrap-next.ensures) ∙ c.successor.ensures.value sides);
        room = c.naming.ensures.message.room;
      }));
}

pub unwrap-next-requires : goal.unwrap-next-requires
unwrap-next-requires c =
    let q = c.requires.table in
    let low = some_successor any_sides q (passes_some any_sides q (sym (c.passes_zero.ensures.value any_sides) ∙ c.if-not-passes_zero.false)) in
    is_some_low c.successor.result (omega (arith, low, q.few, c.successor.ensures.value any_sides))
