use mathlib.Core.Bool.{true, ◌||◌}
use mathlib.Core.Path.{◌≡◌, sym, ap, ◌∙◌}
use Prim.Native.Nat.{ℕ}
use native.Mathlib.Omega.{arith}
use lib.Dec.{eqb}
use borrow.Author.Rules.{rules}
use Rattle.model.specs.Structs.{any_sides}
use Rattle.model.specs.Steps as steps
use Rattle.records.proofs.Changes.{unchanged}
use Rattle.leafset_choice.proofs.Choices.{some_successor}
use Rattle.step_deloopy.proofs.Tests.{nobody, stops_at_me, stops_idle, goes, somebody}
use Rattle.sets.specs.Numbers.{number_or_none}
use Rattle.sets.proofs.Numbers.{is_some_low}
use Rattle.step_deloopy.proofs.on_ping_deloopy.Goals as goal
use Rattle.step_deloopy.proofs.on_ping_deloopy.Goals.{then-eq-via-then-eq, then-eq-via-else-eq+then-own-eq0}

pub returns-then-eq : goal.returns-then-eq
unfolding steps.on_ping_deloopy
returns-then-eq c = record {
  effect =
      let q = c.requires.table.0 in
      let stops : (eqb c.args.message.subject.0 c.args.me.0 || nobody q (search rules)) ≡ true =
      elim c.then-eq.branch [
        | then-eq-via-then-eq w ↦ stops_at_me q (search rules) c.eq.ensures w.if-eq.true
        | then-eq-via-else-eq+then-own-eq0 w ↦ stops_idle q (search rules) c.eq.ensures w.if-own-eq0.true
      ]
      in
      λ sides time.
      rw stops (c.quiet.ensures.effect _ _ _ _ (unchanged c.requires.table.1));
}

pub returns-then-passes_zero : goal.returns-then-passes_zero
unfolding steps.on_ping_deloopy
returns-then-passes_zero c = record {
  effect =
      λ sides time.
      rw (
        goes c.requires.table.0 (search rules) c.eq.ensures c.if-eq.false c.if-own-eq0.false,
        sym (c.passes_zero.ensures.value sides) ∙ c.if-passes_zero.true,
      )
      (c.replying.ensures.effect _ _ _ _ _ (c.add_candidate-next.ensures.record _ c.requires.table.1 c.requires.table.2) c.plain.ensures.message);
}

pub unwrap-next-requires : goal.unwrap-next-requires
unwrap-next-requires c =
    let q = c.requires.table.0 in
    let low = some_successor any_sides q (somebody q (search rules) c.if-own-eq0.false) in
    is_some_low c.successor.result (omega (arith, low, q.few, c.successor.ensures.value any_sides))

pub naming-requires : goal.naming-requires
naming-requires c = record {
  bounds =
      let q = c.requires.table.0 in
      let low = some_successor any_sides q (somebody q (search rules) c.if-own-eq0.false) in (
        omega arith,
        omega (arith, q.node, q.few),
        omega (arith, low, q.few, ap number_or_none (sym c.unwrap-next.ensures) ∙ c.successor.ensures.value any_sides),
        omega (arith, c.requires.table.2, q.node, q.few),
      );
}

pub returns : goal.returns
unfolding steps.on_ping_deloopy
returns c = record {
  effect =
      let a = c.args in
      λ sides time.
      rw (
        goes c.requires.table.0 (search rules) c.eq.ensures c.if-eq.false c.if-own-eq0.false,
        sym (c.passes_zero.ensures.value sides) ∙ c.if-passes_zero.false,
      )
      (c.replying-2.ensures.effect _ _ _ _ _ (unchanged c.requires.table.1) (record {
        message =
            c.naming.ensures.message.message
            ∙ ap (λ (y : ℕ). steps.naming 11 a.me.0 y a.message.subject.0) (ap number_or_none (sym c.unwrap-next.ensures) ∙ c.successor.ensures.value sides);
        room = c.naming.ensures.message.room;
      }));
}
