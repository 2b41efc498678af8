use mathlib.Core.Path.{refl, sym, ap, ◌∙◌}
use mathlib.Core.Bool.{Bool, ◌||◌}
use native.Mathlib.Omega.{arith}
use lib.Dec.{eqb}
use lib.Bits.{or_lt, or_add_and}
use borrow.Author.Tests.{eq-eqb}
use Rattle.model.specs.Sets.{Set, of_bits, without}
use Rattle.model.proofs.Laws.{or_right}
use Rattle.model.proofs.Bits.{bit_below}
use Rattle.sets.proofs.Bits.{of_none, none_left}
use Rattle.ring_connection.proofs.Linked.{running_low}
use Rattle.ring_connection.proofs.Walk.{walk_start, walk_end}
use Rattle.ring_connection.proofs.Turn.{next, found_le, turn}
use borrow.Author.Rules.{rules}
use Rattle.ring_connection.proofs.apart.Goals as goal

pub without-unseen-requires : goal.without-unseen-requires
without-unseen-requires c = record { bounds = bit_below 64 c.args.set c.args.a.0 c.ranges.set.fits c.requires.words.2 }

pub with-todo-requires : goal.with-todo-requires
with-todo-requires c = record { bounds = bit_below 64 c.args.set c.args.a.0 c.ranges.set.fits c.requires.words.2 }

pub loop-todo-init : goal.loop-todo-init
loop-todo-init c =
    let a = c.args.a.0 in (
      search rules,
      search rules,
      walk_start c.requires.words.1 c.requires.words.2
          (λ y. ap (λ (S : Set). S y) c.with-todo.ensures.members ∙ ap (λ (b : Bool). b || eqb y a) (of_none y))
          (λ y. ap (λ (S : Set). S y) c.without-unseen.ensures.members),
    )

pub neighbours-found-requires : goal.neighbours-found-requires
neighbours-found-requires c =
    let l = c.loop-todo in
    record {
      length = search rules;
      bounds = (next l.todo _ l.invariant.1 c.loop-todo-test.true c.lowest-x.ensures.value).below;
    }

pub overflow_sub-unseen : goal.overflow_sub-unseen
overflow_sub-unseen c =
    let l = c.loop-todo in
    found_le c.args.words.now l.unseen c.neighbours-found.result c.lowest-x.result.0
    l.invariant.0 (search rules) c.neighbours-found.ensures.members

pub loop-todo-smaller : goal.loop-todo-smaller
loop-todo-smaller c =
    let l = c.loop-todo in
    omega (
      arith,
      or_add_and c.rest.result c.neighbours-found.result,
      found_le c.args.words.now l.unseen c.neighbours-found.result c.lowest-x.result.0 l.invariant.0 (search rules) c.neighbours-found.ensures.members,
      c.rest.ensures.rest.less,
    )

pub loop-todo-preserved : goal.loop-todo-preserved
loop-todo-preserved c =
    let l = c.loop-todo in
    let x = c.lowest-x.result.0 in
    let f = next l.todo x l.invariant.1 c.loop-todo-test.true c.lowest-x.ensures.value in (
      omega arith,
      or_lt 64 c.rest.result c.neighbours-found.result (search rules) (search rules),
      λ a s. turn c.args.words.now l.unseen c.neighbours-found.result x l.invariant.0 (search rules) c.neighbours-found.ensures.members
          c.requires.words.1 l.todo (l.invariant.2 a s) f.member c.rest.result
          (c.rest.ensures.rest.set ∙ ap (without (of_bits l.todo)) (sym c.lowest-x.ensures.value)),
    )

pub returns : goal.returns
returns c = record {
  members =
      let a = c.args.a.0 in
      let s = ap (λ (S : Set). S a) c.with-todo.ensures.members ∙ or_right (of_bits 0 a) (eq-eqb a a refl) in
      walk_end c.requires.words.1 (c.loop-todo.invariant.2 a s) (running_low c.args.words.now)
      (none_left c.loop-todo-test.false) c.requires.words.2;
}
