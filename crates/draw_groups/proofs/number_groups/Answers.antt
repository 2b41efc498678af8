use mathlib.Core.Path.{◌≡◌, refl, ap, ◌∙◌}
use mathlib.Core.Bool.{Bool, true, false, not, ◌&&◌}
use Prim.Native.Nat.{ℕ}
use native.Mathlib.Omega.{arith}
use Rattle.model.specs.Sets.{Set, of_bits}
use Rattle.model.specs.Ring.{Ring}
use Rattle.model.specs.Words.{decode}
use Rattle.model.specs.Connection.{connected}
use Rattle.sets.proofs.Bits.{none_left}
use Rattle.ring_connection.proofs.Linked.{running_low, running_closed}
use Rattle.ring_connection.proofs.Turn.{next}
use Rattle.ring_connection.proofs.Counting.{counted_none, counted_few, counted_next, counted_end, one_less}
use borrow.Author.Rules.{rules}
use Rattle.draw_groups.proofs.number_groups.Goals as goal

others : (p q : Bool) → (p && not (p && q)) ≡ (p && not q)
others true q = refl
others false q = refl

-- what is left without the group is what is not connected to its node a
left-apart : (r : Ring) (left group a rest : ℕ) → ((b : ℕ) → of_bits group b ≡ (of_bits left b && connected r a b))
    → of_bits rest ≡ (λ (y : ℕ). of_bits left y && not (of_bits group y)) → (b : ℕ) → of_bits rest b ≡ (of_bits left b && not (connected r a b))
left-apart r left group a rest g m b =
    ap (λ (S : Set). S b) m ∙ ap (λ (p : Bool). of_bits left b && not p) (g b) ∙ others (of_bits left b) (connected r a b)

pub loop-left-init : goal.loop-left-init
loop-left-init c =
    (search rules, counted_none _ (running_closed _ c.running-left.ensures.members) c.running-left.ensures.members, search rules)

pub group-group-requires : goal.group-group-requires
group-group-requires c = record {
  words =
      let l = c.loop-left in
      (search rules, l.invariant.1.closed, (next l.left _ l.invariant.0 c.loop-left-test.true c.lowest.ensures.value).member);
}

pub overflow_cast-count : goal.overflow_cast-count
unfolding decode
overflow_cast-count c = record { fits = omega (arith, counted_few _ c.loop-left.invariant.1) }

pub overflow_add-count : goal.overflow_add-count
unfolding decode
overflow_add-count c =
    record { fits = omega (arith, counted_few _ c.loop-left.invariant.1) }

pub loop-left-smaller : goal.loop-left-smaller
loop-left-smaller c =
    let ws = c.args.words.now in
    let l = c.loop-left in
    let is = left-apart (decode ws) l.left c.group-group.result _ c.minus-left.result c.group-group.ensures.members c.minus-left.ensures.members in
    let lowest = next l.left _ l.invariant.0 c.loop-left-test.true c.lowest.ensures.value in
    omega (arith, one_less (decode ws) (running_low ws) lowest is l.invariant.1)

pub loop-left-preserved : goal.loop-left-preserved
loop-left-preserved c =
    let ws = c.args.words.now in
    let l = c.loop-left in
    let is = left-apart (decode ws) l.left c.group-group.result _ c.minus-left.result c.group-group.ensures.members c.minus-left.ensures.members in
    let lowest = next l.left _ l.invariant.0 c.loop-left-test.true c.lowest.ensures.value in
    (search rules, counted_next (decode ws) (running_low ws) lowest is l.invariant.1, search rules)

pub returns : goal.returns
returns c = record {
  count = counted_end _ c.loop-left.invariant.1 (none_left c.loop-left-test.false);
  places = search rules;
}
