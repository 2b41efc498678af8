use mathlib.Core.Path.{◌≡◌, refl, sym, ap, ◌∙◌}
use mathlib.Core.Bool.{not, ◌&&◌}
use Prim.Native.Nat.{ℕ}
use native.Mathlib.Omega.{arith}
use borrow.Author.Rules.{rules}
use Rattle.model.specs.Sets.{Set, of_bits}
use Rattle.model.specs.Words.{decode}
use Rattle.sets.proofs.Bits.{none_left}
use Rattle.ring_connection.proofs.Linked.{running_low, running_closed}
use Rattle.ring_connection.proofs.Turn.{next}
use Rattle.ring_connection.proofs.Counting.{counted_none, counted_few, counted_next, counted_end, one_less}
use Rattle.audit_parting.proofs.Finding.{found_none, found_all, rest_is, found_next}
use Rattle.audit_parting.proofs.find.Goals as goal

-- a set without another, node by node
without : (left group rest : ℕ) → of_bits rest ≡ (λ (b : ℕ). of_bits left b && not (of_bits group b))
    → (b : ℕ) → of_bits rest b ≡ (of_bits left b && not (of_bits group b))
without left group rest is b = ap (λ (S : Set). S b) is

pub loop-left-init : goal.loop-left-init
loop-left-init c = (
  search rules,
  counted_none _ (running_closed _ c.running-left.ensures.members) c.running-left.ensures.members,
  found_none _ (c.fill.ensures.len ∙ c.requires.room) (λ x h. c.fill.ensures.clones x 0 (omega arith) refl) c.running-left.ensures.members,
)

pub group-group-requires : goal.group-group-requires
group-group-requires c = record {
  words =
      let l = c.loop-left in
      (search rules, l.invariant.1.closed, (next l.left _ l.invariant.0 c.loop-left-test.true c.lowest.ensures.value).member);
}

pub fill-requires-in-loop-left : goal.fill-requires-in-loop-left
fill-requires-in-loop-left c = record { room = c.loop-left.invariant.2.long }

pub overflow_add-count : goal.overflow_add-count
unfolding decode
overflow_add-count c =
    omega (arith, counted_few _ c.loop-left.invariant.1)

pub loop-left-smaller : goal.loop-left-smaller
loop-left-smaller c =
    let ws = c.args.words.now in
    let l = c.loop-left in
    let f = next l.left _ l.invariant.0 c.loop-left-test.true c.lowest.ensures.value in
    let less = without l.left c.group-group.result c.minus-left.result c.minus-left.ensures.members in
    let is = rest_is (decode ws) (running_low ws) l.invariant.1.closed f.member _ c.group-group.ensures.members less in
    omega (arith, one_less (decode ws) (running_low ws) f is l.invariant.1)

pub loop-left-preserved : goal.loop-left-preserved
loop-left-preserved c =
    let ws = c.args.words.now in
    let l = c.loop-left in
    let f = next l.left _ l.invariant.0 c.loop-left-test.true c.lowest.ensures.value in
    let less = without l.left c.group-group.result c.minus-left.result c.minus-left.ensures.members in
    let is = rest_is (decode ws) (running_low ws) l.invariant.1.closed f.member _ c.group-group.ensures.members less in (
      search rules,
      counted_next (decode ws) (running_low ws) f is l.invariant.1,
      found_next (decode ws) (running_low ws) l.invariant.1.closed f.member _ c.group-group.ensures.members less l.invariant.2
          c.fill-in-loop-left.ensures.groups,
    )

pub shape_of-groups : goal.shape_of-groups
shape_of-groups c =
    c.loop-left.invariant.2.long ∙ sym c.requires.room

pub returns : goal.returns
returns c =
    let l = c.loop-left in
    let none = none_left c.loop-left-test.false in
    record {
      groups = found_all _ l.invariant.2 none;
      count = counted_end _ l.invariant.1 none;
    }
