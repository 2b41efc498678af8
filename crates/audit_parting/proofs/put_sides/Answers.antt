use mathlib.Core.Path.{◌≡◌, sym, ◌∙◌}
use mathlib.Core.List.{List}
use Prim.Native.Nat.{ℕ}
use native.Mathlib.Omega.{arith}
use lib.Bits.{bit_and}
use lib.ListN.{get_or}
use borrow.Author.Rules.{rules}
use Rattle.audit_parting.proofs.Rooms.{roomy_none, roomy_passed, roomy_end, roomy_room, roomy_more}
use Rattle.audit_parting.proofs.Sided.{sided_none, sided_passed, sided_taken}
use Rattle.audit_parting.proofs.put_sides.Goals as goal

-- those of x's group before who are of it after
abbrev group : List ℕ → List ℕ → ℕ → ℕ
group old new x = bit_and (get_or old x 0) (get_or new x 0)

pub loop-x-init : goal.loop-x-init
loop-x-init c = (search rules, roomy_none _ _ _ (search rules), λ r r' a these. sided_none r r' a these _ _)

pub loop-x-preserved-then-not-has : goal.loop-x-preserved-then-not-has
loop-x-preserved-then-not-has c =
    let l = c.loop-x in
    let off = sym c.has.ensures.value ∙ c.if-not-has.true in
    (search rules, roomy_passed l.invariant.1, λ r r' a these. sided_passed r r' a these (l.invariant.2 r r' a these) off)

pub put_side-end-requires : goal.put_side-end-requires
put_side-end-requires c = record {
  room =
      let l = c.loop-x in
      roomy_room l.invariant.1 (group c.args.old.now c.args.new.now l.x) (search rules) c.requires.room;
}

pub loop-x-preserved : goal.loop-x-preserved
loop-x-preserved c =
    let l = c.loop-x in
    let on = sym c.has.ensures.value ∙ c.if-not-has.false in
    let side = group c.args.old.now c.args.new.now l.x in (
      search rules,
      roomy_more l.invariant.1 side c.put_side-end.ensures.bytes.long c.put_side-end.ensures.end (search rules) c.minus-left.ensures.members,
      λ r r' a these. sided_taken r r' a these (l.invariant.2 r r' a these) (search rules) on _ c.put_side-end.ensures.bytes c.minus-left.ensures.members,
    )

pub returns : goal.returns
returns c =
    let l = c.loop-x in
    let e : l.x ≡ c.args.n = omega arith in
    record {
      bytes = λ r r' a these is. rw e at (l.invariant.2 r r' a these).put;
      end = roomy_end l.invariant.1 (search rules);
    }
