use mathlib.Core.Path.{◌≡◌}
use Prim.Native.Nat.{◌+◌, ◌-◌}
use native.Mathlib.Omega.{arith}
use borrow.Author.Rules.{rules}
use Rattle.ring_pairs.proofs.Loads.{load_none, held_room, candidates_room, load_more, load_all}
use Rattle.ring_pairs.proofs.load.Goals as goal

pub loop-z-init : goal.loop-z-init
loop-z-init c = load_none _ _ _

pub raised-held-requires : goal.raised-held-requires
raised-held-requires c = record {
  bounds =
      let l = c.loop-z in
      let e : l.z ≡ l.z - 1 + 1 = omega arith in
      held_room _ _ _ (l.z - 1) _ _ _ _ (rw e at l.invariant) c.requires.words.2;
}

pub raised-candidates-requires : goal.raised-candidates-requires
raised-candidates-requires c = record {
  bounds =
      let l = c.loop-z in
      let e : l.z ≡ l.z - 1 + 1 = omega arith in
      candidates_room _ _ _ (l.z - 1) _ _ _ _ (rw e at l.invariant) c.requires.words.2;
}

pub loop-z-preserved : goal.loop-z-preserved
loop-z-preserved c =
    let l = c.loop-z in
    let e : l.z ≡ l.z - 1 + 1 = omega arith in
    load_more _ _ _ (l.z - 1) _ _ _ _ (rw e at l.invariant) c.requires.words.2 _ _ _ _ _ _
    c.held.ensures.value c.raised-held.ensures.value
    c.candidate.ensures.value c.raised-candidates.ensures.value
    c.spare.ensures.value c.commit.ensures.value

pub returns : goal.returns
returns c = record {
  loaded =
      let l = c.loop-z in
      let e : l.z ≡ 0 = omega arith in
      let me = c.index-me.ensures.value in
      rw (← me)
      (load_all _ _ _ c.requires.words.1 c.requires.words.2 (omega arith) _ _ _ _ _ _ (rw e at l.invariant)
      (rw (← me) at c.without.ensures.members) (rw (← me) at c.without-2.ensures.members) (search rules));
}
