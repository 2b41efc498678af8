use native.Mathlib.Omega.{arith}
use Rattle.sets.proofs.Turns.{begins, turn, no_more}
use Rattle.bench_sets.proofs.Listing.{listing_none, listing_more, listing_room, listing_all}
use Rattle.bench_sets.proofs.put_members.Goals as goal

pub loop-y-init : goal.loop-y-init
loop-y-init c =
    listing_none _ _ _ (begins c.members-y-items.ensures.all c.into_iter-y-iterator.ensures.into_iter_gives)

pub put_next-end-requires : goal.put_next-end-requires
put_next-end-requires c = record {
  room =
      let l = c.loop-y.invariant in
      let h = listing_room l (turn c.loop-y.y-iterator c.next.new.self c.in-Some.ensures.steps) in
      omega (arith, l.put.long);
}

pub loop-y-preserved : goal.loop-y-preserved
loop-y-preserved c =
    listing_more c.loop-y.invariant (turn c.loop-y.y-iterator c.next.new.self c.in-Some.ensures.steps) c.from.ensures
    c.put_next-end.ensures.bytes c.put_next-end.ensures.end

pub shape_of-out : goal.shape_of-out
shape_of-out c = c.loop-y.invariant.put.long

pub returns : goal.returns
returns c =
    let l = c.loop-y.invariant in
    record {
      bytes = listing_all l (no_more c.loop-y.y-iterator c.in-None.ensures.steps);
      end = omega (arith, l.room);
    }
