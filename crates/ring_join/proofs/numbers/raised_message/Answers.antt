-- Part by part: the numbers by `raised`, the view by the law of a set that is moved up.
use Prim.Native.Nat.{◌^◌, ◌<◌}
use native.Mathlib.Omega.{arith}
use Rattle.ring_join.proofs.Raises.{raised_view}
use Rattle.ring_join.proofs.numbers.raised_message.Goals as goal

pub returns-clause-message : goal.returns-clause-message
returns-clause-message c =
    let view_room : c.args.message.view < 2 ^ 64 = omega arith in
    λ i. record {
      type = c.args.message.tag;
      sender = c.raised.ensures.value i;
      receiver = c.raised-2.ensures.value i;
      subject = c.raised-3.ensures.value i;
      stamp = c.args.message.stamp.0;
      view = raised_view c.args.message.view c.args.n c.requires.room.0 view_room c.requires.low.2 i;
    }
