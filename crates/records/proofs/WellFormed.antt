-- What the steps ask for is so in a well-formed ring: of a node's record, and of a message in flight.
use mathlib.Core.Path.{◌≡◌}
use Prim.Native.Nat.{ℕ, ◌≤◌}
use native.Mathlib.Omega.{arith}
use lib.ListN.{length}
use Rattle.model.specs.WellFormed.{WellFormedOwn, WellFormedMessage}
use Rattle.model.specs.Structs.{own_of, message_of}
use Rattle.model.specs.declared.node.NodeRecord.{NodeRecord}
use Rattle.model.specs.declared.message.MessageRecord.{MessageRecord}
use Rattle.model.proofs.Types.{type_room}
use Rattle.model.proofs.RoundTrip.{spare_high, subject_high}
use Rattle.records.specs.Effects.{OwnFits, Delivered}

pub own_fits : {n x clock : ℕ} (q : NodeRecord) → n ≤ 64 → clock ≤ 16777215 → length q.commit ≡ 64 → length q.spare ≡ 64
    → WellFormedOwn n x clock (own_of q) → OwnFits n q
own_fits q few high commits spares w = record {
  room = record {
    commit_room = λ z. omega (arith, w.commit_high z);
    spare_room = λ z. omega (arith, spare_high few (w.spare_other z));
    commit_long = commits;
    spare_long = spares;
  };
  held_within = λ y e. (w.held_other y e).low;
  candidates_within = λ y e. (w.candidate_other y e).low;
}

pub delivered : {n : ℕ} (m : MessageRecord) → n ≤ 64 → WellFormedMessage n (message_of m) → Delivered n m
delivered {n} m few w = record {
  room = record {
    tag_room = type_room m.tag w.type_known;
    sender_room = omega (arith, w.sender_low);
    receiver_room = omega (arith, w.receiver_low);
    subject_room = omega (arith, subject_high n (message_of m) few w);
    stamp_room = omega (arith, w.stamp_high);
  };
  sender_low = w.sender_low;
  subject_low = w.subject_low;
  view_within = λ y e. (w.view_other y e).low;
}
