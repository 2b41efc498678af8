use Rattle.model.specs.Sets.{of_bits}
use Rattle.model.proofs.Fields.{bits<}
use Rattle.model.specs.Words.{decode_message_at}
use Rattle.ring_messages.proofs.load.Goals as goal

pub returns : goal.returns
unfolding decode_message_at
returns c = record {
  loaded =
      record {
        message = λ i. record {
          type = c.tag.ensures.value i;
          sender = c.sender.ensures.value i;
          receiver = c.receiver.ensures.value i;
          subject = c.subject.ensures.value i;
          stamp = c.stamp-stamp.ensures.value i;
          view = of_bits (c.view_of-view.ensures.value i);
        };
        room = record {
          tag_room = rw c.tag.ensures.value (bits< 0 4 _);
          sender_room = rw c.sender.ensures.value (bits< 4 6 _);
          receiver_room = rw c.receiver.ensures.value (bits< 10 6 _);
          subject_room = rw c.subject.ensures.value (bits< 16 7 _);
          stamp_room = rw c.stamp-stamp.ensures.value (bits< 0 24 _);
        };
      };
}
