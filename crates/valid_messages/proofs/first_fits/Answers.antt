use Prim.Native.Nat.{◌+◌, ◌*◌, ◌%◌}
use native.Mathlib.Nat.{div-one}
use lib.ListN.{get_or}
use Rattle.model.specs.Types.{used_by_type}
use Rattle.model.specs.Words.{decode_message_at}
use Rattle.valid_messages.proofs.MessageTests.{first_test, low_tag, low_sender, low_receiver, high_subject, high_kind}
use Rattle.valid_messages.proofs.first_fits.Goals as goal

pub returns : goal.returns
unfolding decode_message_at used_by_type
returns c = record {
  value = λ ws base t k e f g.
      let w = get_or ws (base + 5 * k) 0 in
      rw (← f, ← g, low_tag w, low_sender w, low_receiver w, high_subject w, high_kind w)
      (first_test ws base t k c.args.n (w % 16) c.subject_fits.result e (simp div-one)
      (c.subject_fits.ensures.value t (decode_message_at ws (base + 5 * k)) e (rw (← f, low_tag w) (simp div-one)) (rw (← g, high_subject w))));
}
