-- Computed rows: where the promise may begin, and which events it does not cover.
use mathlib.Core.Path.{◌≡◌, refl}
use mathlib.Core.Bool.{Bool, true, false}
use mathlib.Core.List.{List, [], ◌∷◌}
use Prim.Native.Nat.{ℕ}
use Rattle.model.specs.Sets
use Rattle.model.specs.Ring.{Message, sent_by}
use Rattle.model.specs.Words.{senders_fit}
use Rattle.model.specs.Steps
use Rattle.model.specs.Answers
use Rattle.model.specs.Events
use Rattle.model.specs.Play
use Rattle.audit_account.specs.Points
use Rattle.audit_account.proofs.ExampleRing.{ring, from_0, request, acknowledgement, left}

-- `unfolding computed` opens every definition, for what is shown by computing
unfoldable computed : Unit {0}
unfolding ring from_0 request acknowledgement left Sets.all Sets.some Sets.count Sets.members Sets.tabulate_from sent_by senders_fit Steps.hold
    Steps.contact Steps.notice Steps.forget Steps.release Steps.leaving Steps.on_ping_contact Steps.on_pong_contact Steps.on_leave Steps.deliver
    Answers.first_of Events.event_of Play.remove_message Play.act Play.after Play.play_answer Play.play_word Points.acknowledgements Points.late_leaves
    Points.is_point Points.is_uncovered_word
computed = tt

unfoldable pub is_point_with : List Message → Bool
is_point_with ms = Points.is_point (from_0 ms)

unfoldable pub is_uncovered : ℕ → Bool
is_uncovered w = Points.is_uncovered_word (from_0 (acknowledgement ∷ [])) w

pub record PointRows : Type 0 where
  pub none_in_flight : is_point_with [] ≡ true
  pub request_in_flight : is_point_with (request ∷ []) ≡ true
  pub acknowledgement_in_flight : is_point_with (request ∷ acknowledgement ∷ []) ≡ false
  -- type 13 from a node that runs, and from one that is off
  pub late_leave_in_flight : is_point_with (left ∷ request ∷ []) ≡ false
  pub leave_in_flight : Points.is_point (ring 0b0001 [] (left ∷ [])) ≡ true

pub point_rows : PointRows
unfolding computed is_point_with
point_rows =
    record {
      none_in_flight = refl;
      request_in_flight = refl;
      acknowledgement_in_flight = refl;
      late_leave_in_flight = refl;
      leave_in_flight = refl;
    }

pub record UncoveredRows : Type 0 where
  pub on : is_uncovered 0x90000003 ≡ true
  pub off : is_uncovered 0xA0000001 ≡ true
  pub polite_off : is_uncovered 0xA0001001 ≡ true
  pub wrong_notice : is_uncovered 0xB0000040 ≡ true
  pub right_notice : is_uncovered 0xB00000C0 ≡ false
  pub contact : is_uncovered 0xC0000040 ≡ false
  pub loss : is_uncovered 0xF0000000 ≡ false
  -- what is refused is covered
  pub refused_on : is_uncovered 0x90000001 ≡ false
  pub refused_off : is_uncovered 0xA0000003 ≡ false
  pub refused_notice : is_uncovered 0xB0000003 ≡ false

pub uncovered_rows : UncoveredRows
unfolding computed is_uncovered
uncovered_rows =
    record {
      on = refl;
      off = refl;
      polite_off = refl;
      wrong_notice = refl;
      right_notice = refl;
      contact = refl;
      loss = refl;
      refused_on = refl;
      refused_off = refl;
      refused_notice = refl;
    }
