-- What a preview leaves in the second buffer, by the stage that answers.
use mathlib.Core.Path.{◌≡◌, sym, ap, ◌∙◌}
use mathlib.Core.Bool.{true, false}
use mathlib.Core.List.{List}
use Prim.Native.Nat.{ℕ}
use lib.ListN.{length}
use lib.Dec.{eqb}
use Rattle.model.specs.Answers.{answer_number, is_accepted}
use Rattle.model.specs.Words.{ring_length}
use Rattle.model.specs.Buffer.{writes, play_buffer}
use Rattle.model.specs.Preview.{preview_buffer}
use Rattle.std.specs.Prelude.{Result, Err}
use Rattle.model.specs.declared.refusal.Refusal.{Refusal}
use Rattle.model.specs.declared.refusal.Refusal.TheVariants.{WrongLength}
use Rattle.model.specs.declared.event.Event.{Event}
use Rattle.model.proofs.Previews.{wrong_length_lem, answers_as_playing}
use Rattle.answers.specs.Applied.{written, event_on, Refuses}
use Rattle.answers.proofs.Answered.{refuses}
use Rattle.call_refusals.specs.Admitted.{Plays}
use Rattle.call_preview.specs.Shown.{shown_in}

module _ (ws : List ℕ) (w : ℕ) (second : List ℕ) where
  pub not_as_long : eqb (length second) ring_length ≡ false → written {A = Unit {0}} (Err WrongLength) second ≡ preview_buffer ws w second
  unfolding preview_buffer
  not_as_long n =
      let one = wrong_length_lem ws w second n in
      refuses {A = Unit {0}} (Err WrongLength) second _ _ (ap is_accepted one) (sym one)

  module _ (h : eqb (length second) ring_length ≡ true) where
    pub refused_shown : {A : Type 0} {r : Result A Refusal} {a : Refusal} → r ≡ Err a → Refuses ws w a → written r second ≡ preview_buffer ws w second
    unfolding preview_buffer play_buffer
    refused_shown {A} {r} {a} e p =
        let same = answers_as_playing ws w second h in
        refuses r second _ _ (ap is_accepted same ∙ p.is_refusal) (ap answer_number e ∙ p.number ∙ sym same)

    pub event_shown : {e : Event} → Plays ws w e → shown_in second (event_on ws e) ≡ preview_buffer ws w second
    unfolding preview_buffer
    event_shown p =
        ap (shown_in second) p.same
        ∙ ap (λ (k : ℕ). writes second k (play_buffer ws w).words) (sym (answers_as_playing ws w second h))
