-- The word is tested by writing its event again; then the event is asked whether its parts fit, and whether both its nodes are one.
use mathlib.Core.Path.{◌≡◌, sym, ap, ◌∙◌}
use Prim.Native.Nat.{ℕ}
use borrow.Author.Tests.{eq-eqb, ne_eqb}
use mathlib.Core.List.{[]}
use Rattle.std.specs.Prelude.{Result, Ok, Err}
use Rattle.model.specs.Answers.{number_of, first_of}
use Rattle.model.specs.Events.{word_of, event_of, event_answer, word_answer, read_event, reading_of}
use Rattle.model.specs.declared.event.Event.{Event}
use Rattle.model.specs.declared.refusal.Refusal.{Refusal}
use Rattle.model.proofs.Given.{refuses_with, passed_on}
use Rattle.word_event.proofs.read_event.Goals as goal

-- e is the event of the word's bits, and v the word of e: the test whether v is the word
module _ {e : Event} {w v : ℕ} (event : e ≡ event_of w) (new : v ≡ word_of e) where
  other_word : (v ≡ w → ⊥) → word_answer w ≡ 4
  unfolding word_answer first_of
  other_word differ = rw (ne_eqb w (word_of (event_of w)) (λ is. differ (new ∙ ap word_of event ∙ sym is)))

  -- then the word is refused as the event is
  same_word : v ≡ w → word_answer w ≡ event_answer e
  unfolding word_answer event_answer first_of
  same_word is = rw (eq-eqb w (word_of (event_of w)) (sym is ∙ new ∙ ap word_of event), sym event)

refused_reading : (w : ℕ) {r : Result Event Refusal} (e : Refusal) → r ≡ Err e → number_of e ≡ word_answer w → reading_of r ≡ read_event w
unfolding read_event
refused_reading w e is n =
    ap reading_of is ∙ ap (λ (k : ℕ). record { answer = k; event = [] }) n ∙ rw (refuses_with e n)

pub returns-then-new-word : goal.returns-then-new-word
unfolding read_event
returns-then-new-word c = record { value = rw (other_word c.event-e.ensures.value c.new.ensures.value c.if-new-word.true) }

pub returns-in_err-check : goal.returns-in_err-check
returns-in_err-check c = record {
  value =
      let same = same_word c.event-e.ensures.value c.new.ensures.value c.if-new-word.false in
      refused_reading _ _ (passed_on c.from_residual.result _ c.from_residual.ensures.1) (c.in_err-check.ensures.answer ∙ sym same);
}

pub returns : goal.returns
unfolding read_event
returns c = record {
  value =
      let same = same_word c.event-e.ensures.value c.new.ensures.value c.if-new-word.false in
      rw (same, sym c.in_ok-check.ensures.answer) (ap (λ e. reading_of (Ok e)) c.event-e.ensures.value);
}
