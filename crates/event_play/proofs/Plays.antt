-- An event's decision, by its case, and written.
use mathlib.Core.Path.{◌≡◌, sym, ap, subst, ◌∙◌}
use mathlib.Core.List.{List}
use Prim.Native.Nat.{ℕ}
use Rattle.std.specs.Prelude.{Result, Err, IsErrAnd}
use Rattle.model.specs.Answers.{number_of, answer_number, first_of}
use Rattle.model.specs.Words.{encode, decode}
use Rattle.model.specs.Play.{after, state_refusals}
use Rattle.model.specs.declared.event.Event.{Event}
use Rattle.model.specs.declared.refusal.Refusal.{Refusal}
use Rattle.model.proofs.Given.{refuses_with, passed_on}
use Rattle.answers.specs.Applied.{written, event_on}
use Rattle.answers.proofs.Answered.{refuses}
use Rattle.event_act.specs.Changes.{changed, Decides}
use Rattle.event_act.specs.declared.decision.Change.{Change}

pub of_event : (ws : List ℕ) {e d : Event} → e ≡ d → {q : Result Change Refusal} → Decides ws d q → Decides ws e q
of_event ws i {q} p = subst (λ (e : Event). Decides ws e q) (sym i) p

module _ {A : Type 0} (r : Result A Refusal) (ws : List ℕ) (e : Event) where
  -- where the decision is a refusal, which the `?` passes on
  pub not_written : (a : Refusal) → IsErrAnd r (λ x. x ≡ a) → number_of a ≡ first_of (state_refusals (decode ws) e) → written r ws ≡ event_on ws e
  not_written a is n = refuses r ws _ _ (refuses_with a n) (ap answer_number (passed_on r a is) ∙ n)

-- where it is a change
pub is_written : (ws : List ℕ) (e : Event) (c : Change) {ws' : List ℕ} → 0 ≡ first_of (state_refusals (decode ws) e)
    → changed c (decode ws) ≡ after (decode ws) e → ws' ≡ encode (changed c (decode ws)) → record { answer = 0; words = ws' } ≡ event_on ws e
is_written ws e c none leaves w = rw (sym none) (ap (λ (l : List ℕ). record { answer = 0; words = l }) (w ∙ ap encode leaves))
