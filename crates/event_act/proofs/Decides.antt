-- A decision is the event's: the refusals before it is decided come first, then those of the ring that would be left.
use mathlib.Core.Path.{◌≡◌, refl, sym, ap, subst, ◌∙◌}
use mathlib.Core.Bool.{Bool, true, false, not}
use mathlib.Core.List.{List, ◌++◌}
use Prim.Native.Nat.{ℕ, ◌+◌, ◌≤◌}
use lib.ListN.{length}
use borrow.Author.Tests.{ltb-false}
use Rattle.std.specs.Prelude.{Result, Ok, Err, IfOk, IsErrAnd, is_err}
use Rattle.std.proofs.lemmas.Result.{IfOk-from_err}
use Rattle.model.specs.Ring.{Own, Ring}
use Rattle.model.specs.Answers.{number_of, answer_number, first_of, is_accepted}
use Rattle.model.specs.Steps.{Effect}
use Rattle.model.specs.Words.{decode}
use Rattle.model.specs.Play.{set_messages, act, after, refusals, left_refusals}
use Rattle.model.specs.Structs.{own_of}
use Rattle.model.specs.declared.refusal.Refusal.{Refusal}
use Rattle.model.specs.declared.event.Event.{Event}
use Rattle.model.proofs.Laws.{clash}
use Rattle.model.proofs.Lists.{first}
use Rattle.model.proofs.Answers.{none_applies, stays, passes}
use Rattle.model.proofs.Given.{passed_on}
use Rattle.model.proofs.Cases.{refusals_refuse, left_refuses, number_high}
use Rattle.ring_head.specs.Parts.{update, stepped}
use Rattle.records.specs.Effects.{effect_of}
use Rattle.records.specs.declared.effect.EffectRecord.{EffectRecord}
use Rattle.event_act.specs.Changes.{changed, Changes, Writable, Decided, Decides}
use Rattle.event_act.specs.declared.decision.Change.{Change}

-- the effect of a step, once a node has acted with it, is the model's act
pub acted_by : (σ : Ring) (x time : ℕ) (r : EffectRecord) (step : ℕ → Own → Effect)
    → time ≡ (σ.node x).clock + 1 → effect_of x time r ≡ step time (σ.node x).own
    → set_messages (σ.messages ++ (effect_of x time r).sent) (update x (stepped time (own_of r.own)) σ) ≡ act x step σ
unfolding act
acted_by σ x time r step now e =
    ap (λ (f : Effect). set_messages (σ.messages ++ f.sent) (update x (stepped time f.own) σ)) e
    ∙ ap (λ (k : ℕ). set_messages (σ.messages ++ (step k (σ.node x).own).sent) (update x (stepped k (step k (σ.node x).own).own) σ)) now

-- a refusal of the event's own that applies
pub refused_before : {ws : List ℕ} {e : Event} {d : Result Change Refusal} (a : Refusal) → d ≡ Err a → first_of (refusals (decode ws) e) ≡ number_of a
    → Decides ws e d
refused_before {ws} {e} {d} a is first =
    record {
      answer =
          ap answer_number is ∙ sym first
          ∙ sym (stays (refusals (decode ws) e) (left_refusals (after (decode ws) e)) (ap is_accepted first ∙ number_high a));
      writable = IfOk-from_err d _ (ap is_err is);
      leaves = IfOk-from_err d _ (ap is_err is);
    }

-- one that the `?` passes on
pub refused_with : {ws : List ℕ} {e : Event} {d : Result Change Refusal} (a : Refusal) → IsErrAnd d (λ x. x ≡ a)
    → number_of a ≡ first_of (refusals (decode ws) e)
    → Decides ws e d
refused_with {d} a is n = refused_before a (passed_on d a is) (sym n)

-- none of them applies, and the change leaves what the event does
module _ (ws : List ℕ) (e : Event) where
  module _ (passed : first_of (refusals (decode ws) e) ≡ 0) (c : Change) (fits : Changes ws c) (same : changed c (decode ws) ≡ after (decode ws) e)
      (d : Result Change Refusal) (decided : Decided (decode ws) c d) where
    few : answer_number d ≡ 0 → length (changed c (decode ws)).messages ≤ 1024
    few z =
        ltb-false 1024 (length (changed c (decode ws)).messages)
        (first (none_applies (left_refusals (changed c (decode ws))) (left_refuses (changed c (decode ws))) (sym decided.answer ∙ z)))

    -- of the change that was accepted
    accepted : (P : Change → Type 0) → (answer_number d ≡ 0 → P c) → IfOk d P
    accepted P holds = by_case d refl
      where
        by_case : (r : Result Change Refusal) → d ≡ r → IfOk r P
        by_case (Ok x) is = subst P (sym (subst (λ (r : Result Change Refusal). IfOk r (λ y. y ≡ c)) is decided.change)) (holds (ap answer_number is))
        by_case (Err a) is = tt

    pub decides : Decides ws e d
    decides =
        record {
          answer =
              decided.answer ∙ ap (λ (ρ : Ring). first_of (left_refusals ρ)) same
              ∙ sym (passes (refusals (decode ws) e) (left_refusals (after (decode ws) e))
              (none_applies (refusals (decode ws) e) (refusals_refuse (decode ws) e) passed));
          writable = accepted (Writable ws) (λ z. record { fits = fits; few = few z });
          leaves = accepted (λ x. changed x (decode ws) ≡ after (decode ws) e) (λ z. same);
        }
