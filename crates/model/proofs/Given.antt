-- What a call gives beside its answer.
use mathlib.Core.Path.{◌≡◌, refl, sym, ap, ◌∙◌}
use mathlib.Core.Bool.{false}
use Prim.Native.Nat.{ℕ}
use Rattle.std.specs.Prelude.{Result, Ok, Err, IsErr, IsErrAnd, if◌then◌else◌}
use Rattle.std.proofs.lemmas.Result.{err_from_is_err_and}
use Rattle.model.specs.Answers.{number_of, answer_number, given_or, is_accepted}
use Rattle.model.specs.declared.refusal.Refusal.{Refusal}
use Rattle.model.proofs.Cases.{number_high}
use Rattle.model.proofs.Laws.{clash}

-- a refusal's number is no acceptance
pub refuses_with : (e : Refusal) {k : ℕ} → number_of e ≡ k → is_accepted k ≡ false
refuses_with e n = ap is_accepted (sym n) ∙ number_high e

-- the `?` passes a refusal on
pub passed_on : {A : Type 0} (r : Result A Refusal) (e : Refusal) → IsErrAnd r (λ d. d ≡ e) → r ≡ Err e
passed_on r e i = let p = err_from_is_err_and r i in p.1 ∙ ap Err p.2

module _ {A : Type 0} (empty x : A) where
  -- nothing, where it refuses
  pub none_given : (r : Result A Refusal) (e : Refusal) {k : ℕ} → IsErr r → number_of e ≡ k → given_or empty r ≡ (if is_accepted k then x else empty)
  none_given (Ok a) e i n = clash i refl
  none_given (Err d) e i n = rw (refuses_with e n)

  -- its value, where it accepts
  pub all_given : {a : A} {k : ℕ} → 0 ≡ k → a ≡ x → a ≡ (if is_accepted k then x else empty)
  all_given z e = rw (sym z) e
