-- Laws of the answers of the calls: what is written where one refuses, and where none does.
use mathlib.Core.Path.{◌≡◌, sym, ap, ◌∙◌}
use mathlib.Core.Bool.{false}
use mathlib.Core.List.{List}
use Prim.Native.Nat.{ℕ}
use Rattle.std.specs.Prelude.{Result, Ok, Err}
use Rattle.model.specs.Answers.{number_of, answer_number, is_accepted}
use Rattle.model.specs.Buffer.{writes, play_buffer}
use Rattle.model.specs.declared.refusal.Refusal.{Refusal}
use Rattle.model.proofs.Cases.{number_high}
use Rattle.answers.specs.Applied.{written, Refuses}

-- what a call of number k gave
module _ {A : Type 0} {r : Result A Refusal} {k : ℕ} (is : answer_number r ≡ k) where
  pub refused : {e : Refusal} → r ≡ Err e → is_accepted k ≡ false
  refused {e} t = ap is_accepted (sym is ∙ ap answer_number t) ∙ number_high e

  pub refused_with : {e : Refusal} → r ≡ Err e → number_of e ≡ k
  refused_with t = sym (ap answer_number t) ∙ is

  pub accepted : {a : A} → r ≡ Ok a → k ≡ 0
  accepted t = sym is ∙ ap answer_number t

module _ {A : Type 0} (r : Result A Refusal) where
  pub refuses : (ws l : List ℕ) (k : ℕ) → is_accepted k ≡ false → answer_number r ≡ k → written r ws ≡ writes ws k l
  refuses ws l k n e = rw (e, n)

  pub accepts : (ws ws' l : List ℕ) (k : ℕ) → k ≡ 0 → answer_number r ≡ k → ws' ≡ l → written r ws' ≡ writes ws k l
  accepts ws ws' l k z e w = rw (e, z, w)

-- a word that is refused leaves the words
pub refused_word : {A : Type 0} (ws : List ℕ) (w : ℕ) {r : Result A Refusal} {a : Refusal} → r ≡ Err a → Refuses ws w a → written r ws ≡ play_buffer ws w
unfolding play_buffer
refused_word ws w {r} e p = refuses r ws _ _ p.is_refusal (ap answer_number e ∙ p.number)
