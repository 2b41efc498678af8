-- What a yes and a no of the connection question say, in C's numbers: 0 is accepted, 1 yes, 0 no.
use mathlib.Core.Path.{◌≡◌, refl, sym, ap, ◌∙◌}
use mathlib.Core.List.{List}
use Prim.Native.Nat.{ℕ}
use lib.Dec.{eqb}
use Rattle.model.specs.Fields.{bit}
use Rattle.model.specs.Words.{decode}
use Rattle.model.specs.Connection.{Connected}
use Rattle.model.specs.Questions.{connection_answer, connection_of}
use Rattle.model.proofs.Bits.{is_bit}
use mathlib.Core.Bool.{true, false}
use Rattle.std.specs.Prelude.{Ok}
use Rattle.call_questions.proofs.Asked

module _ (ws : List ℕ) (a b : ℕ) {n v : ℕ} (answer : n ≡ connection_answer ws a b) (value : v ≡ bit (connection_of ws a b)) (accepted : n ≡ 0) where
  given : connection_of ws a b ≡ eqb v 1
  given = sym (is_bit (connection_of ws a b)) ∙ ap (λ (k : ℕ). eqb k 1) (sym value)

  pub yes_chain : v ≡ 1 → Connected (decode ws) a b
  yes_chain e = Asked.yes_chain ws a b {r = Ok true} (sym accepted ∙ answer) (sym (given ∙ rw e)) refl

  pub no_chain : v ≡ 0 → Connected (decode ws) a b → ⊥
  no_chain e = Asked.no_chain ws a b {r = Ok false} (sym accepted ∙ answer) (sym (given ∙ rw e)) refl
