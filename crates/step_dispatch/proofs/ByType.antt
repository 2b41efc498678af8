-- The step of a delivered message, by its type.
use mathlib.Core.Path.{◌≡◌, refl, sym, ap, ◌∙◌, subst}
use mathlib.Core.Bool.{true, false}
use mathlib.Core.List.{List, ◌∷◌}
use Prim.Native.Nat.{ℕ, ◌<◌}
use native.Mathlib.Omega.{arith}
use native.Mathlib.Decide.{ℕ_discrete}
use lib.ListN.{get_or, get_or-eq_default}
use Rattle.model.specs.Leafset.{Table}
use Rattle.model.specs.Ring.{Own, Message}
use Rattle.model.specs.Types.{uses_subject, names_spare, type_number}
use Rattle.model.specs.declared.message.MessageType.{MessageType}
use Rattle.model.specs.declared.message.MessageRecord.{MessageRecord}
use Rattle.records.specs.Effects.{Delivered}
use Rattle.model.specs.Steps.{Effect, nothing, step_by_type, deliver}

-- a message of a type that uses the subject, no spare, names a node
pub names_node : {n : ℕ} {m : MessageRecord} {type type' : MessageType} → type_number type ≡ m.tag → type ≡ type'
    → uses_subject (type_number type') ≡ true → names_spare (type_number type') ≡ false → Delivered n m → m.subject.0 < n
names_node e f u s d =
    let g = sym e ∙ ap type_number f in
    d.subject_low (ap uses_subject g ∙ u) (ap names_spare g ∙ s)

module _ (t : Table) (me now : ℕ) (o : Own) (m : Message) (P : Effect → Type 0) where
  abbrev steps : List Effect
  steps = nothing t me now o ∷ step_by_type t me now o m

  by_number : (k : ℕ) → m.type ≡ k → P (get_or steps k (nothing t me now o)) → P (deliver t me now o m)
  unfolding deliver
  by_number k e p = subst (λ (j : ℕ). P (get_or steps j (nothing t me now o))) (sym e) p

  pub by_type : {type type' : MessageType} → type_number type ≡ m.type → type ≡ type' → P (get_or steps (type_number type') (nothing t me now o))
      → P (deliver t me now o m)
  by_type {type' = type'} e f p = by_number (type_number type') (sym e ∙ ap type_number f) p

  pub by_no_type : (0 < m.type → 13 < m.type) → P (nothing t me now o) → P (deliver t me now o m)
  by_no_type f p =
      elim (ℕ_discrete m.type 0) [
        | yes e ↦ by_number 0 e p
        | no d ↦ let h : 13 < m.type = f (omega arith) in by_number m.type refl (rw (get_or-eq_default steps (nothing t me now o) {n = m.type} (omega arith)) p)
      ]
