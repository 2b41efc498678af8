-- What the steps ask of the held set, as the code asks it.
use mathlib.Core.Path.{◌≡◌, refl, sym, ◌∙◌}
use mathlib.Core.Bool.{Bool, true, false, not, ◌||◌}
use mathlib.Core.List.{List}
use Prim.Native.Nat.{ℕ, ◌^◌, ◌<◌}
use lib.Dec.{eqb}
use lib.ListN.{length}
use Rattle.model.specs.Sets.{of_bits, some}
use Rattle.model.proofs.Laws.{or_left, or_right, not_out_false}
use borrow.Author.Tests.{eq-eqb, ne_eqb}
use Rattle.sets.specs.Within.{InTable}
use Rattle.sets.proofs.Bits.{zero_none}

module _ {keys : List ℕ} {x held : ℕ} (q : InTable keys x held) (fits : held < 2 ^ 64) where
  abbrev pub nobody : Bool
  nobody = not (some (length keys) (of_bits held))

  asked : eqb held 0 ≡ nobody
  asked = zero_none (length keys) held q.few fits q.within

  -- "nothing if o is me or I hold nobody", as the code asks it: b whether o is me, as c says too
  module _ {b c : Bool} (e : c ≡ b) where
    pub stops_at_me : c ≡ true → (b || nobody) ≡ true
    stops_at_me t = or_left nobody (sym e ∙ t)

    pub stops_idle : held ≡ 0 → (b || nobody) ≡ true
    stops_idle z = or_right b (sym asked ∙ eq-eqb held 0 z)

    pub goes : c ≡ false → (held ≡ 0 → ⊥) → (b || nobody) ≡ false
    goes f d = rw (sym e ∙ f, sym asked ∙ ne_eqb held 0 d) refl

  pub somebody : (held ≡ 0 → ⊥) → some (length keys) (of_bits held) ≡ true
  somebody d = not_out_false (some (length keys) (of_bits held)) (sym asked ∙ ne_eqb held 0 d)
