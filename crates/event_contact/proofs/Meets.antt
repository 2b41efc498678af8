-- A node that may act on another one: the other is in the table, and it may act.
use mathlib.Core.Path.{◌≡◌, refl, ◌∙◌}
use mathlib.Core.Bool.{Bool, true, false}
use mathlib.Core.List.{List}
use Prim.Native.Nat.{ℕ, ◌<◌}
use native.Mathlib.Omega.{arith}
use borrow.Author.Tests.{ltb-true, not-false}
use Rattle.model.specs.Leafset.{size}
use Rattle.std.specs.Prelude.{if◌then◌else◌}
use Rattle.model.specs.Ring.{Own, Ring}
use Rattle.model.specs.Steps.{Effect, contact, notice}
use Rattle.model.specs.WellFormed.{nil, cons}
use Rattle.model.specs.Answers.{first_of}
use Rattle.model.specs.Words.{decode_table, decode}
use Rattle.model.specs.Play.{no_node}
use Rattle.model.proofs.Answers.{none_applies}
use Rattle.model.proofs.Lists.{first, rest}
use Rattle.event_act.specs.Acting.{may_act, IsActor}
use Rattle.event_act.specs.declared.Actor.{Actor}
use Rattle.event_contact.specs.Meeting.{may_meet}

-- the steps of the two events, as an act takes them
abbrev pub contacts : Ring → ℕ → ℕ → ℕ → Own → Effect
contacts ρ x y now o = contact ρ.table x now o y

abbrev pub notices : Ring → ℕ → ℕ → ℕ → Own → Effect
notices ρ x z now o = notice ρ.table x now o z

module _ (ws : List ℕ) (x y : ℕ) where
  pub meets_none : (no_node (decode ws) y).applies ≡ true → ◌≡◌ {A = ℕ} 7 (first_of (may_meet (decode ws) x y))
  unfolding first_of
  meets_none e = rw e (go (no_node (decode ws) x).applies)
    where
      go : (b : Bool) → ◌≡◌ {A = ℕ} 7 (if b then 7 else 7)
      go true = refl
      go false = refl

  pub meets_one : (no_node (decode ws) y).applies ≡ false → first_of (may_act (decode ws) x) ≡ first_of (may_meet (decode ws) x y)
  unfolding first_of
  meets_one e = rw e refl

  module _ (ok : first_of (may_meet (decode ws) x y) ≡ 0) where
    other_in_table : (no_node (decode ws) y).applies ≡ false
    other_in_table = first (rest (none_applies (may_meet (decode ws) x y) (cons refl (cons refl (cons refl (cons refl nil)))) ok))

    pub meets_acts : first_of (may_act (decode ws) x) ≡ 0
    meets_acts = meets_one other_in_table ∙ ok

    pub meets_low : {a : Actor} → IsActor ws x a → y < 64
    unfolding decode
    meets_low is = omega (arith, ltb-true y (size (decode_table ws)) (not-false _ other_in_table), is.nodes, is.few)
