-- A turn of the walk on sets as numbers: what is found from the node x is no more unseen, and is to do in place of x.
use mathlib.Core.Path.{◌≡◌, refl, sym, ap, ap₂, ◌∙◌}
use mathlib.Core.Bool.{Bool, true, false, not, ◌&&◌, ◌||◌}
use mathlib.Core.List.{List}
use Prim.Native.Nat.{ℕ, ◌-◌, ◌^◌, ◌≤◌, ◌<◌}
use lib.Bits.{bit_or}
use Rattle.model.specs.Sets.{Set, of_bits, without, lowest}
use Rattle.model.specs.Words.{decode}
use Rattle.model.specs.Connection.{linked}
use Rattle.model.proofs.Laws.{clash, and_left, decide}
use Rattle.model.proofs.Bits.{bit_below}
use Rattle.sets.proofs.Ascending.{First}
use Rattle.sets.proofs.Bits.{rising_first, of_bits_or}
use Rattle.ring_connection.specs.Links.{held_at, Closed}
use Rattle.ring_connection.proofs.Difference.{part_le, of_bits_minus}
use Rattle.ring_connection.proofs.Linked.{linked_is}
use Rattle.ring_connection.proofs.Walk.{Walk, walk_next}

-- the lowest node to do
pub next : (todo x : ℕ) → todo < 2 ^ 64 → (todo ≡ 0 → ⊥) → x ≡ lowest 64 (of_bits todo) → First 64 (of_bits todo) x
next todo x h d is = rising_first (record { fits = h; low = λ y e. bit_below 64 todo y h e }) d x is

module _ (ws : List ℕ) (unseen found x : ℕ) (u : unseen < 2 ^ 64) (f : found < 2 ^ 64)
    (is : (z : ℕ) → of_bits found z ≡ (of_bits unseen z && (held_at ws x z || held_at ws z x))) where
  part : (z : ℕ) → of_bits found z ≡ true → of_bits unseen z ≡ true
  part z t = and_left (of_bits unseen z) (held_at ws x z || held_at ws z x) (sym (is z) ∙ t)

  pub found_le : found ≤ unseen
  found_le = part_le unseen found u f part

  module _ {S : Set} (closed : Closed (decode ws) S) {a : ℕ} (todo : ℕ)
      (w : Walk (decode ws) S a (of_bits todo) (of_bits unseen)) (here : of_bits todo x ≡ true) where
    found_linked : (z : ℕ) → of_bits found z ≡ (of_bits unseen z && linked (decode ws) x z)
    found_linked z =
        is z
        ∙ decide (of_bits unseen z)
        (λ t. ap (λ (b : Bool). of_bits unseen z && b)
        (sym (linked_is ws x z (closed.running x (w.todo_part x here)) (closed.running z (w.unseen_part z t))
        (λ e. clash (ap (of_bits unseen) e ∙ t) (w.todo_seen x here)))))
        (λ e. rw e)

    pub turn : (rest : ℕ) → of_bits rest ≡ without (of_bits todo) x → Walk (decode ws) S a (of_bits (bit_or rest found)) (of_bits (unseen - found))
    turn rest e =
        walk_next closed w here
        (λ z. ap (λ (R : Set). R z) (of_bits_minus unseen found u f part)
        ∙ ap (λ (b : Bool). of_bits unseen z && not b) (found_linked z) ∙ go (of_bits unseen z) (linked (decode ws) x z))
        (λ z. of_bits_or rest found z ∙ ap₂ ◌||◌ (ap (λ (R : Set). R z) e) (found_linked z))
      where
        go : (p q : Bool) → (p && not (p && q)) ≡ (p && not q)
        go true q = refl
        go false q = refl
