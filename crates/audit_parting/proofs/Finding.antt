-- The groups, one after the other: those of the nodes that are not left are found.
use mathlib.Core.Path.{◌≡◌, refl, sym, ap, ◌∙◌}
use mathlib.Core.Bool.{Bool, true, false, not, ◌&&◌}
use mathlib.Core.List.{List}
use Prim.Native.Nat.{ℕ, ◌<◌}
use lib.ListN.{length, get_or}
use Rattle.model.specs.Sets.{Set, of_bits}
use Rattle.model.specs.Ring.{Ring, is_running}
use Rattle.model.specs.Connection.{connected}
use Rattle.model.proofs.Laws.{and_right, and_in, decide, same_test}
use Rattle.model.proofs.Connection.{InTable, decides}
use Rattle.sets.proofs.Bits.{of_none}
use Rattle.ring_connection.specs.Links.{Closed}
use Rattle.ring_connection.proofs.Linked.{back, off_connected}
use Rattle.audit_parting.specs.Groups.{AreGroups, Filled}
use Rattle.audit_parting.proofs.Alike.{alike, way_back}

module _ (r : Ring) where
  pub record Found (S : Set) (gs : List ℕ) : Type 0 where
    pub long : length gs ≡ 64
    pub done : (x b : ℕ) → x < 64 → S x ≡ false → of_bits (get_or gs x 0) b ≡ connected r x b

  -- the nodes that run are left, and nobody stands in the places
  pub found_none : {S : Set} {gs : List ℕ} → length gs ≡ 64 → ((x : ℕ) → x < 64 → get_or gs x 0 ≡ 0)
      → ((x : ℕ) → S x ≡ is_running r x) → Found S gs
  found_none {gs = gs} long none is =
      record {
        long = long;
        done = λ x b h o. ap (λ (w : ℕ). of_bits w b) (none x h) ∙ of_none b ∙ sym (off_connected r x b (sym (is x) ∙ o));
      }

  pub found_all : {S : Set} {gs : List ℕ} → Found S gs → ((x : ℕ) → S x ≡ false) → AreGroups r gs
  found_all i f = record { long = i.long; sets = λ x b h. i.done x b h (f x) }

  -- the group of a is g
  module _ (low : InTable r) {S : Set} (closed : Closed r S) {a : ℕ} (member : S a ≡ true)
      (g : ℕ) (is : (b : ℕ) → of_bits g b ≡ (S b && connected r a b))
      {S' : Set} (less : (b : ℕ) → S' b ≡ (S b && not (of_bits g b))) where
    pub rest_is : (b : ℕ) → S' b ≡ (S b && not (connected r a b))
    rest_is b = less b ∙ ap (λ (p : Bool). S b && not p) (is b) ∙ go (S b) (connected r a b)
      where
        go : (p q : Bool) → (p && not (p && q)) ≡ (p && not q)
        go true q = refl
        go false q = refl

    whole : (b : ℕ) → of_bits g b ≡ connected r a b
    whole b =
        is b
        ∙ same_test (S b && connected r a b) (connected r a b)
        (and_right (S b) (connected r a b))
        (λ t. and_in (back r closed ((decides r b low a).0 (way_back r low a b t)) member) t)

    pub found_next : {gs gs' : List ℕ} → Found S gs → Filled gs gs' g g → Found S' gs'
    found_next {gs} {gs'} i f =
        record {
          long = f.long ∙ i.long;
          done = λ x b h o. decide (of_bits g x)
              (λ t. ap (λ (w : ℕ). of_bits w b) (f.here x t) ∙ whole b ∙ alike r low a x (and_right (S x) (connected r a x) (sym (is x) ∙ t)) b)
              (λ e. ap (λ (w : ℕ). of_bits w b) (f.else x e) ∙ i.done x b h (out x e o));
        }
      where
        out : (x : ℕ) → of_bits g x ≡ false → S' x ≡ false → S x ≡ false
        out x e o = go (S x) (of_bits g x) e (sym (less x) ∙ o)
          where
            go : (p q : Bool) → q ≡ false → (p && not q) ≡ false → p ≡ false
            go true q e o = sym (ap not e) ∙ o
            go false q e o = refl
