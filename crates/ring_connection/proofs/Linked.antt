-- Links and connections: what the words say of them, and what is known of them in any ring.
use mathlib.Core.Path.{◌≡◌, refl, sym, ap₂, ◌∙◌}
use mathlib.Core.Bool.{Bool, true, false, not, ◌&&◌, ◌||◌}
use mathlib.Core.List.{List}
use Prim.Native.Nat.{ℕ}
use lib.Dec.{ltb}
use borrow.Author.Tests.{ltb-true, lt-ltb, ne_eqb}
use Rattle.model.specs.Sets.{Set}
use Rattle.model.specs.Leafset.{size}
use Rattle.model.specs.Ring.{Ring, is_running, holds}
use Rattle.model.specs.Fields.{flag}
use Rattle.model.specs.Words.{at, node_place, decode_table, decode_own, decode_node, decode}
use Rattle.model.specs.Connection.{linked, Connected, itself, onward, connected}
use Rattle.model.proofs.Laws.{and_left}
use Rattle.model.proofs.Connection.{InTable, linked_back, arrives, starts, turned, decides}
use Rattle.ring_connection.specs.Links.{held_at, Closed}

-- ---- what the words say

module _ (ws : List ℕ) where
  pub running_low : InTable (decode ws)
  unfolding decode decode_node
  running_low x t = ltb-true x (size (decode_table ws)) (and_left (ltb x (size (decode_table ws))) (flag 24 (at ws (node_place x))) t)

  held_is : (x z : ℕ) → is_running (decode ws) x ≡ true → is_running (decode ws) z ≡ true → (x ≡ z → ⊥) → holds (decode ws) x z ≡ held_at ws x z
  unfolding decode decode_node decode_own
  held_is x z p q d =
      rw (lt-ltb x (size (decode_table ws)) (running_low x p), lt-ltb z (size (decode_table ws)) (running_low z q), ne_eqb x z d)

  -- of two running nodes, the marks of the words tell whether they are linked
  pub linked_is : (x z : ℕ) → is_running (decode ws) x ≡ true → is_running (decode ws) z ≡ true → (x ≡ z → ⊥)
      → linked (decode ws) x z ≡ (held_at ws x z || held_at ws z x)
  linked_is x z p q d = rw (p, q) (ap₂ ◌||◌ (held_is x z p q d) (held_is z x q p (λ e. d (sym e))))

-- ---- links and connections, both ways

module _ (r : Ring) where
  -- running nodes are a closed set
  pub running_closed : {S : Set} → ((x : ℕ) → S x ≡ is_running r x) → Closed r S
  running_closed is =
      record {
        running = λ x t. sym (is x) ∙ t;
        onward = λ x z t l. is z ∙ arrives r x z l;
      }

  module _ {S : Set} (closed : Closed r S) where
    -- a closed set has what is connected to a member
    pub back : {x y : ℕ} → Connected r x y → S y ≡ true → S x ≡ true
    back (itself h) m = m
    back (onward {a = x} {b = y} l p) m = closed.onward y x (back p m) (linked_back r x y l)

-- ---- answers to the question about a and b

module _ (r : Ring) (a b : ℕ) where
  pub off_connected : is_running r a ≡ false → connected r a b ≡ false
  unfolding connected
  off_connected e = rw e

  pub seen_connected : InTable r → (is_running r b && not (is_running r b && not (connected r a b))) ≡ connected r a b
  seen_connected low = go (is_running r b) (connected r a b) (λ q. starts r (turned r ((decides r a low b).0 q)))
    where
      go : (p q : Bool) → (q ≡ true → p ≡ true) → (p && not (p && not q)) ≡ q
      go true true f = refl
      go true false f = refl
      go false true f = f refl
      go false false f = refl
