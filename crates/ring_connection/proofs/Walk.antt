-- The walk over the links of a closed set S, from its node a. The nodes found and not yet looked from are to do; those not found yet
-- are unseen.
use mathlib.Core.Path.{◌≡◌, sym, ap, ◌∙◌, subst}
use mathlib.Core.Bool.{true, false, not, ◌&&◌, ◌||◌, and-false}
use Prim.Native.Nat.{ℕ}
use native.Mathlib.Decide.{ℕ_discrete}
use lib.Dec.{eqb}
use borrow.Author.Tests.{eqb-true, eq-eqb}
use Rattle.model.specs.Sets.{Set, without}
use Rattle.model.specs.Ring.{Ring}
use Rattle.model.specs.Connection.{linked, Connected, itself, onward, connected}
use Rattle.model.proofs.Laws.{clash, and_left, and_right, and_in, not_in, not_out, or_case, or_right, or_none_left, decide, is_false, same_test}
use Rattle.model.proofs.Connection.{InTable, further, decides}
use Rattle.sets.proofs.Ascending.{without_here, without_else}
use Rattle.ring_connection.specs.Links.{Closed}

pub record Walk (r : Ring) (S : Set) (a : ℕ) (todo unseen : Set) : Type 0 where
  pub unseen_part : (z : ℕ) → unseen z ≡ true → S z ≡ true
  pub todo_part : (z : ℕ) → todo z ≡ true → S z ≡ true
  pub todo_seen : (z : ℕ) → todo z ≡ true → unseen z ≡ false
  pub start : unseen a ≡ false
  -- what is seen is connected to a
  pub seen : (z : ℕ) → S z ≡ true → unseen z ≡ false → Connected r a z
  -- what has been looked from has no unseen neighbour
  pub done : (x z : ℕ) → S x ≡ true → unseen x ≡ false → todo x ≡ false → linked r x z ≡ true → unseen z ≡ false

module _ {r : Ring} {S : Set} (closed : Closed r S) {a : ℕ} where
  -- a is to do, and all others are unseen
  module _ (member : S a ≡ true) {todo unseen : Set} (t : (y : ℕ) → todo y ≡ eqb y a) (u : (y : ℕ) → unseen y ≡ without S a y) where
    only : (z : ℕ) → S z ≡ true → unseen z ≡ false → z ≡ a
    only z s f = elim (ℕ_discrete z a) [ yes e ↦ e | no d ↦ clash s (sym (without_else S a z d) ∙ sym (u z) ∙ f) ]

    is_a : (z : ℕ) → todo z ≡ true → z ≡ a
    is_a z s = eqb-true z a (sym (t z) ∙ s)

    start_off : unseen a ≡ false
    start_off = u a ∙ without_here S a

    from_a : Walk r S a todo unseen
    from_a =
        record {
          unseen_part = λ z s. and_left (S z) (not (eqb z a)) (sym (u z) ∙ s);
          todo_part = λ z s. ap S (is_a z s) ∙ member;
          todo_seen = λ z s. ap unseen (is_a z s) ∙ start_off;
          start = start_off;
          seen = λ z s f. subst (Connected r a) (sym (only z s f)) (itself (closed.running a member));
          done = λ x z s f o l. clash (t x ∙ eq-eqb x a (only x s f)) o;
        }

    pub walk_start : (x : ℕ) → todo x ≡ true → Walk r S x todo unseen
    walk_start x s = subst (λ (k : ℕ). Walk r S k todo unseen) (sym (is_a x s)) from_a

  module _ {todo unseen : Set} (w : Walk r S a todo unseen) where
    -- x is looked from
    module _ {x : ℕ} (here : todo x ≡ true) {todo' unseen' : Set}
        (u : (z : ℕ) → unseen' z ≡ (unseen z && not (linked r x z)))
        (t : (z : ℕ) → todo' z ≡ (without todo x z || (unseen z && linked r x z))) where
      stays : (z : ℕ) → unseen z ≡ false → unseen' z ≡ false
      stays z f = u z ∙ rw f

      found : (z : ℕ) → linked r x z ≡ true → unseen' z ≡ false
      found z l = u z ∙ rw l (and-false (unseen z))

      todo_cases : {P : Type 0} (z : ℕ) → todo' z ≡ true → (todo z ≡ true → P) → (unseen z ≡ true → linked r x z ≡ true → P) → P
      todo_cases z s f g =
          or_case (without todo x z) (unseen z && linked r x z) (sym (t z) ∙ s)
          (λ e. f (and_left (todo z) (not (eqb z x)) e))
          (λ e. g (and_left (unseen z) (linked r x z) e) (and_right (unseen z) (linked r x z) e))

      reaches : (z : ℕ) → S z ≡ true → unseen' z ≡ false → Connected r a z
      reaches z s f =
          decide (unseen z)
          (λ e. further r (w.seen x (w.todo_part x here) (w.todo_seen x here)) (decide (linked r x z) (λ l. l) (λ l. clash (u z ∙ rw (e, l)) f)))
          (w.seen z s)

      closes : (y z : ℕ) → S y ≡ true → unseen' y ≡ false → todo' y ≡ false → linked r y z ≡ true → unseen' z ≡ false
      closes y z s f o l =
          elim (ℕ_discrete y x) [
            | yes e ↦ found z (ap (λ (k : ℕ). linked r k z) (sym e) ∙ l)
            | no d ↦
                decide (unseen y)
                (λ e. decide (linked r x y)
                (λ k. clash (or_right (without todo x y) (and_in e k)) (sym (t y) ∙ o))
                (λ k. clash (u y ∙ rw (e, k)) f))
                (λ e. stays z (w.done y z s e (sym (without_else todo x y d) ∙ or_none_left (without todo x y) (unseen y && linked r x y) (sym (t y) ∙ o)) l))
          ]

      pub walk_next : Walk r S a todo' unseen'
      walk_next =
          record {
            unseen_part = λ z s. w.unseen_part z (and_left (unseen z) (not (linked r x z)) (sym (u z) ∙ s));
            todo_part = λ z s. todo_cases z s (w.todo_part z) (λ e l. w.unseen_part z e);
            todo_seen = λ z s. todo_cases z s (λ e. stays z (w.todo_seen z e)) (λ e. found z);
            start = stays a w.start;
            seen = reaches;
            done = closes;
          }

    -- nothing is to do
    module _ (low : InTable r) (end : (z : ℕ) → todo z ≡ false) (member : S a ≡ true) where
      along : {x y : ℕ} → Connected r x y → S x ≡ true → unseen x ≡ false → unseen y ≡ false
      along (itself h) s f = f
      along (onward {a = x} {b = y} l p) s f = along p (closed.onward x y s l) (w.done x y s f (end x) l)

      pub walk_end : (b : ℕ) → unseen b ≡ (S b && not (connected r a b))
      walk_end b =
          same_test (unseen b) (S b && not (connected r a b))
          (λ s. and_in (w.unseen_part b s) (not_in (is_false (connected r a b) (λ q. clash s (along ((decides r a low b).0 q) member w.start)))))
          (λ s. decide (unseen b) (λ f. f)
          (λ f.
          clash ((decides r a low b).1 (w.seen b (and_left (S b) (not (connected r a b)) s) f))
          (not_out (connected r a b) (and_right (S b) (not (connected r a b)) s))))
