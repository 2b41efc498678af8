-- A node in the words of a ring, changed in one part.
use mathlib.Core.Path.{◌≡◌, refl, ◌∙◌, fun_ext}
use mathlib.Core.Bool.{Bool, true, false}
use mathlib.Core.List.{List}
use Prim.Native.Nat.{ℕ, ◌+◌, ◌<◌, ◌≤◌}
use native.Mathlib.Omega.{arith}
use lib.Dec.{eqb}
use borrow.Author.Tests.{eq-eqb}
use Rattle.model.specs.Sets.{put}
use Rattle.model.specs.Leafset.{size}
use Rattle.model.specs.Ring.{Own, Node, Ring}
use Rattle.model.specs.Words.{node_place}
use Rattle.ring_head.specs.Parts.{Encodes, update, set_own}
use Rattle.ring_head.proofs.Holds.{Holds, holds, node_written}
use Rattle.ring_nodes.proofs.Marks.{node_word}
use Rattle.ring_pairs.specs.Stored.{Stored}
use Rattle.ring_pairs.proofs.Stores.{row_pair, row_other}

-- a change after a change is one change
pub update_twice : (x : ℕ) (f g : Node → Node) (ρ : Ring) → update x g (update x f ρ) ≡ update x (λ s. g (f s)) ρ
update_twice x f g ρ = λ i. record { table = ρ.table; node = fun_ext (λ y. at y (eqb y x) refl) i; messages = ρ.messages }
  where
    s : Node
    s = f (ρ.node x)

    here : put ρ.node x s x ≡ s
    here = rw (eq-eqb x x refl)

    at : (y : ℕ) (b : Bool) → eqb y x ≡ b → put (put ρ.node x s) x (g (put ρ.node x s x)) y ≡ put ρ.node x (g s) y
    at y true e = rw (e, here)
    at y false e = rw e

pub is_twice : {ws : List ℕ} {n m : ℕ} (x : ℕ) (f g : Node → Node) (ρ : Ring)
    → Encodes ws n m (update x g (update x f ρ))
    → Encodes ws n m (update x (λ s. g (f s)) ρ)
is_twice x f g ρ is = rw (update_twice x f g ρ) at is

-- ---- the pairs of node x written

module _ (ρ : Ring) (ws : List ℕ) (n m x : ℕ) (is : Encodes ws n m ρ) (hx : x < n) where
  h : Holds ρ ws
  h = holds ρ ws is.words

  hs : x < size ρ.table
  hs = omega (arith, is.nodes)

  hn : size ρ.table ≤ 64
  hn = is.room.size_room

  pub own_set : (o : Own) (v ws' : List ℕ) → Stored ws v x 0 x o → Stored v ws' x (x + 1) n o → Encodes ws' n m (update x (set_own o) ρ)
  own_set o v ws' s u =
      record {
        room = is.room;
        nodes = is.nodes;
        count = is.count;
        words = node_written ρ x (set_own o (ρ.node x)) ws ws' h hs hn (u.long ∙ s.long)
            (λ i hi.
            row_other ws v ws' n x o s u hx (node_place x + i) (λ z l d. (omega (arith, hs, hn), omega (arith, hs, hn)))
            ∙ node_word ρ ws n m x is hx i hi)
            (λ z i hz d hi. row_pair ws v ws' n x o s u z i (omega (arith, is.nodes)) d hi)
            (λ i a b f. row_other ws v ws' n x o s u hx i (λ z l. f z (omega (arith, is.nodes))));
      }
