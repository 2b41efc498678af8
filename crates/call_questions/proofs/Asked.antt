-- Laws of the questions: what a refused one gives, and an accepted one.
use mathlib.Core.Path.{◌≡◌, refl, sym, ap, ◌∙◌}
use mathlib.Core.Logic.{◌↔◌}
use mathlib.Core.Bool.{Bool, true, false}
use mathlib.Core.List.{List}
use Prim.Native.Nat.{ℕ}
use Rattle.model.specs.Sets.{to_bits}
use Rattle.model.specs.Leafset.{leafset}
use Rattle.model.specs.Ring.{holds}
use Rattle.model.specs.Connection.{Connected, connected, groups}
use Rattle.model.specs.Answers.{answer_number, given_or, is_accepted}
use Rattle.model.specs.declared.refusal.Refusal.{Refusal as Kind}
use Rattle.std.specs.Prelude.{Result, Ok}
use Rattle.model.specs.Words.{decode}
use Rattle.model.specs.Buffer.{ring_answer}
use Rattle.model.specs.Questions.{leafset_of, connection_answer, connection_of, groups_of}
use Rattle.model.proofs.Laws.{clash}
use Rattle.model.proofs.Theorems.{connected_decides}
use Rattle.call_refusals.proofs.Passed.{connection_reads, node_twice}

module _ (ws : List ℕ) where
  -- ---- the number of groups

  pub groups_refused : is_accepted (ring_answer ws) ≡ false → 0 ≡ groups_of ws
  unfolding groups_of
  groups_refused n = rw n

  pub groups_given : ring_answer ws ≡ 0 → {v : ℕ} → v ≡ groups (decode ws) → v ≡ groups_of ws
  unfolding groups_of
  groups_given a e = rw (a, e)

  module _ (x y : ℕ) where
    -- ---- a question about two nodes

    pub connection_refused : is_accepted (connection_answer ws x y) ≡ false → false ≡ connection_of ws x y
    unfolding connection_of
    connection_refused n = rw n

    module _ (a : connection_answer ws x y ≡ 0) where
      pub connection_given : {v : Bool} → v ≡ connected (decode ws) x y → v ≡ connection_of ws x y
      unfolding connection_of
      connection_given e = rw (a, e)

    -- ---- what a yes and a no say

    module _ {r : Result Bool Kind} (answer : answer_number r ≡ connection_answer ws x y) (value : given_or false r ≡ connection_of ws x y) where
      module _ {v : Bool} (given : r ≡ Ok v) where
        accepted : connection_answer ws x y ≡ 0
        accepted = sym answer ∙ ap answer_number given

        decides : (connected (decode ws) x y ≡ true) ↔ Connected (decode ws) x y
        decides = connected_decides ws (connection_reads ws x y accepted) x y

        is : connected (decode ws) x y ≡ v
        is = connection_given accepted refl ∙ sym value ∙ ap (given_or false) given

      pub yes_chain : r ≡ Ok true → Connected (decode ws) x y
      yes_chain g = (decides g).0 (is g)

      pub no_chain : r ≡ Ok false → Connected (decode ws) x y → ⊥
      no_chain g p = clash ((decides g).1 p) (is g)

  -- ---- a question about one node, which is named twice

  module _ (x : ℕ) where
    pub leafset_refused : is_accepted (connection_answer ws x x) ≡ false → 0 ≡ leafset_of ws x
    unfolding leafset_of
    leafset_refused n = rw (← node_twice ws x, n)

    pub leafset_given : connection_answer ws x x ≡ 0
        → {v : ℕ} → v ≡ to_bits 64 (leafset (decode ws).table x (holds (decode ws) x)) → v ≡ leafset_of ws x
    unfolding leafset_of
    leafset_given a e = rw (← node_twice ws x, a, e)
