-- A number too big for a node is answered as 64 is: so C's numbers may be cut to that.
use mathlib.Core.Path.{◌≡◌, sym, ap, ◌∙◌}
use mathlib.Core.Logic.{◌⊎◌, inl, inr, ⊎_elim}
use mathlib.Core.Bool.{true, false}
use mathlib.Core.List.{List, [], ◌∷◌, ◌++◌}
use Prim.Native.Nat.{ℕ, ◌≤◌}
use native.Mathlib.Nat.{le_refl}
use native.Mathlib.Omega.{arith}
use lib.Dec.{ltb}
use borrow.Author.Tests.{ltb-false}
use Rattle.model.specs.Answers.{Refusal, first_of, is_accepted}
use Rattle.model.specs.Words.{decode, reads_as_ring}
use Rattle.model.specs.Buffer.{not_a_ring, ring_refusals}
use Rattle.model.specs.Play.{no_node}
use Rattle.model.specs.Sets.{none_node}
use Rattle.model.specs.Questions.{leafset_refusals, leafset_answer, leafset_of, connection_answer, connection_of}
use Rattle.model.specs.Route.{key_out_of_range, list_too_short, route_answer, route_buffer}
use Rattle.model.specs.Reach.{reach_answer, reach_of}
use Rattle.model.proofs.Laws.{decide, is_false}
use Rattle.model.proofs.Answers.{accepted_is, here, later, stays}
use Rattle.model.proofs.Theorems.{refused_routing, refused_reach}
use Rattle.answers.proofs.Valid.{few}
use Rattle.answers.proofs.Refusals.{no_ring, out_of_table}
use Rattle.call_refusals.proofs.Passed
use Rattle.call_questions.proofs.Asked
use Rattle.mekvalgs.specs.Nodes.{node_of}

-- a law of 64 for every number from 64 on is one of the cut number
pub cut : {A : Type 0} (f : ℕ → A) (x : ℕ) → (64 ≤ x → f 64 ≡ f x) → f (node_of x) ≡ f x
cut f x far = decide (ltb x 64) (λ e. rw e) (λ e. rw e (far (ltb-false x 64 e)))

module _ (ws : List ℕ) where
  -- refusals 1 and 6 are the same for all: the others are compared on words that read as a ring
  same_words : (qs rs : List Refusal) → (reads_as_ring ws ≡ true → first_of qs ≡ first_of rs)
      → first_of (ring_refusals ws ++ qs) ≡ first_of (ring_refusals ws ++ rs)
  same_words qs rs same =
      later _ _ _
      (decide (reads_as_ring ws) (λ t. later (not_a_ring ws) qs rs (same t)) (λ f. here _ qs (no_ring ws f) ∙ sym (here _ rs (no_ring ws f))))

  same_node_lem : (x : ℕ) → 64 ≤ x → (qs rs : List Refusal) → reads_as_ring ws ≡ true
      → first_of (no_node (decode ws) 64 ∷ qs) ≡ first_of (no_node (decode ws) x ∷ rs)
  same_node_lem x h qs rs reads =
      here _ qs (out_of_table ws 64 (few ws reads)) ∙ sym (here _ rs (out_of_table ws x (omega (arith, few ws reads))))

  pub connection_cut : (a b : ℕ) → connection_answer ws (node_of a) (node_of b) ≡ connection_answer ws a b
  unfolding connection_answer
  connection_cut a b =
      cut (λ x. connection_answer ws x (node_of b)) a (λ h. same_words _ _ (same_node_lem a h _ _))
      ∙ cut (connection_answer ws a) b (λ h. same_words _ _ (λ reads. later (no_node (decode ws) a) _ _ (same_node_lem b h _ _ reads)))

  pub leafset_cut : (x : ℕ) → leafset_answer ws (node_of x) ≡ leafset_answer ws x
  leafset_cut x = sym (Passed.node_twice ws (node_of x)) ∙ connection_cut x x ∙ Passed.node_twice ws x

  -- a question about a node from 64 on is refused
  far_refused : (a b : ℕ) → (64 ≤ a) ⊎ (64 ≤ b) → is_accepted (connection_answer ws a b) ≡ false
  far_refused a b h =
      is_false (is_accepted (connection_answer ws a b)) (λ t.
      let p = accepted_is (connection_answer ws a b) t in
      let n = few ws (Passed.connection_reads ws a b p) in
      ⊎_elim (λ l. absurd (omega (arith, Passed.connection_from ws a b p))) (λ l. absurd (omega (arith, Passed.connection_to ws a b p))) h)

  leafset_far : (x : ℕ) → 64 ≤ x → 0 ≡ leafset_of ws x
  leafset_far x h = Asked.leafset_refused ws x (far_refused x x (inl h))

  pub leafset_of_cut : (x : ℕ) → leafset_of ws (node_of x) ≡ leafset_of ws x
  leafset_of_cut x = cut (leafset_of ws) x (λ h. sym (leafset_far 64 (le_refl 64)) ∙ leafset_far x h)

  connection_far : (a b : ℕ) → (64 ≤ a) ⊎ (64 ≤ b) → false ≡ connection_of ws a b
  connection_far a b h = Asked.connection_refused ws a b (far_refused a b h)

  pub connection_of_cut : (a b : ℕ) → connection_of ws (node_of a) (node_of b) ≡ connection_of ws a b
  connection_of_cut a b =
      cut (λ x. connection_of ws x (node_of b)) a (λ h. sym (connection_far 64 (node_of b) (inl (le_refl 64))) ∙ connection_far a (node_of b) (inl h))
      ∙ cut (connection_of ws a) b (λ h. sym (connection_far a 64 (inr (le_refl 64))) ∙ connection_far a b (inr h))

  -- so is a route from there
  route_refused : (x key : ℕ) (list : List ℕ) → is_accepted (leafset_answer ws x) ≡ false
      → route_buffer ws x key list ≡ record { answer = leafset_answer ws x; end = none_node; hops = 0; list = list }
  unfolding route_answer leafset_answer
  route_refused x key list n =
      let same : route_answer ws x key list ≡ leafset_answer ws x = stays (leafset_refusals ws x) (key_out_of_range key ∷ list_too_short list ∷ []) n in
      refused_routing ws x key list (ap is_accepted same ∙ n) ∙ rw same

  leafset_same : (x : ℕ) → 64 ≤ x → leafset_answer ws 64 ≡ leafset_answer ws x
  unfolding leafset_answer
  leafset_same x h = same_words _ _ (same_node_lem x h _ _)

  route_far : (x key : ℕ) (list : List ℕ) → 64 ≤ x
      → route_buffer ws x key list ≡ record { answer = leafset_answer ws x; end = none_node; hops = 0; list = list }
  route_far x key list h = route_refused x key list (ap is_accepted (sym (Passed.node_twice ws x)) ∙ far_refused x x (inl h))

  pub route_cut : (x key : ℕ) (list : List ℕ) → route_buffer ws (node_of x) key list ≡ route_buffer ws x key list
  route_cut x key list =
      cut (λ x. route_buffer ws x key list) x
      (λ h. route_far 64 key list (le_refl 64) ∙ rw (leafset_same x h) (sym (route_far x key list h)))

  -- and a reach
  reach_refused : (x key : ℕ) → is_accepted (leafset_answer ws x) ≡ false
      → reach_of ws x key ≡ record { answer = leafset_answer ws x; end = none_node; hops = 0 }
  unfolding reach_answer leafset_answer
  reach_refused x key n =
      let same : reach_answer ws x key ≡ leafset_answer ws x = stays (leafset_refusals ws x) (key_out_of_range key ∷ []) n in
      refused_reach ws x key (ap is_accepted same ∙ n) ∙ rw same

  reach_far : (x key : ℕ) → 64 ≤ x → reach_of ws x key ≡ record { answer = leafset_answer ws x; end = none_node; hops = 0 }
  reach_far x key h = reach_refused x key (ap is_accepted (sym (Passed.node_twice ws x)) ∙ far_refused x x (inl h))

  pub reach_cut : (x key : ℕ) → reach_of ws (node_of x) key ≡ reach_of ws x key
  reach_cut x key =
      cut (λ x. reach_of ws x key) x
      (λ h. reach_far 64 key (le_refl 64) ∙ rw (leafset_same x h) (sym (reach_far x key h)))
