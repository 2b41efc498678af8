-- The refusals of a reach: those of its start, then that of the key.
use mathlib.Core.Path.{◌≡◌, refl, sym, ap, ◌∙◌}
use mathlib.Core.Bool.{false}
use mathlib.Core.List.{List, [], ◌∷◌}
use Prim.Native.Nat.{ℕ}
use Rattle.model.specs.WellFormed.{nil, cons}
use Rattle.model.specs.Answers.{first_of, is_accepted}
use Rattle.model.specs.Questions.{leafset_refusals, leafset_answer, connection_answer}
use Rattle.model.specs.Route.{key_out_of_range}
use Rattle.model.specs.Reach.{reach_answer}
use Rattle.model.proofs.Answers.{none_applies, stays, passes}
use Rattle.call_refusals.proofs.Passed.{node_twice}

module _ (ws : List ℕ) (x key : ℕ) {a : ℕ} where
  pub of_start : a ≡ connection_answer ws x x → is_accepted (connection_answer ws x x) ≡ false → a ≡ reach_answer ws x key
  unfolding reach_answer leafset_answer
  of_start e n =
      e ∙ node_twice ws x
      ∙ sym (stays (leafset_refusals ws x) (key_out_of_range key ∷ []) (ap is_accepted (sym (node_twice ws x)) ∙ n))

  pub after_start : connection_answer ws x x ≡ 0 → a ≡ first_of (key_out_of_range key ∷ []) → a ≡ reach_answer ws x key
  unfolding reach_answer leafset_answer
  after_start ok e =
      e ∙ sym (passes (leafset_refusals ws x) (key_out_of_range key ∷ [])
      (none_applies (leafset_refusals ws x) (cons refl (cons refl (cons refl (cons refl nil)))) (sym (node_twice ws x) ∙ ok)))
