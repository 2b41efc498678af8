-- Laws of the refusals of the questions: 1 and 6 come first, then 7 and 8 of two nodes.
use mathlib.Core.Path.{◌≡◌, refl, sym, ap, ◌∙◌}
use mathlib.Core.Bool.{Bool, true, false, not, ◌&&◌}
use mathlib.Core.List.{List, [], ◌∷◌}
use Prim.Native.Nat.{ℕ}
use Rattle.std.specs.Prelude.{Result, IsErrAnd, if◌then◌else◌}
use Rattle.model.specs.Answers.{number_of, answer_number, first_of, is_accepted}
use Rattle.model.specs.declared.refusal.Refusal.{Refusal as Kind}
use Rattle.model.specs.Words.{decode_node, decode, reads_as_ring}
use Rattle.model.specs.WellFormed.{Each, nil, cons}
use Rattle.model.specs.Play.{node_off}
use Rattle.model.specs.Buffer.{ring_refusals, ring_answer}
use Rattle.model.specs.Questions.{nodes_refusals, connection_answer}
use Rattle.model.proofs.Cases.{number_high}
use Rattle.model.proofs.Given.{passed_on}
use Rattle.model.proofs.Laws.{not_out_false}
use Rattle.model.proofs.Lists.{first, rest}
use Rattle.model.proofs.Answers.{none_applies, stays, passes}

-- the answer of a call that `?` ends
pub passed_answer : {A : Type 0} (r : Result A Kind) (e : Kind) → IsErrAnd r (λ d. d ≡ e) → {k : ℕ} → number_of e ≡ k → answer_number r ≡ k
passed_answer r e i n = ap answer_number (passed_on r e i) ∙ n

pub passed_refusal : {A : Type 0} (r : Result A Kind) (e : Kind) → IsErrAnd r (λ d. d ≡ e) → is_accepted (answer_number r) ≡ false
passed_refusal r e i = ap (λ (q : Result _ Kind). is_accepted (answer_number q)) (passed_on r e i) ∙ number_high e

module _ (ws : List ℕ) where
  -- ---- refusals 1 and 6 come first

  module _ (a : ring_answer ws ≡ 0) where
    none_applies_here : Each (λ q. q.applies ≡ false) (ring_refusals ws)
    unfolding ring_answer
    none_applies_here = none_applies (ring_refusals ws) (cons refl (cons refl nil)) a

    pub ring_reads : reads_as_ring ws ≡ true
    ring_reads = not_out_false (reads_as_ring ws) (first (rest none_applies_here))

  module _ (x y : ℕ) where
    -- ---- 8 for either of two nodes

    by_marks : (p q : Bool) → first_of (record { number = 8; applies = not p } ∷ record { number = 8; applies = not q } ∷ []) ≡ (if p && q then 0 else 8)
    unfolding first_of
    by_marks true true = refl
    by_marks true false = refl
    by_marks false q = refl

    pub one_off : ((decode_node ws x).running && (decode_node ws y).running) ≡ false → first_of (node_off (decode ws) x ∷ node_off (decode ws) y ∷ []) ≡ 8
    unfolding decode
    one_off e = by_marks (decode_node ws x).running (decode_node ws y).running ∙ rw e

    pub both_on : ((decode_node ws x).running && (decode_node ws y).running) ≡ true → first_of (node_off (decode ws) x ∷ node_off (decode ws) y ∷ []) ≡ 0
    unfolding decode
    both_on e = by_marks (decode_node ws x).running (decode_node ws y).running ∙ rw e

    -- ---- the questions about two nodes

    pub refused_words : {a : ℕ} → a ≡ ring_answer ws → is_accepted (ring_answer ws) ≡ false → a ≡ connection_answer ws x y
    unfolding ring_answer connection_answer
    refused_words e n = e ∙ sym (stays (ring_refusals ws) (nodes_refusals (decode ws) x y) n)

    pub after_words : {a : ℕ} → ring_answer ws ≡ 0 → a ≡ first_of (nodes_refusals (decode ws) x y) → a ≡ connection_answer ws x y
    unfolding ring_answer connection_answer
    after_words g e = e ∙ sym (passes (ring_refusals ws) (nodes_refusals (decode ws) x y) (none_applies_here g))
