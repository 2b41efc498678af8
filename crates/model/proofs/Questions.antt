-- The questions about the words of a well-formed ring: the answer's number, and the value.
use mathlib.Core.Path.{◌≡◌, refl, sym, ◌∙◌}
use mathlib.Core.Logic.{◌↔◌}
use Prim.Native.Nat.{ℕ}
use mathlib.Core.Bool.{Bool, true, false, not, ◌&&◌}
use mathlib.Core.List.{[], ◌∷◌}
use lib.ListN.{length}
use lib.Dec.{ltb}
use borrow.Author.Tests.{eq-eqb, lt-ltb}
use Rattle.std.specs.Prelude.{if◌then◌else◌}
use Rattle.model.specs.Sets.{to_bits}
use Rattle.model.specs.Leafset.{size, leafset}
use Rattle.model.specs.Ring.{Ring, holds, is_running}
use Rattle.model.specs.Answers.{first_of, is_accepted}
use Rattle.model.specs.WellFormed.{WellFormed}
use Rattle.model.specs.Words.{ring_length, encode}
use Rattle.model.specs.Buffer.{ring_answer}
use Rattle.model.specs.Connection.{Connected, connected, CountsGroups}
use Rattle.model.specs.Questions.{leafset_answer, leafset_of, connection_answer, connection_of, groups_of}
use Rattle.model.proofs.Laws.{clash, and_in}
use Rattle.model.proofs.Words.{length_encode}
use Rattle.model.proofs.RoundTrip.{round_trip}
use Rattle.model.proofs.Fits.{encoded_reads}
use Rattle.model.proofs.Connection.{starts, turned, decides}
use Rattle.model.proofs.Groups.{counts_groups}

-- of nodes of which those are of the table and those run: 7, 8 or none
abbrev pub asked : Bool → Bool → ℕ
asked low running = if low then (if running then 0 else 8) else 7

pub record LeafsetAsked (r : Ring) (x : ℕ) : Type 0 where
  pub answer : leafset_answer (encode r) x ≡ asked (ltb x (size r.table)) (is_running r x)
  -- "64 bits, bit s for stand s", of a running node; "the empty set" for any other number
  pub value : leafset_of (encode r) x ≡ (if ltb x (size r.table) && is_running r x then to_bits 64 (leafset r.table x (holds r x)) else 0)

pub record ConnectionAsked (r : Ring) (a b : ℕ) : Type 0 where
  pub answer : connection_answer (encode r) a b ≡ asked (ltb a (size r.table) && ltb b (size r.table)) (is_running r a && is_running r b)
  -- yes exactly where steps lead from one to the other: so no where one is off, or not of the table
  pub value : (connection_of (encode r) a b ≡ true) ↔ Connected r a b

pub record GroupsAsked (r : Ring) : Type 0 where
  pub answer : ring_answer (encode r) ≡ 0
  pub value : CountsGroups r (groups_of (encode r))

-- 7 and 8 of one node, and of two
of_one : (p c : Bool) → first_of (record { number = 7; applies = not p } ∷ record { number = 8; applies = not c } ∷ []) ≡ asked p c
unfolding first_of
of_one true true = refl
of_one true false = refl
of_one false c = refl

of_two :
    (p q c d : Bool)
    → first_of
    (record { number = 7; applies = not p } ∷ record { number = 7; applies = not q }
    ∷ record { number = 8; applies = not c } ∷ record { number = 8; applies = not d } ∷ [])
    ≡ asked (p && q) (c && d)
unfolding first_of
of_two true true true true = refl
of_two true true true false = refl
of_two true true false d = refl
of_two true false c d = refl
of_two false q c d = refl

-- what is given where a question is accepted
given : {A : Type 0} (p c : Bool) (v none : A) → (if is_accepted (asked p c) then v else none) ≡ (if p && c then v else none)
given true true v none = refl
given true false v none = refl
given false c v none = refl

yes_given : (p v : Bool) → (if p then v else false) ≡ true → v ≡ true
yes_given true v e = e
yes_given false v e = clash e refl

module _ (r : Ring) (g : WellFormed r) where
  ring_answer_lem : ring_answer (encode r) ≡ 0
  unfolding ring_answer first_of
  ring_answer_lem = rw (eq-eqb (length (encode r)) ring_length (length_encode r), encoded_reads r g)

  leafset_answer_lem : (x : ℕ) → leafset_answer (encode r) x ≡ asked (ltb x (size r.table)) (is_running r x)
  unfolding leafset_answer first_of
  leafset_answer_lem x =
      rw (eq-eqb (length (encode r)) ring_length (length_encode r), encoded_reads r g, round_trip r g)
      (of_one (ltb x (size r.table)) (is_running r x))

  pub leafset_asked : (x : ℕ) → LeafsetAsked r x
  unfolding leafset_of
  leafset_asked x =
      record {
        answer = leafset_answer_lem x;
        value = rw (leafset_answer_lem x, round_trip r g) (given (ltb x (size r.table)) (is_running r x) _ 0);
      }

  abbrev both_low : ℕ → ℕ → Bool
  both_low a b = ltb a (size r.table) && ltb b (size r.table)

  abbrev both_run : ℕ → ℕ → Bool
  both_run a b = is_running r a && is_running r b

  connection_answer_lem : (a b : ℕ) → connection_answer (encode r) a b ≡ asked (both_low a b) (both_run a b)
  unfolding connection_answer first_of
  connection_answer_lem a b =
      rw (eq-eqb (length (encode r)) ring_length (length_encode r), encoded_reads r g, round_trip r g)
      (of_two (ltb a (size r.table)) (ltb b (size r.table)) (is_running r a) (is_running r b))

  connection_value : (a b : ℕ) → connection_of (encode r) a b ≡ (if both_low a b && both_run a b then connected r a b else false)
  unfolding connection_of
  connection_value a b = rw (connection_answer_lem a b, round_trip r g) (given (both_low a b) (both_run a b) (connected r a b) false)

  low : (x : ℕ) → is_running r x ≡ true → ltb x (size r.table) ≡ true
  low x e = lt-ltb x (size r.table) ((g.node_well x).running_low e)

  pub connection_asked : (a b : ℕ) → ConnectionAsked r a b
  connection_asked a b =
      record {
        answer = connection_answer_lem a b;
        value = (
          λ e. decided.0 (yes_given (both_low a b && both_run a b) (connected r a b) (sym (connection_value a b) ∙ e)),
          λ path.
              let from = starts r path in
              let to = starts r (turned r path) in
              connection_value a b ∙ yes_if (both_low a b && both_run a b) (and_in (and_in (low a from) (low b to)) (and_in from to)) (decided.1 path),
        );
      }
    where
      decided : (connected r a b ≡ true) ↔ Connected r a b
      decided = decides r a (λ x h. (g.node_well x).running_low h) b

      yes_if : (p : Bool) {v : Bool} → p ≡ true → v ≡ true → (if p then v else false) ≡ true
      yes_if p e f = rw (e, f)

  pub groups_asked : GroupsAsked r
  unfolding groups_of
  groups_asked =
      record {
        answer = ring_answer_lem;
        value = rw (ring_answer_lem, round_trip r g) (counts_groups r (λ x h. (g.node_well x).running_low h));
      }
