-- Which refusals apply, read off what the code asks of the words.
use mathlib.Core.Path.{◌≡◌, ap, ◌∙◌}
use mathlib.Core.Bool.{true, false, not}
use mathlib.Core.List.{List, ◌∷◌}
use Prim.Native.Nat.{ℕ, ◌≤◌, ◌<◌}
use lib.ListN.{length}
use borrow.Author.Tests.{lt-ltb, le-ltb, eq-eqb, ne_eqb}
use Rattle.model.specs.Leafset.{size}
use Rattle.model.specs.Answers.{Refusal, first_of}
use Rattle.model.specs.Words.{ring_length, decode_table, decode_node, decode, reads_as_ring}
use Rattle.model.specs.Buffer.{wrong_length, not_a_ring}
use Rattle.model.specs.Play.{no_node, no_message, node_off, already_running, clock_spent}
use Rattle.model.proofs.Answers.{next}

-- ---- 1 and 6

module _ (ws : List ℕ) where
  pub wrong_length_lem : (length ws ≡ ring_length → ⊥) → (wrong_length ws).applies ≡ true
  wrong_length_lem d = ap not (ne_eqb (length ws) ring_length d)

  pub right_length : length ws ≡ ring_length → (wrong_length ws).applies ≡ false
  right_length e = ap not (eq-eqb (length ws) ring_length e)

  pub no_ring : reads_as_ring ws ≡ false → (not_a_ring ws).applies ≡ true
  no_ring e = ap not e

  pub a_ring : reads_as_ring ws ≡ true → (not_a_ring ws).applies ≡ false
  a_ring e = ap not e

-- ---- those from the state

module _ (ws : List ℕ) (x : ℕ) where
  pub out_of_table : size (decode_table ws) ≤ x → (no_node (decode ws) x).applies ≡ true
  unfolding decode
  out_of_table h = ap not (le-ltb x (size (decode_table ws)) h)

  pub in_table : x < size (decode_table ws) → (no_node (decode ws) x).applies ≡ false
  unfolding decode
  in_table h = ap not (lt-ltb x (size (decode_table ws)) h)

  pub off : (decode_node ws x).running ≡ false → (node_off (decode ws) x).applies ≡ true
  unfolding decode
  off e = ap not e

  pub on : (decode_node ws x).running ≡ true → (node_off (decode ws) x).applies ≡ false
  unfolding decode
  on e = ap not e

  -- neither applies to a node of the table that runs
  pub runs : (qs : List Refusal) → x < size (decode_table ws) → (decode_node ws x).running ≡ true
      → first_of (no_node (decode ws) x ∷ node_off (decode ws) x ∷ qs) ≡ first_of qs
  runs qs h e = next _ _ (in_table h) ∙ next _ _ (on e)

  pub started : (decode_node ws x).running ≡ true → (already_running (decode ws) x).applies ≡ true
  unfolding decode
  started e = e

  pub stopped : (decode_node ws x).running ≡ false → (already_running (decode ws) x).applies ≡ false
  unfolding decode
  stopped e = e

  pub spent : (decode_node ws x).clock ≡ 16777215 → (clock_spent (decode ws) true x).applies ≡ true
  unfolding decode
  spent e = eq-eqb (decode_node ws x).clock 16777215 e

  pub unspent : ((decode_node ws x).clock ≡ 16777215 → ⊥) → (clock_spent (decode ws) true x).applies ≡ false
  unfolding decode
  unspent d = ne_eqb (decode_node ws x).clock 16777215 d

module _ (ws : List ℕ) (i : ℕ) where
  pub no_message_lem : length (decode ws).messages ≤ i → (no_message (decode ws) i).applies ≡ true
  no_message_lem h = ap not (le-ltb i (length (decode ws).messages) h)

  pub a_message : i < length (decode ws).messages → (no_message (decode ws) i).applies ≡ false
  a_message h = ap not (lt-ltb i (length (decode ws).messages) h)
