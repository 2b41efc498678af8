-- What is known where no refusal of a question about two nodes applies, and that one about one node names it twice.
use mathlib.Core.Path.{◌≡◌, refl}
use mathlib.Core.Bool.{true, false, not}
use mathlib.Core.List.{List, []}
use Prim.Native.Nat.{ℕ, ◌<◌}
use lib.Dec.{ltb}
use borrow.Author.Tests.{ltb-true}
use Rattle.model.specs.Leafset.{size}
use Rattle.model.specs.Words.{decode_table, decode, reads_as_ring}
use Rattle.model.specs.WellFormed.{Each, nil, cons}
use Rattle.model.specs.Questions.{leafset_answer, connection_refusals, connection_answer}
use Rattle.model.proofs.Laws.{not_out_false}
use Rattle.model.proofs.Lists.{first, rest}
use Rattle.model.proofs.Answers.{none_applies, later, again}

module _ (ws : List ℕ) (x y : ℕ) (a : connection_answer ws x y ≡ 0) where
  none_of_connection : Each (λ q. q.applies ≡ false) (connection_refusals ws x y)
  unfolding connection_answer
  none_of_connection =
      none_applies (connection_refusals ws x y) (cons refl (cons refl (cons refl (cons refl (cons refl (cons refl nil)))))) a

  pub connection_reads : reads_as_ring ws ≡ true
  connection_reads = not_out_false (reads_as_ring ws) (first (rest none_of_connection))

  in_table : (z : ℕ) → not (ltb z (size (decode_table ws))) ≡ false → z < size (decode_table ws)
  in_table z e = ltb-true z (size (decode_table ws)) (not_out_false (ltb z (size (decode_table ws))) e)

  pub connection_from : x < size (decode_table ws)
  unfolding decode
  connection_from = in_table x (first (rest (rest none_of_connection)))

  pub connection_to : y < size (decode_table ws)
  unfolding decode
  connection_to = in_table y (first (rest (rest (rest none_of_connection))))

pub node_twice : (ws : List ℕ) (x : ℕ) → connection_answer ws x x ≡ leafset_answer ws x
unfolding connection_answer leafset_answer
node_twice ws x = later _ _ _ (later _ _ _ (again _ _ _ (again _ [] [] refl)))
