-- What decoded words say, one part at a time.
use mathlib.Core.Path.{◌≡◌}
use mathlib.Core.List.{List}
use Prim.Native.Nat.{ℕ, ◌+◌, ◌<◌}
use lib.ListN.{length, get_or}
use borrow.Author.Tests.{lt-ltb}
use Rattle.model.specs.Leafset.{size, key}
use Rattle.model.specs.Fields.{bits, flag}
use Rattle.model.specs.Words.{node_place, decode_table, decode_node, decode_message, decode}
use Rattle.model.proofs.Laws.{length_tabulate, get_d_tabulate}

module _ (ws : List ℕ) where
  pub size_read : size (decode_table ws) ≡ bits 4 7 (get_or ws 0 0)
  unfolding decode_table
  size_read = length_tabulate (λ s. bits 0 24 (get_or ws (node_place s) 0)) (bits 4 7 (get_or ws 0 0))

  pub count_read : length (decode ws).messages ≡ bits 11 11 (get_or ws 0 0)
  unfolding decode
  count_read = length_tabulate (decode_message ws) (bits 11 11 (get_or ws 0 0))

  module _ (x : ℕ) (h : x < size (decode_table ws)) where
    pub key_read : key (decode_table ws) x ≡ bits 0 24 (get_or ws (node_place x) 0)
    unfolding decode_table
    key_read = get_d_tabulate (λ s. bits 0 24 (get_or ws (node_place s) 0)) 0 (bits 4 7 (get_or ws 0 0)) x (rw size_read at h)

    pub running_read : (decode_node ws x).running ≡ flag 24 (get_or ws (node_place x) 0)
    unfolding decode_node
    running_read = rw (lt-ltb x (size (decode_table ws)) h)

    pub clock_read : (decode_node ws x).clock ≡ bits 0 24 (get_or ws (node_place x + 1) 0)
    unfolding decode_node
    clock_read = rw (lt-ltb x (size (decode_table ws)) h)
