-- What the events use of words that read as a ring.
use mathlib.Core.Path.{◌≡◌}
use mathlib.Core.Bool.{true}
use mathlib.Core.List.{List}
use Prim.Native.Nat.{ℕ, ◌≤◌, ◌<◌}
use lib.ListN.{length}
use Rattle.model.specs.Leafset.{size}
use Rattle.model.specs.Ring.{blank, message_at}
use Rattle.model.specs.Words.{ring_length, decode_table, decode_node, decode, reads_as_ring}
use Rattle.model.specs.WellFormed.{WellFormedMessage}
use Rattle.model.proofs.Lists.{each_at}
use Rattle.model.proofs.Words.{reads_out}
use Rattle.model.proofs.Decoded.{reads_well}
use Rattle.ring_head.proofs.ReadRing.{read_sizes}

module _ (ws : List ℕ) (reads : reads_as_ring ws ≡ true) where
  pub long : length ws ≡ ring_length
  long = (reads_out ws reads).long

  pub few : size (decode_table ws) ≤ 64
  unfolding decode
  few = (read_sizes ws reads).nodes_high

  pub some_node : 0 < size (decode_table ws)
  unfolding decode
  some_node = (reads_well ws reads).table_well.size_low

  pub room : length (decode ws).messages ≤ 1024
  room = (read_sizes ws reads).count_high

  pub clock_high : (x : ℕ) → (decode_node ws x).clock ≤ 16777215
  unfolding decode
  clock_high x = ((reads_well ws reads).node_well x).clock_high

  pub message_well : (k : ℕ) → k < length (decode ws).messages → WellFormedMessage (size (decode_table ws)) (message_at (decode ws) k)
  unfolding decode
  message_well k low = each_at (reads_well ws reads).messages_well blank k low
