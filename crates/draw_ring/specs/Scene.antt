-- What is drawn: words that read as a ring, and the keys of its nodes.
use Rattle.std.specs.Prelude.{◌≡◌, true, List, ℕ, ◌≤◌, length}
use Rattle.model.specs.Leafset.{size}
use Rattle.model.specs.Words.{ring_length, decode_table, reads_as_ring}

pub record Scene (ws keys : List ℕ) : Type 0 where
  pub reads : reads_as_ring ws ≡ true
  pub table : keys ≡ (decode_table ws).keys
  pub long : length ws ≡ ring_length
  pub nodes : length keys ≡ size (decode_table ws)
  pub few : length keys ≤ 64
