-- The parts of a join in lent words: what the functions on them are handed, and what they leave.
use Rattle.std.specs.Prelude.{◌≡◌, ◌≢◌, true, List, ◌++◌, map, ℕ, ◌+◌, ◌<◌, ◌≤◌, length, get_or}
use Rattle.model.specs.Leafset.{size}
use Rattle.model.specs.Ring.{Own, Message, Ring}
use Rattle.model.specs.Words.{pair_place, pair_words, decode_table, reads_as_ring}
use Rattle.model.specs.Join.{raised_message}

-- ws read as a ring of k nodes, which have room after n others
pub record Second (ws : List ℕ) (n k : ℕ) : Type 0 where
  pub reads : reads_as_ring ws ≡ true
  pub nodes : k ≡ size (decode_table ws)
  pub room : n + k ≤ 64

-- the messages of r, then those of s, raised by n
abbrev pub both_messages : ℕ → Ring → Ring → List Message
both_messages n r s = r.messages ++ map (raised_message n) s.messages

-- ws' is ws with the pairs of x and each other z from a up to b, of the own record o
pub record Row (ws ws' : List ℕ) (x a b : ℕ) (o : Own) : Type 0 where
  pub long : length ws' ≡ length ws
  pub pair : (z i : ℕ) → a ≤ z → z < b → z ≢ x → i < 2 → get_or ws' (pair_place x z + i) 0 ≡ get_or (pair_words o z) i 0
  pub other : (i : ℕ) → ((z : ℕ) → a ≤ z → z < b → z ≢ x → (i ≢ pair_place x z) × (i ≢ pair_place x z + 1)) → get_or ws' i 0 ≡ get_or ws i 0

-- the same of each x from `from` up to `to`
pub record Rows (ws ws' : List ℕ) (from to a b : ℕ) (own : ℕ → Own) : Type 0 where
  pub long : length ws' ≡ length ws
  pub pair : (x z i : ℕ) → from ≤ x → x < to → a ≤ z → z < b → z ≢ x → i < 2
      → get_or ws' (pair_place x z + i) 0 ≡ get_or (pair_words (own x) z) i 0
  pub other : (i : ℕ) → ((x z : ℕ) → from ≤ x → x < to → a ≤ z → z < b → z ≢ x → (i ≢ pair_place x z) × (i ≢ pair_place x z + 1))
      → get_or ws' i 0 ≡ get_or ws i 0
