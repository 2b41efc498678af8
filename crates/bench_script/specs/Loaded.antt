-- The words that loading leaves.
use Rattle.std.specs.Prelude.{◌≡◌, ℕ, ◌+◌, ◌*◌, ◌/◌, ◌^◌, List, length, get_or, take}
use Rattle.model.specs.Bench.{little_endian}

-- the word of the four bytes from `at` on, lowest first
abbrev pub word_of : List ℕ → ℕ → ℕ
word_of bs at = get_or bs at 0 + 2 ^ 8 * get_or bs (at + 1) 0 + 2 ^ 16 * get_or bs (at + 2) 0 + 2 ^ 24 * get_or bs (at + 3) 0

pub record Loaded (bytes entry exit : List ℕ) (r : ℕ) : Type 0 where
  pub loaded : take r exit ≡ little_endian bytes
  pub count : r ≡ length bytes / 4
  pub long : length exit ≡ length entry
