-- The own record of a node in the words of its pairs, once stored.
use Rattle.std.specs.Prelude.{◌≡◌, ◌≢◌, List, ℕ, ◌+◌, ◌<◌, ◌≤◌, length, get_or}
use Rattle.model.specs.Ring.{Own}
use Rattle.model.specs.Words.{pair_place, pair_word, spare_word}

-- ws' is ws with the pairs of x and each z from a up to b, of the own record o
pub record Stored (ws ws' : List ℕ) (x a b : ℕ) (o : Own) : Type 0 where
  pub long : length ws' ≡ length ws
  pub first : (z : ℕ) → a ≤ z → z < b → get_or ws' (pair_place x z) 0 ≡ pair_word (o.commit z) (o.held z) (o.candidates z)
  pub second : (z : ℕ) → a ≤ z → z < b → get_or ws' (pair_place x z + 1) 0 ≡ spare_word (o.spare z)
  pub other : (i : ℕ) → ((z : ℕ) → a ≤ z → z < b → (i ≢ pair_place x z) × (i ≢ pair_place x z + 1)) → get_or ws' i 0 ≡ get_or ws i 0
