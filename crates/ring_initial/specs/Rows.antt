-- The rows of pairs of the initial ring.
use Rattle.std.specs.Prelude.{◌≡◌, ◌≢◌, List, ℕ, ◌+◌, ◌<◌, length, get_or}
use Rattle.model.specs.Ring.{cleared}
use Rattle.model.specs.Words.{pair_place, pair_words}

-- ws' is ws with the cleared pairs of each x below k and each other node of n
pub record Rows (ws ws' : List ℕ) (n k : ℕ) : Type 0 where
  pub long : length ws' ≡ length ws
  pub pair : (x z i : ℕ) → x < k → z < n → z ≢ x → i < 2 → get_or ws' (pair_place x z + i) 0 ≡ get_or (pair_words cleared z) i 0
  pub other : (i : ℕ) → ((x z : ℕ) → x < k → z < n → z ≢ x → (i ≢ pair_place x z) × (i ≢ pair_place x z + 1)) → get_or ws' i 0 ≡ get_or ws i 0
