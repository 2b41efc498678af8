-- A span of words, written anew.
use Rattle.std.specs.Prelude.{◌≡◌, List, ℕ, ◌<◌, ◌≤◌, length, get_or}

-- ws' is ws with f i at each i from `from` up to `to`
pub record Patched (ws ws' : List ℕ) (from to : ℕ) (f : ℕ → ℕ) : Type 0 where
  pub long : length ws' ≡ length ws
  pub low : (i : ℕ) → i < from → get_or ws' i 0 ≡ get_or ws i 0
  pub inside : (i : ℕ) → from ≤ i → i < to → get_or ws' i 0 ≡ f i
  pub high : (i : ℕ) → to ≤ i → get_or ws' i 0 ≡ get_or ws i 0
