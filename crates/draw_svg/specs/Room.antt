-- What a call that draws into a lent buffer leaves.
use Rattle.std.specs.Prelude.{◌≡◌, ℕ, ◌+◌, ◌≤◌, List, length}

-- what it puts from `at` on ends at `end`, so many bytes further at most; the buffer is as long as it was
pub record Room (entry exit : List ℕ) (at end most : ℕ) : Type 0 where
  pub long : length exit ≡ length entry
  pub high : end ≤ at + most
