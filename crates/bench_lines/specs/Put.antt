-- What a call that puts bytes into a lent buffer leaves.
use Rattle.std.specs.Prelude.{ℕ, ◌+◌, ◌≡◌, List, ◌++◌, length, take}

-- the bytes stand from `at` up to `end`, those before `at` are kept, and so is the length
pub record Put (entry exit : List ℕ) (at end : ℕ) (bytes : List ℕ) : Type 0 where
  pub written : take end exit ≡ take at entry ++ bytes
  pub ends : end ≡ at + length bytes
  pub long : length exit ≡ length entry
