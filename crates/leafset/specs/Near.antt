-- The nearest of a set.
use Rattle.std.specs.Prelude.{◌≡◌, true, ◌&&◌, ℕ, ltb}
use Rattle.model.specs.Sets.{Set, count}

-- y is one of the `many` nearest of S: fewer than `many` are nearer
abbrev pub is_near : ℕ → Set → (ℕ → ℕ) → Set
is_near many S m y = ltb (count 64 (λ z. S z && ltb (m z) (m y))) many

-- those of S whose m is below the limit are the `many` nearest
abbrev pub IsLimit : ℕ → Set → (ℕ → ℕ) → ℕ → Type 0
IsLimit many S m limit = (y : ℕ) → S y ≡ true → ltb (m y) limit ≡ is_near many S m y
