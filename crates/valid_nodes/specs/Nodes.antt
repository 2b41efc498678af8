-- Word 0, the nodes, and words that belong to nothing.
use Rattle.std.specs.Prelude.{ℕ, ◌+◌, Bool, ◌||◌, List, [], ◌∷◌, ltb, leb, eqb}
use Rattle.model.specs.Choice.{every}
use Rattle.model.specs.Sets.{all}
use Rattle.model.specs.Fields.{bits, flag}
use Rattle.model.specs.Words.{sides_of, sides_fit, at, head_word, key_word, clock_word, node_place, between}

-- the words from place a up to e are 0
unfoldable pub clear : List ℕ → ℕ → ℕ → Bool
clear ws a e = all e (λ i. ltb i a || eqb (at ws i) 0)

module _ (ws : List ℕ) where
  -- the two words of node s
  abbrev pub key_at : ℕ → ℕ
  key_at s = at ws (node_place s)

  abbrev pub clock_at : ℕ → ℕ
  clock_at s = at ws (node_place s + 1)

-- w is a word 0, and its parts are in range
unfoldable pub head_reads : ℕ → Bool
head_reads w =
    every
    (eqb w (head_word (sides_of w) (bits 4 7 w) (bits 11 11 w))
    ∷ sides_fit (sides_of w)
    ∷ between 1 64 (bits 4 7 w)
    ∷ leb (bits 11 11 w) 1024
    ∷ [])

-- k and c are the two words of a node
unfoldable pub node_reads : ℕ → ℕ → Bool
node_reads k c = every (eqb k (key_word (bits 0 24 k) (flag 24 k)) ∷ eqb c (clock_word (bits 0 24 c)) ∷ [])

-- n nodes
unfoldable pub nodes_read : List ℕ → ℕ → Bool
nodes_read ws n = all n (λ s. node_reads (key_at ws s) (clock_at ws s))
