-- Keys that were met, by their hashes.
use Rattle.std.specs.Prelude.{ℕ, ◌*◌, ◌/◌, ◌%◌, ◌^◌, Bool, not, List, eqb}
use Rattle.model.specs.Sets.{all}
use Rattle.model.specs.Fields.{bits}
use Rattle.valid_nodes.specs.Nodes.{key_at}

-- the hash of a key, below 512
abbrev pub hash_of : ℕ → ℕ
hash_of key = key * 2654435761 / 2 ^ 23 % 512

abbrev pub key_of : List ℕ → ℕ → ℕ
key_of ws s = bits 0 24 (key_at ws s)

-- the key of node x is that of no node before x
unfoldable pub is_new : List ℕ → ℕ → Bool
is_new ws x = all x (λ y. not (eqb (key_of ws y) (key_of ws x)))
