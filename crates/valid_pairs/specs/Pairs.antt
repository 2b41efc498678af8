-- The pairs.
use Rattle.std.specs.Prelude.{ℕ, ◌+◌, ◌-◌, ◌*◌, Bool, not, ◌&&◌, ◌||◌, List, [], ◌∷◌, ◌==◌, nat_eq, nat_le, nat_lt, if◌then◌else◌}
use Rattle.model.specs.Choice.{◌⇒◌, every}
use Rattle.model.specs.Sets.{all, none_node}
use Rattle.model.specs.Fields.{bits, flag}
use Rattle.model.specs.Words.{at, pair_word, spare_word, pair_place}
use Rattle.model.specs.Short.{short_pair}
use Rattle.valid_nodes.specs.Nodes.{clear, key_at, clock_at}

module _ (ws : List ℕ) where
  -- the two words of the pair (x, z)
  abbrev pub link_at : ℕ → ℕ → ℕ
  link_at x z = at ws (pair_place x z)

  abbrev pub spare_at : ℕ → ℕ → ℕ
  spare_at x z = at ws (pair_place x z + 1)

-- w is the first word of a pair of a node with that clock
unfoldable pub link_reads : ℕ → ℕ → Bool
link_reads clock w =
    every
    ((w == pair_word (bits 0 24 w) (flag 24 w) (flag 25 w))
    ∷ (if flag 24 w then nat_lt 0 (bits 0 24 w) else (bits 0 24 w == 0))
    ∷ nat_le (bits 0 24 w) clock
    ∷ [])

-- p is the second word of the pair (x, z) of n nodes, w being its first
unfoldable pub spare_reads : ℕ → ℕ → ℕ → ℕ → ℕ → Bool
spare_reads n x z w p =
    every
    ((p == spare_word (bits 0 7 p))
    ∷ (nat_lt (bits 0 7 p) n || bits 0 7 p == none_node)
    ∷ not (bits 0 7 p == x)
    ∷ not (bits 0 7 p == z)
    ∷ (not (flag 24 w) ⇒ nat_eq (bits 0 7 p) none_node)
    ∷ [])

-- the two words from place p are those of the pair of x with another z: a node that is off neither holds z nor has it as a candidate
abbrev pub apart_reads : List ℕ → ℕ → ℕ → ℕ → ℕ → Bool
apart_reads ws n x z p =
    every
    (link_reads (bits 0 24 (clock_at ws x)) (at ws p)
    ∷ spare_reads n x z (at ws p) (at ws (p + 1))
    ∷ (not (flag 24 (key_at ws x)) ⇒ not (flag 24 (at ws p)) && not (flag 25 (at ws p)))
    ∷ [])

-- the two words of (x, z): 0 where x is z
unfoldable pub pair_reads : List ℕ → ℕ → ℕ → ℕ → Bool
pair_reads ws n x z =
    if x == z then (link_at ws x z == 0) && spare_at ws x z == 0
    else apart_reads ws n x z (pair_place x z)

-- how many of the pairs of x with others come before that with z
abbrev pub in_row : ℕ → ℕ → ℕ
in_row x z = if nat_lt z x then z else z - 1

-- the pair of x with z in a row that begins at place `row` and has none of x with itself
abbrev pub in_row_reads : List ℕ → ℕ → ℕ → ℕ → ℕ → Bool
in_row_reads ws n x row z = z == x || apart_reads ws n x z (row + 2 * in_row x z)

-- such rows are those of a short ring
abbrev pub short_pair_reads : List ℕ → ℕ → ℕ → ℕ → Bool
short_pair_reads ws n x z = z == x || apart_reads ws n x z (short_pair n x z)

unfoldable pub short_pairs_read : List ℕ → ℕ → Bool
short_pairs_read ws n = all n (λ x. all n (short_pair_reads ws n x))

-- the pairs of x with n nodes, and nothing after them
unfoldable pub row_reads : List ℕ → ℕ → ℕ → Bool
row_reads ws n x = every (all n (pair_reads ws n x) ∷ clear ws (pair_place x n) (pair_place x 64) ∷ [])

-- n rows, and nothing after them
unfoldable pub pairs_read : List ℕ → ℕ → Bool
pairs_read ws n = every (all n (row_reads ws n) ∷ clear ws (pair_place n 0) 8321 ∷ [])

-- the two words from place p are those of the pair of a running x with another z
abbrev pub running_reads : List ℕ → ℕ → ℕ → ℕ → ℕ → Bool
running_reads ws n x z p = link_reads (bits 0 24 (clock_at ws x)) (at ws p) && spare_reads n x z (at ws p) (at ws (p + 1))

-- the first word of (x, z) standing at base + 2 * z
abbrev pub run_reads : List ℕ → ℕ → ℕ → ℕ → ℕ → Bool
run_reads ws n x base z = running_reads ws n x z (base + 2 * z)

abbrev pub other_reads : List ℕ → ℕ → ℕ → ℕ → Bool
other_reads ws n x z = running_reads ws n x z (pair_place x z)

abbrev pub others_read : List ℕ → ℕ → ℕ → ℕ → Bool
others_read ws n x z = z == x || other_reads ws n x z
