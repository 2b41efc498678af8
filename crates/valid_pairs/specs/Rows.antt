-- What the code tests of a row of pairs: each word without the bits that it must have.
use Rattle.std.specs.Prelude.{◌≡◌, ℕ, ◌+◌, ◌/◌, ◌^◌, ◌<◌, ◌≤◌, Bool, true, ◌&&◌, List, [], ◌∷◌, length, replicate, ◌==◌, bit_xor, nat_eq, nat_le, nat_lt}
use Rattle.std.specs.Prelude.{slice_set, if◌then◌else◌}
use Rattle.model.specs.Choice.{every}
use Rattle.model.specs.Sets.{all}
use Rattle.model.specs.Fields.{bits, flag}
use Rattle.model.specs.Words.{ring_length, at}
use Rattle.valid_nodes.specs.Nodes.{key_at, clock_at}
use Rattle.valid_pairs.specs.Pairs.{link_at, spare_at}

-- the first word of a pair that is not held and no candidate, and the second of one that has no spare
abbrev pub no_link : ℕ
no_link = 805306368

abbrev pub no_spare : ℕ
no_spare = 1073741888

-- the two words from place p are those of a pair without a link and a spare
abbrev pub nothing_at : List ℕ → ℕ → Bool
nothing_at ws p = at ws p == no_link && at ws (p + 1) == no_spare

-- b wherever 63 - x + z is read, but 0 where x is z
abbrev pub off_diagonal : ℕ → List ℕ
off_diagonal b = slice_set (replicate 127 b) 63 0

-- what the code of a row is given: the row of node x of n, and the two tables
pub record GivenRow (ws links spares : List ℕ) (x n : ℕ) : Type 0 where
  pub long : length ws ≡ ring_length
  pub few : n ≤ 64
  pub node : x < n
  pub link_table : links ≡ off_diagonal no_link
  pub spare_table : spares ≡ off_diagonal no_spare

-- x runs, and its place with itself is 0
pub record RunningRow (ws : List ℕ) (x : ℕ) : Type 0 where
  pub own_link : link_at ws x x ≡ 0
  pub own_spare : spare_at ws x x ≡ 0
  pub runs : flag 24 (key_at ws x) ≡ true

-- the bits in which w differs from b, or from 0 where x is z
abbrev pub apart : ℕ → ℕ → ℕ → ℕ → ℕ
apart b x z w = bit_xor w (if nat_eq x z then 0 else b)

-- u is what a link may have beyond `no_link`
unfoldable pub link_fits : ℕ → ℕ → Bool
link_fits clock u =
    every
    ((u / 2 ^ 26 == 0)
    ∷ (if flag 24 u then nat_lt 0 (bits 0 24 u) else (bits 0 24 u == 0))
    ∷ nat_le (bits 0 24 u) clock
    ∷ [])

module _ (ws : List ℕ) (n x : ℕ) where
  -- each link of the row fits
  abbrev pub links_fit : Bool
  links_fit = all n (λ z. link_fits (bits 0 24 (clock_at ws x)) (apart no_link x z (link_at ws x z)))

  -- no pair of the row has a link
  abbrev pub no_links : Bool
  no_links = all n (λ z. nat_eq (apart no_link x z (link_at ws x z)) 0)

  -- no pair of the row has a spare
  abbrev pub no_spares : Bool
  no_spares = all n (λ z. nat_eq (apart no_spare x z (spare_at ws x z)) 0)
