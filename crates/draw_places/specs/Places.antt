-- Where the discs of the nodes stand.
use Rattle.std.specs.Prelude.{List, map, ℕ, zero, suc, ◌+◌, ◌-◌, ◌*◌, ◌/◌, ◌%◌, min, max, ltb, length, get_or, if◌then◌else◌}
use Rattle.model.specs.Sets.{count}

-- the angle of a key
abbrev pub angle_of : ℕ → ℕ
angle_of key = key / 256 % 65536

-- the distance between so many neighbours, of n nodes
abbrev pub distances_of : ℕ → ℕ → ℕ
distances_of n many = 32768 / n * many

-- how many of the keys are lower
unfoldable pub rank_of : List ℕ → ℕ → ℕ
rank_of keys key = count (length keys) (λ y. ltb (get_or keys y 0) key)

-- the lowest of the first n keys
unfoldable pub lowest_of : ℕ → List ℕ → ℕ
lowest_of zero keys = 4294967295
lowest_of (suc n) keys = min (lowest_of n keys) (get_or keys n 0)

-- the greatest of f 0 to f (n - 1)
unfoldable pub greatest : ℕ → (ℕ → ℕ) → ℕ
greatest zero f = 0
greatest (suc n) f = max (greatest n f) (f n)

-- how far on the node of a rank is pushed by the one with the key `by`, if that is not after it
unfoldable pub pushed_by : List ℕ → ℕ → ℕ → ℕ
pushed_by keys rank by =
    if ltb rank (rank_of keys by) then 0 else angle_of by + distances_of (length keys) (rank - rank_of keys by)

-- by all that are not after it
unfoldable pub pushed_most : List ℕ → ℕ → ℕ
pushed_most keys rank = greatest (length keys) (λ y. pushed_by keys rank (get_or keys y 0))

-- where it has to be, so that those after it have room before the first, a turn on
unfoldable pub end_of : List ℕ → ℕ → ℕ
end_of keys rank =
    angle_of (lowest_of (length keys) keys) + 65536 - distances_of (length keys) (length keys - rank)

-- the angle of node x's disc when the discs are pushed ahead
unfoldable pub ahead_of : List ℕ → ℕ → ℕ
ahead_of keys x = min (pushed_most keys (rank_of keys (get_or keys x 0))) (end_of keys (rank_of keys (get_or keys x 0)))

-- a key on the ring seen from behind
abbrev pub behind : ℕ → ℕ
behind key = 16777215 - key % 16777216

-- half way between the angle ahead and the one back, which counts from the end of a turn
unfoldable pub between_of : ℕ → ℕ → ℕ
between_of ahead back = (ahead + 196608 - 1 - back) / 2 % 65536

-- the angle of node x's disc
unfoldable pub disc_of : List ℕ → ℕ → ℕ
disc_of keys x = between_of (ahead_of keys x) (ahead_of (map behind keys) x)
