-- What the code tests of a rest: word i of it, without the bits of an empty one, under two masks.
use Rattle.std.specs.Prelude.{◌≡◌, ℕ, zero, suc, ◌+◌, ◌-◌, ◌*◌, ◌/◌, ◌%◌, ◌^◌, ◌<◌, Bool, ◌&&◌, List, leb, eqb, get_or, if◌then◌else◌}
use Rattle.std.specs.Int.Bits.{bit_or, bit_xor, bit_and}
use Rattle.model.specs.Sets.{tabulate}
use Rattle.model.specs.Types.{uses_view, uses_stamp}
use Rattle.model.specs.Words.{at}

-- how many of the 24 nodes from `from` on are below n
abbrev pub part : ℕ → ℕ → ℕ
part n from = if leb n from then 0 else if leb 24 (n - from) then 24 else n - from

-- how many of its lowest bits word i of a rest may use: 0 is the stamp, the others are the view
abbrev pub room : ℕ → ℕ → ℕ → ℕ
room n type zero = if uses_stamp type then 24 else 0
room n type (suc i) = if uses_view type then part n (24 * i) else 0

-- all bits but the lowest ones
abbrev pub above : ℕ → ℕ
above free = 2 ^ 32 - 2 ^ free

-- for each type, four words: the bits that have to be those of an empty rest
unfoldable pub of_types_mask : ℕ → List ℕ
of_types_mask n = tabulate 64 (λ j. above (room n (j / 4) (j % 4)))

-- the receiver's bit in word i of a rest
abbrev pub receiver_bit : ℕ → ℕ → ℕ
receiver_bit s i = if eqb i (1 + s / 24) then 2 ^ (s % 24) else 0

-- for each receiver, four words: its bit in a view
pub record OfReceivers (table : List ℕ) : Type 0 where
  pub bit : (s i : ℕ) → s < 64 → i < 4 → get_or table (4 * s + i) 0 ≡ receiver_bit s i

-- the two of them, for n nodes
pub record Tables (types receivers : List ℕ) (n : ℕ) : Type 0 where
  pub of_types : types ≡ of_types_mask n
  pub of_receivers : OfReceivers receivers

-- what word i of the rest of message k has beyond an empty one, with message 0 at place base
abbrev pub beyond : List ℕ → ℕ → ℕ → ℕ → ℕ → ℕ
beyond ws base k i empty = bit_xor (at ws (base + 5 * k + (1 + i))) empty

-- and what is wrong in that
abbrev pub wrong : List ℕ → ℕ → List ℕ → List ℕ → ℕ → ℕ → ℕ → ℕ
wrong ws base types receivers k i empty =
    bit_or
    (bit_and (beyond ws base k i empty) (get_or types (4 * (at ws (base + 5 * k) % 16) + i) 0))
    (bit_and (beyond ws base k i empty) (get_or receivers (4 * (at ws (base + 5 * k) / 2 ^ 10 % 64) + i) 0))

-- nothing is wrong in the rest of message k
abbrev pub nothing_wrong : List ℕ → ℕ → List ℕ → List ℕ → ℕ → Bool
nothing_wrong ws base types receivers k =
    eqb (wrong ws base types receivers k 0 1879048192) 0
    && eqb (wrong ws base types receivers k 1 2147483648) 0
    && eqb (wrong ws base types receivers k 2 2147483648) 0
    && eqb (wrong ws base types receivers k 3 2147483648) 0

-- its words have 32 bits
pub record Small (ws : List ℕ) (base k : ℕ) : Type 0 where
  pub stamp : beyond ws base k 0 1879048192 < 2 ^ 32
  pub low : beyond ws base k 1 2147483648 < 2 ^ 32
  pub middle : beyond ws base k 2 2147483648 < 2 ^ 32
  pub high : beyond ws base k 3 2147483648 < 2 ^ 32
