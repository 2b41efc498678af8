-- The bounds of what a reader holds.
use Rattle.std.specs.Prelude.{ℕ, ◌^◌, ◌≤◌, ◌<◌, ◌&&◌, ◌≡◌, eqb, length, Option, MatchOption, if◌then◌else◌}
use Rattle.model.specs.declared.values.Sides.{Sides}
use Rattle.model.specs.Structs.{RoomSides}
use Rattle.text_form.specs.Assemble.{parts, is_sides, no_number}
use Rattle.text_form.specs.declared.Command.{Command}
use Rattle.text_form.specs.declared.Command.TheVariants as command
use Rattle.text_form.specs.declared.Given.{Given}
use Rattle.text_form.specs.declared.Given.TheVariants as given
use Rattle.text_form.specs.declared.Reader.{Reader}

-- each number that a line of this command holds is below this
abbrev pub bound : Command → ℕ
bound command.Sides = 9
bound command.Keys = 2 ^ 24
bound command.On = 64
bound command.Off = 64
bound command.Leave = 64
bound command.Notice = 64
bound command.Contact = 64
bound command.Timer = 64
bound command.Deliver = 1024
bound command.Echo = 1024
bound command.Lose = 1024
bound command.Word = 2 ^ 32
bound command.Tail = 2 ^ 32

-- the numbers of a line with all its parts: a is the first of two or three, b the last
pub record PartsBounded (c : Command) (a b : ℕ) : Type 0 where
  pub last : b < bound c
  pub first : 2 ≤ length (parts c) → a < bound c

pub record ReaderBounded (r : Reader) : Type 0 where
  pub place : r.place ≤ 4
  pub first : 2 ≤ r.place → r.first < bound r.command
  pub sides : RoomSides r.sides
  pub keys : r.keys ≤ 64

-- the sides, once both are read
abbrev pub sides_after : Sides → Command → ℕ → ℕ → ℕ → Sides
sides_after sides c place a b = if is_sides c && eqb place 2 then record { ahead = a; behind = b } else sides

-- the key that is given, and how many bytes of a tail: 0 for none
abbrev pub key_in : Given → ℕ
key_in given.Nothing = 0
key_in given.Opening = 0
key_in (given.Key k) = k
key_in (given.Word w) = 0
key_in (given.Tail k v) = 0

abbrev pub tail_in : Given → ℕ
tail_in given.Nothing = 0
tail_in given.Opening = 0
tail_in (given.Key k) = 0
tail_in (given.Word w) = 0
tail_in (given.Tail k v) = k

pub record GivenBounded (g : Given) : Type 0 where
  pub key : key_in g < 2 ^ 24
  pub tail : tail_in g ≤ 3

-- the number that a token spells, or none
abbrev pub Spells : ℕ → Option ℕ → Type 0
Spells n found = MatchOption found (n ≡ no_number) (λ k. (k ≡ n) × (n < no_number))
