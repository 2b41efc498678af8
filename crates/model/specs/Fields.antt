-- The parts of a word of 32 bits.
use Rattle.std.specs.Prelude.{ℕ, ◌+◌, ◌*◌, ◌/◌, ◌%◌, ◌^◌, Bool, true, false, eqb}

-- the `width` bits of w from bit `low`: "Bits are counted from 0, the lowest"
abbrev pub bits : ℕ → ℕ → ℕ → ℕ
bits low width w = w / 2 ^ low % 2 ^ width

-- a mark as a bit, and the mark at bit `low`
abbrev pub bit : Bool → ℕ
bit true = 1
bit false = 0

abbrev pub flag : ℕ → ℕ → Bool
flag low w = eqb (bits low 1 w) 1

-- "The top 4 bits are the kind."
abbrev pub kind : ℕ → ℕ
kind w = bits 28 4 w

-- the word of kind k whose other bits are w
abbrev pub of_kind : ℕ → ℕ → ℕ
of_kind k w = k * 2 ^ 28 + w
