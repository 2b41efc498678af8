-- Numbers and lines of numbers as bytes: "Output is in decimal, with single spaces."
use Rattle.std.specs.Prelude.{ℕ, zero, suc, ◌+◌, ◌/◌, ◌%◌, cond, List, [], ◌∷◌, ◌++◌, ltb}

-- the ASCII codes
abbrev pub digit : ℕ → ℕ
digit d = 48 + d

abbrev pub space : ℕ
space = 32

abbrev pub newline : ℕ
newline = 10

-- n in decimal with the fewest digits, of which there are at most k
unfoldable pub decimal_in : ℕ → ℕ → List ℕ
decimal_in zero n = []
decimal_in (suc k) n = cond (ltb n 10) (digit n ∷ []) (decimal_in k (n / 10) ++ (digit (n % 10) ∷ []))

-- n in decimal; a number has fewer digits than n + 2
unfoldable pub decimal : ℕ → List ℕ
decimal n = decimal_in (suc n) n

-- each number with a space in front
unfoldable pub spaced : List ℕ → List ℕ
spaced [] = []
spaced (n ∷ ns) = space ∷ decimal n ++ spaced ns

-- a line of numbers, with single spaces between them and a newline at the end
unfoldable pub line_bytes : List ℕ → List ℕ
line_bytes [] = newline ∷ []
line_bytes (n ∷ ns) = decimal n ++ spaced ns ++ newline ∷ []

-- lines, one after the other
unfoldable pub lines_bytes : List (List ℕ) → List ℕ
lines_bytes [] = []
lines_bytes (l ∷ ls) = line_bytes l ++ lines_bytes ls
