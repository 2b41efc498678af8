-- What a script has at a position of its words.
use Rattle.std.specs.Prelude.{ℕ, ◌+◌, List, Option, None, Some, cond, length, get_or, ltb}
use Rattle.bench_script.specs.declared.Reading.{Reading}

-- the word there, or none at the end
abbrev pub next_at : List ℕ → ℕ → Option ℕ
next_at ws at = cond (ltb at (length ws)) (Some (get_or ws at 0)) None

-- the position after the word there; at the end it stays
abbrev pub after_at : List ℕ → ℕ → ℕ
after_at ws at = cond (ltb at (length ws)) (at + 1) at

abbrev pub read_at : List ℕ → ℕ → Reading
read_at ws at = record { next = next_at ws at; after = after_at ws at }
