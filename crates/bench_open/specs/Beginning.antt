-- Opening a ring by the first words of a script, test by test.
use Rattle.std.specs.Prelude.{ℕ, ◌+◌, Bool, false, ◌&&◌, List, map, leb, eqb, length, get_or, take, drop}
use Rattle.model.specs.Sets.{all}
use Rattle.model.specs.Fields.{bits}
use Rattle.model.specs.Ring.{initial}
use Rattle.model.specs.Words.{sides_of, sides_fit, head_word, key_word, encode}
use Rattle.model.specs.declared.values.Sides.{Sides}
use Rattle.model.specs.Buffer.{Written, writes}
use Rattle.model.specs.Bench.{script_table, script_answer}

-- the answer of the opening, and the words after it: the initial ring's, or the old ones
unfoldable pub open_script : List ℕ → List ℕ → Written
open_script old ws = writes old (script_answer ws) (encode (initial (script_table ws)))

-- "word 0 with m = 0", and as many words after it as it says that there are nodes
unfoldable pub head_fits : List ℕ → Bool
head_fits ws = eqb w (head_word (sides_of w) (bits 4 7 w) 0) && leb (1 + bits 4 7 w) (length ws)
  where
    w : ℕ
    w = get_or ws 0 0

abbrev pub sizes_fit : Sides → ℕ → Bool
sizes_fit sides n = sides_fit sides && leb 1 n && leb n 64

-- a key word "with running 0"
unfoldable pub key_fits : ℕ → Bool
key_fits w = eqb w (key_word (bits 0 24 w) false)

unfoldable pub keys_fit : List ℕ → ℕ → Bool
keys_fit ws n = all n (λ s. key_fits (get_or ws (1 + s) 0))

abbrev pub script_keys : List ℕ → ℕ → List ℕ
script_keys ws n = map (bits 0 24) (take n (drop 1 ws))
