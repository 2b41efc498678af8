-- What the bench prints, as lines of numbers.
use Rattle.std.specs.Prelude.{ℕ, ◌+◌, ◌*◌, ◌^◌, false, not, ◌&&◌, List, [], ◌∷◌, ◌++◌, map, length, get_or, take, drop, leb, eqb, if◌then◌else◌}
use Rattle.model.specs.Sets.{count, members, all, tabulate}
use Rattle.model.specs.Leafset.{Table, size, key}
use Rattle.model.specs.Ring.{Ring, initial, holds}
use Rattle.model.specs.Answers.{Refusal, first_of, is_accepted}
use Rattle.model.specs.Fields.{bits, bit}
use Rattle.model.specs.Play.{Played, play_word, play_all}
use Rattle.model.specs.Words.{head_word, key_word, sides_of}
use Rattle.model.specs.Buffer.{out_of_range, bad_key}
use Rattle.model.specs.Connection.{groups}

abbrev pub Line : Type 0
Line = List ℕ

-- the words of a byte string, four bytes each, lowest first; a tail under 4 bytes is left out
unfoldable pub little_endian : List ℕ → List ℕ
little_endian [] = []
little_endian (a ∷ []) = []
little_endian (a ∷ b ∷ []) = []
little_endian (a ∷ b ∷ c ∷ []) = []
little_endian (a ∷ b ∷ c ∷ d ∷ rest) = (a + 2 ^ 8 * b + 2 ^ 16 * c + 2 ^ 24 * d) ∷ little_endian rest

-- "It prints per event: count from 1, answer (0 accepted), messages travelling."
unfoldable pub event_lines : ℕ → Ring → List ℕ → List Line
event_lines k r [] = []
event_lines k r (w ∷ ws) =
    let p : Played = play_word r w in
    (k ∷ p.answer ∷ length p.ring.messages ∷ []) ∷ event_lines (k + 1) p.ring ws

-- "Then per stand: number, key, running, clock, count held, the held in rising order."
unfoldable pub node_line : Ring → ℕ → Line
node_line r x =
    x ∷ key t x ∷ bit (r.node x).running ∷ (r.node x).clock ∷ count (size t) (holds r x) ∷ members (size t) (holds r x)
  where
    t : Table
    t = r.table

-- the table that the first words give
unfoldable pub script_table : List ℕ → Table
script_table ws = record { sides = sides_of (get_or ws 0 0); keys = map (bits 0 24) (take (bits 4 7 (get_or ws 0 0)) (drop 1 ws)) }

-- "word 0 with m = 0 (any fault is 2), n key words with running 0 (a wrong one is 3, a missing or cut one 2)"
abbrev pub script_refusals : List ℕ → List Refusal
script_refusals ws =
    record { number = 2; applies = not (eqb (get_or ws 0 0) (head_word t.sides n 0) && leb (1 + n) (length ws)) }
    ∷ out_of_range t
    ∷ record { number = 3; applies = not (all n (λ s. eqb (get_or ws (1 + s) 0) (key_word (key t s) false))) }
    ∷ bad_key t
    ∷ []
  where
    t : Table
    t = script_table ws

    n : ℕ
    n = bits 4 7 (get_or ws 0 0)

unfoldable pub script_answer : List ℕ → ℕ
script_answer ws = first_of (script_refusals ws)

-- the lines before "groups", and the number after it; "A refused opening prints only 0, the refusal, 0."
pub record Printed : Type 0 where
  pub lines : List Line
  pub group : List ℕ

unfoldable pub bench : List ℕ → Printed
bench bytes =
    if is_accepted (script_answer ws)
    then record { lines = event_lines 1 start events ++ tail ++ tabulate (size start.table) (node_line end); group = groups end ∷ [] }
    else record { lines = (0 ∷ script_answer ws ∷ 0 ∷ []) ∷ []; group = [] }
  where
    ws : List ℕ
    ws = little_endian bytes

    start : Ring
    start = initial (script_table ws)

    events : List ℕ
    events = drop (1 + size start.table) ws

    end : Ring
    end = play_all start events

    -- "A tail under 4 bytes is an event answered 4."
    tail : List Line
    tail =
        if eqb (4 * length ws) (length bytes)
        then []
        else ((length events + 1) ∷ 4 ∷ length end.messages ∷ []) ∷ []
