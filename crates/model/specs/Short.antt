-- A short ring for the log: document 02's note 14.
use Rattle.std.specs.Prelude.{ℕ, ◌+◌, ◌-◌, ◌*◌, Bool, not, List, [], ◌∷◌, ◌++◌, map, length, drop, ltb, eqb, if◌then◌else◌}
use Rattle.model.specs.Choice.{every}
use Rattle.model.specs.Sets.{count, members, tabulate}
use Rattle.model.specs.Answers.{Refusal, first_of, is_accepted}
use Rattle.model.specs.Words.{belongs, ring_length, at, size_in, count_in, reads_as_ring}
use Rattle.model.specs.Buffer.{Written, writes, wrong_length, ring_refusals}

-- "word 0, then only the words that belong to a stand, pair or message, in ring order": their places, for n nodes and m messages
unfoldable pub places : ℕ → ℕ → List ℕ
places n m = members ring_length (belongs n m)

-- "Its length follows from n and m."
abbrev pub short_length : ℕ → ℕ → ℕ
short_length n m = length (places n m)

-- where row x of the pairs begins in a short ring of n nodes: after the nodes, rows of n - 1 pairs
abbrev pub short_row : ℕ → ℕ → ℕ
short_row n x = 1 + 2 * n + 2 * ((n - 1) * x)

-- the places of the first words of the pair (x, z) and of message k
abbrev pub short_pair : ℕ → ℕ → ℕ → ℕ
short_pair n x z = short_row n x + 2 * (if ltb z x then z else z - 1)

abbrev pub short_message : ℕ → ℕ → ℕ
short_message n k = short_row n n + 5 * k

-- a ring turned short
unfoldable pub shortened : List ℕ → List ℕ
shortened ws = map (at ws) (places (size_in ws) (count_in ws))

-- the word that place i gets of a short ring of n and m: that after the words of the places before it that belong, and 0 where it does not belong
abbrev pub long_word : ℕ → ℕ → List ℕ → ℕ → ℕ
long_word n m short i = if belongs n m i then at short (count i (belongs n m)) else 0

-- a short ring made long
unfoldable pub lengthened : List ℕ → List ℕ
lengthened short = tabulate ring_length (long_word (size_in short) (count_in short) short)

-- it is not "empty", has no "other length than its word 0 says", and expands "to a ring"
unfoldable pub reads_as_short : List ℕ → Bool
reads_as_short short =
    every
    (ltb 0 (length short)
    ∷ eqb (length short) (short_length (size_in short) (count_in short))
    ∷ reads_as_ring (lengthened short)
    ∷ [])

-- ---- the calls

-- "20, the lent place for the short form is too small"
abbrev pub too_small : List ℕ → List ℕ → Refusal
too_small ws place = record { number = 20; applies = ltb (length place) (length (shortened ws)) }

-- "Refusals 1 and 6 concern the long side and come first"
abbrev pub shorten_refusals : List ℕ → List ℕ → List Refusal
shorten_refusals ws place = ring_refusals ws ++ too_small ws place ∷ []

unfoldable pub shorten_answer : List ℕ → List ℕ → ℕ
shorten_answer ws place = first_of (shorten_refusals ws place)

-- the answer, "the length written, 0 if refused", and the lent place after it: "words beyond it are not touched"
pub record Shortened : Type 0 where
  pub answer : ℕ
  pub length : ℕ
  pub place : List ℕ

unfoldable pub shorten_buffer : List ℕ → List ℕ → Shortened
shorten_buffer ws place =
    if is_accepted (shorten_answer ws place)
    then record {
      answer = 0;
      length = length (shortened ws);
      place = shortened ws ++ drop (length (shortened ws)) place;
    }
    else record { answer = shorten_answer ws place; length = 0; place = place }

-- "19, a short input is empty, has another length than its word 0 says, or wouldn't expand to a ring"
abbrev pub not_short : List ℕ → Refusal
not_short short = record { number = 19; applies = not (reads_as_short short) }

-- "when a short ring is made long only 1 does, since the long buffer's old words don't matter"
abbrev pub lengthen_refusals : List ℕ → List ℕ → List Refusal
lengthen_refusals short ws = wrong_length ws ∷ not_short short ∷ []

unfoldable pub lengthen_answer : List ℕ → List ℕ → ℕ
lengthen_answer short ws = first_of (lengthen_refusals short ws)

unfoldable pub lengthen_buffer : List ℕ → List ℕ → Written
lengthen_buffer short ws = writes ws (lengthen_answer short ws) (lengthened short)
