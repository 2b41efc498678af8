-- The calls on a lent buffer of any length: opening a ring in it, and playing an event word on it.
use Rattle.std.specs.Prelude.{ℕ, not, ◌&&◌, List, [], ◌∷◌, ◌++◌, length, leb, eqb, if◌then◌else◌}
use Rattle.model.specs.Sets.{all}
use Rattle.model.specs.Leafset.{Table, size, key}
use Rattle.model.specs.Ring.{initial}
use Rattle.model.specs.Answers.{Refusal, first_of, is_accepted}
use Rattle.model.specs.Events.{event_of, word_refusals}
use Rattle.model.specs.Play.{after, state_refusals}
use Rattle.model.specs.Words.{ring_length, encode, decode, in_range, keys_differ, reads_as_ring}

-- "1. A ring buffer isn't 13,441 words."
abbrev pub wrong_length : List ℕ → Refusal
wrong_length ws = record { number = 1; applies = not (eqb (length ws) ring_length) }

-- "6. The words don't read as a ring."
abbrev pub not_a_ring : List ℕ → Refusal
not_a_ring ws = record { number = 6; applies = not (reads_as_ring ws) }

-- of a lent ring alone: 1; 6
abbrev pub ring_refusals : List ℕ → List Refusal
ring_refusals ws = wrong_length ws ∷ not_a_ring ws ∷ []

unfoldable pub ring_answer : List ℕ → ℕ
ring_answer ws = first_of (ring_refusals ws)

-- "2. Opening: n or [A or B] out of range."
abbrev pub out_of_range : Table → Refusal
out_of_range t = record { number = 2; applies = not (in_range t) }

-- "3. Opening: a key above 16,777,215, or two equal."
abbrev pub bad_key : Table → Refusal
bad_key t = record { number = 3; applies = not (all (size t) (λ s. leb (key t s) 16777215) && keys_differ t) }

abbrev pub opening_refusals : Table → List Refusal
opening_refusals t = out_of_range t ∷ bad_key t ∷ []

-- the answer of a call, and "every lent word after it"
pub record Written : Type 0 where
  pub answer : ℕ
  pub words : List ℕ

-- "The lowest number that applies is given, and none otherwise; nothing is written": the words `after` only where none applies
abbrev pub writes : List ℕ → ℕ → List ℕ → Written
writes ws answer after = record { answer = answer; words = if is_accepted answer then after else ws }

-- opening: 1; 2 and 3
abbrev pub open_refusals : List ℕ → Table → List Refusal
open_refusals ws t = wrong_length ws ∷ opening_refusals t

unfoldable pub open_answer : List ℕ → Table → ℕ
open_answer ws t = first_of (open_refusals ws t)

-- "[Opening] writes a fresh ring over the lent buffer, whose old words don't matter."
unfoldable pub open_buffer : List ℕ → Table → Written
open_buffer ws t = writes ws (open_answer ws t) (encode (initial t))

-- playing a word: 1; 4 and 5 of the word; 6; then those of the event
abbrev pub play_refusals : List ℕ → ℕ → List Refusal
play_refusals ws w = wrong_length ws ∷ word_refusals w ++ not_a_ring ws ∷ state_refusals (decode ws) (event_of w)

unfoldable pub buffer_answer : List ℕ → ℕ → ℕ
buffer_answer ws w = first_of (play_refusals ws w)

unfoldable pub play_buffer : List ℕ → ℕ → Written
play_buffer ws w = writes ws (buffer_answer ws w) (encode (after (decode ws) (event_of w)))

-- a list of words, one after the other
unfoldable pub play_buffer_all : List ℕ → List ℕ → List ℕ
play_buffer_all ws [] = ws
play_buffer_all ws (w ∷ words) = play_buffer_all (play_buffer ws w).words words
