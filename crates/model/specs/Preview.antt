-- Previews of event words: document 02's note 6.
use Rattle.std.specs.Prelude.{◌≡◌, ℕ, ◌<◌, List, [], ◌∷◌, length, get_or}
use Rattle.model.specs.Answers.{Refusal, first_of}
use Rattle.model.specs.Buffer.{wrong_length, Written, writes, play_refusals, play_buffer, play_buffer_all}
use Rattle.model.specs.ConnectivityPreserved.{answer_at}

-- "a second buffer of wrong length is refusal 1": 1 of either buffer, then those of playing
abbrev pub preview_refusals : List ℕ → ℕ → List ℕ → List Refusal
preview_refusals ws w second = wrong_length second ∷ play_refusals ws w

unfoldable pub preview_answer : List ℕ → ℕ → List ℕ → ℕ
preview_answer ws w second = first_of (preview_refusals ws w second)

-- the answer, and the second buffer after it: "If accepted, the second buffer holds what the event would leave if done on a copy. ..
-- A refused preview writes neither"
unfoldable pub preview_buffer : List ℕ → ℕ → List ℕ → Written
preview_buffer ws w second = writes second (preview_answer ws w second) (play_buffer ws w).words

-- ---- lists of calls

-- a word played, or previewed in a second buffer of any words
pub data Call : Type 0 where
  plays : ℕ → Call
  previews : ℕ → List ℕ → Call

-- the ring's words after a call: of a preview, "The ring isn't written."
abbrev pub called : List ℕ → Call → List ℕ
called ws (plays w) = (play_buffer ws w).words
called ws (previews w second) = ws

-- a list of calls, one after the other
unfoldable pub called_all : List ℕ → List Call → List ℕ
called_all ws [] = ws
called_all ws (c ∷ calls) = called_all (called ws c) calls

-- the answers that the plays among them get, in order
unfoldable pub plays_answered : List ℕ → List Call → List ℕ
plays_answered ws [] = []
plays_answered ws (plays w ∷ calls) = (play_buffer ws w).answer ∷ plays_answered (called ws (plays w)) calls
plays_answered ws (previews w second ∷ calls) = plays_answered (called ws (previews w second)) calls

-- the list without its previews: the words that are played
unfoldable pub played_words : List Call → List ℕ
played_words [] = []
played_words (plays w ∷ calls) = w ∷ played_words calls
played_words (previews w second ∷ calls) = played_words calls

-- "Previews inserted in a list of events change no later answer": every play gets the answer, and the ring has the words in the end, that
-- the list without its previews gives
pub record PreviewsChangeNothing (ws : List ℕ) (calls : List Call) : Type 0 where
  pub as_many_answers : length (plays_answered ws calls) ≡ length (played_words calls)
  pub same_answers : (i : ℕ) → i < length (played_words calls) → get_or (plays_answered ws calls) i 0 ≡ answer_at ws (played_words calls) i
  pub same_ring : called_all ws calls ≡ play_buffer_all ws (played_words calls)
