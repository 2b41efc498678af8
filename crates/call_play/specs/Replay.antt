-- Playing a list of words, each on what the one before left: on a ring that is opened first, or on one that is there.
use Rattle.std.specs.Prelude.{◌≡◌, true, false, List, ℕ, ◌≤◌, ◌<◌, length, get_or}
use Rattle.model.specs.Leafset.{Table}
use Rattle.model.specs.Ring.{Ring, initial}
use Rattle.model.specs.Answers.{first_of, is_accepted}
use Rattle.model.specs.Words.{reads_as_ring}
use Rattle.model.specs.Buffer.{ring_refusals, Written, writes, open_buffer, play_buffer_all}
use Rattle.model.specs.ConnectivityPreserved.{Reached, words_at, answer_at, Unbroken}

-- the places for the answers, after the first n words of a script that is played on ws
pub record AnswersPlaced (n : ℕ) (ws script answers answers' : List ℕ) : Type 0 where
  -- the number of each word's answer stands at the word's place, if there is one
  pub answer_at_place : (i : ℕ) → i < n → i < length answers → get_or answers' i 0 ≡ answer_at ws script i
  pub other_places_kept : (i : ℕ) → n ≤ i → get_or answers' i 0 ≡ get_or answers i 0
  pub as_many_places : length answers' ≡ length answers

-- the opening's answer, and the words that the script leaves; "nothing is written" where the opening is refused
unfoldable pub replay_buffer : List ℕ → Table → List ℕ → Written
replay_buffer old t script = writes old (open_buffer old t).answer (play_buffer_all (open_buffer old t).words script)

-- the promise of a replay, for any old words, any A, B and keys, any script, and any number of places for the answers: r, a number, ws'
-- and answers' are what it answers and leaves
pub record Replayed (old : List ℕ) (t : Table) (script answers : List ℕ) (r : ℕ) (ws' answers' : List ℕ) : Type 0 where
  pub answer_and_words : record { answer = r; words = ws' } ≡ replay_buffer old t script
  pub places : r ≡ 0 → AnswersPlaced (length script) (open_buffer old t).words script answers answers'
  pub refused_keeps_places : is_accepted r ≡ false → answers' ≡ answers
  -- demand 3, for this script
  pub connectivity_preserved : r ≡ 0 → Unbroken (open_buffer old t).words script (initial t)

-- the promise of playing a script on a ring that is there, for any words, any script, and any number of places: r, ws' and answers' are
-- what it answers and leaves
pub record PlayedAll (ws script answers : List ℕ) (r : ℕ) (ws' answers' : List ℕ) : Type 0 where
  pub answer : r ≡ first_of (ring_refusals ws)
  pub words : r ≡ 0 → ws' ≡ play_buffer_all ws script
  pub refused_keeps_words : is_accepted r ≡ false → ws' ≡ ws
  pub places : r ≡ 0 → AnswersPlaced (length script) ws script answers answers'
  pub refused_keeps_places : is_accepted r ≡ false → answers' ≡ answers
  -- demand 3, for this script, where the words were reached
  pub connectivity_preserved : (ρ : Ring) → Reached ws ρ → Unbroken ws script ρ

-- the first n words of a script, played on words that read as a ring
pub record PlayedUpTo (n : ℕ) (ws script answers ws' answers' : List ℕ) : Type 0 where
  pub words : ws' ≡ words_at ws script n
  pub still_reads : reads_as_ring ws' ≡ true
  pub places : AnswersPlaced n ws script answers answers'
