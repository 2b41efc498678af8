-- What a call on lent words gives, and an event on words that read as a ring.
use Rattle.std.specs.Prelude.{◌≡◌, false, List, ℕ, Result}
use Rattle.model.specs.Answers.{first_of, number_of, answer_number, is_accepted}
use Rattle.model.specs.Words.{encode, decode}
use Rattle.model.specs.Play.{after, state_refusals}
use Rattle.model.specs.Buffer.{Written, writes, buffer_answer}
use Rattle.model.specs.declared.refusal.Refusal.{Refusal}
use Rattle.model.specs.declared.event.Event.{Event}

-- an answer, and the words after the call
abbrev pub written : {A : Type 0} → Result A Refusal → List ℕ → Written
written r ws = record { answer = answer_number r; words = ws }

-- an event on words that read as a ring
abbrev pub event_on : List ℕ → Event → Written
event_on ws e = writes ws (first_of (state_refusals (decode ws) e)) (encode (after (decode ws) e))

-- a is the refusal that the word w meets on the words
pub record Refuses (ws : List ℕ) (w : ℕ) (a : Refusal) : Type 0 where
  pub is_refusal : is_accepted (buffer_answer ws w) ≡ false
  pub number : number_of a ≡ buffer_answer ws w
