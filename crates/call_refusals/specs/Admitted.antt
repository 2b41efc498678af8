-- What an event word meets before the refusals of its event.
use Rattle.std.specs.Prelude.{◌≡◌, true, List, ℕ, Result, Ok, Err}
use Rattle.model.specs.Words.{reads_as_ring}
use Rattle.model.specs.Buffer.{play_buffer}
use Rattle.model.specs.declared.event.Event.{Event}
use Rattle.model.specs.declared.refusal.Refusal.{Refusal}
use Rattle.answers.specs.Applied.{event_on, Refuses}

-- playing w on the words, which read as a ring, is the event e on them
pub record Plays (ws : List ℕ) (w : ℕ) (e : Event) : Type 0 where
  pub reads : reads_as_ring ws ≡ true
  pub same : event_on ws e ≡ play_buffer ws w

-- what is known of w on the words where it reads as r: the refusal 1, 4, 5 or 6 that it meets, or else its event
abbrev pub Admitted : List ℕ → ℕ → Result Event Refusal → Type 0
Admitted ws w (Err a) = Refuses ws w a
Admitted ws w (Ok e) = Plays ws w e
