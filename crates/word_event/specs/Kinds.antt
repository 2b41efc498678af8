-- The kinds of event words.
use Rattle.std.specs.Prelude.{ℕ, ◌≡◌, ◌<◌, ◌≤◌, Result, MatchResult}
use Rattle.word_event.specs.declared.word.EventKind.{EventKind}
use Rattle.word_event.specs.declared.word.EventKind.TheVariants.{On, Off, Notice, Contact, Timer, Deliver, Lose}
use Rattle.word_event.specs.declared.word.NoKind.{NoKind}

-- "kind 9 on, 10 off, 11 notice, 12 contact, 13 timer, 14 deliver, 15 lose"
abbrev pub kind_number : EventKind → ℕ
kind_number On = 9
kind_number Off = 10
kind_number Notice = 11
kind_number Contact = 12
kind_number Timer = 13
kind_number Deliver = 14
kind_number Lose = 15

-- the kind of a number, or the number, which is no kind of an event
abbrev pub IsKindOf : ℕ → Result EventKind NoKind → Type 0
IsKindOf k r = MatchResult r (λ kind. kind_number kind ≡ k) (λ none. (none.0 ≡ k) × (9 ≤ k → 15 < k))
