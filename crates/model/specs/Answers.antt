-- The answers: acceptance and the refusals, with the documents' numbers, and the order in which they are tried.
use Rattle.std.specs.Prelude.{ℕ, Bool, List, [], ◌∷◌, eqb, Result, Ok, Err, if◌then◌else◌}
use Rattle.model.specs.declared.refusal.Refusal.{Refusal as Kind}
use Rattle.model.specs.declared.refusal.Refusal.TheVariants.{WrongLength, OpeningOutOfRange, BadKey, NotAnEvent, SameNode, NotARing}
use Rattle.model.specs.declared.refusal.Refusal.TheVariants.{OutOfTable, NodeOff, AlreadyRunning, ClockSpent, PoolFull, KeyOutOfRange, ListTooShort}
use Rattle.model.specs.declared.refusal.Refusal.TheVariants.{SidesDiffer, TablesClash, TooManyMessages, SenderFull, NotWatched, NotShort, PlaceTooSmall}

-- "Refusals from the input", "Refusals from the state": the numbers 1 to 11; document 02 adds 12 to 20
abbrev pub number_of : Kind → ℕ
number_of WrongLength = 1
number_of OpeningOutOfRange = 2
number_of BadKey = 3
number_of NotAnEvent = 4
number_of SameNode = 5
number_of NotARing = 6
number_of OutOfTable = 7
number_of NodeOff = 8
number_of AlreadyRunning = 9
number_of ClockSpent = 10
number_of PoolFull = 11
number_of KeyOutOfRange = 12
number_of ListTooShort = 13
number_of SidesDiffer = 14
number_of TablesClash = 15
number_of TooManyMessages = 16
number_of SenderFull = 17
number_of NotWatched = 18
number_of NotShort = 19
number_of PlaceTooSmall = 20

-- "answer (0 accepted)": what a call gives is acceptance, with a value, or a refusal
abbrev pub answer_number : {A : Type 0} → Result A Kind → ℕ
answer_number (Ok _) = 0
answer_number (Err r) = number_of r

-- what a call gives beside its answer; `empty` where it refuses
abbrev pub given_or : {A : Type 0} → A → Result A Kind → A
given_or empty (Ok a) = a
given_or empty (Err _) = empty

abbrev pub is_accepted : ℕ → Bool
is_accepted a = eqb a 0

-- a refusal by its number, and the test whether it applies
pub record Refusal : Type 0 where
  pub number : ℕ
  pub applies : Bool

-- "The lowest number that applies is given, and none otherwise": the refusals stand in rising order; 0 is acceptance
unfoldable pub first_of : List Refusal → ℕ
first_of [] = 0
first_of (q ∷ qs) = if q.applies then q.number else first_of qs
