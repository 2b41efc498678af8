-- Event words: writing one, and reading one.
use Rattle.std.specs.Prelude.{ℕ, ◌≡◌, ◌+◌, ◌-◌, ◌*◌, ◌^◌, Bool, false, not, ◌&&◌, List, [], ◌∷◌, get_or, ltb, leb, eqb, if◌then◌else◌}
use Rattle.std.specs.Prelude.{Result, Ok, Err, MatchResult}
use Rattle.model.specs.Fields.{bits, bit, flag, kind, of_kind}
use Rattle.model.specs.Answers.{Refusal, first_of, is_accepted, number_of}
use Rattle.model.specs.declared.event.Event.{Event}
use Rattle.model.specs.declared.event.Event.TheVariants.{On, Off, Notice, Contact, Timer, Deliver, Lose}
use Rattle.model.specs.declared.refusal.Refusal.{Refusal as Kind}
use Rattle.model.specs.declared.timer.TimerKind.{TimerKind}
use Rattle.model.specs.declared.timer.TimerKind.TheVariants.{Invite, AskReplacement, Replace, Deloopy}
use Rattle.model.specs.declared.timer.NoTimer.{NoTimer}
use Rattle.model.specs.declared.values.NodeNumber.{NodeNumber}

-- "One word each: kind 9 on, 10 off, 11 notice, 12 contact, 13 timer, 14 deliver, 15 lose. For kinds 9-13 stand x is in bits 0-5;
-- for 11 and 12 the other stand .. is in 6-11; for 13 the timer, 0 to 4, is in 12-14. Kinds 14 and 15 have a message position in
-- bits 0-9, oldest 0." Of kind 10, bit 12 is set where it is polite; of kind 14, bit 10 where it is an echo.
abbrev pub word_of : Event → ℕ
word_of (On x) = of_kind 9 x.0
word_of (Off x polite) = of_kind 10 (bit polite * 2 ^ 12 + x.0)
word_of (Notice x z) = of_kind 11 (z.0 * 2 ^ 6 + x.0)
word_of (Contact x y) = of_kind 12 (y.0 * 2 ^ 6 + x.0)
word_of (Timer x k) = of_kind 13 (k * 2 ^ 12 + x.0)
word_of (Deliver i echo) = of_kind 14 (bit echo * 2 ^ 10 + i)
word_of (Lose i) = of_kind 15 i

-- the event that the named bits of a word of kind 9 to 15 give
unfoldable pub event_of : ℕ → Event
event_of w =
    get_or
    (On x ∷ Off x (flag 12 w) ∷ Notice x other ∷ Contact x other ∷ Timer x (bits 12 3 w) ∷ Deliver position (flag 10 w) ∷ [])
    (kind w - 9)
    (Lose position)
  where
    x : NodeNumber
    x = record { 0 = bits 0 6 w }

    other : NodeNumber
    other = record { 0 = bits 6 6 w }

    position : ℕ
    position = bits 0 10 w

-- "Timer value 1 is refused with 4": the timers are 0, 2, 3 and 4
abbrev pub is_timer : ℕ → Bool
is_timer k = leb k 4 && not (eqb k 1)

abbrev pub timer_number : TimerKind → ℕ
timer_number Invite = 0
timer_number AskReplacement = 2
timer_number Replace = 3
timer_number Deloopy = 4

-- the timer of a number, or the number, which is no timer's
abbrev pub IsTimerOf : ℕ → Result TimerKind NoTimer → Type 0
IsTimerOf k r = MatchResult r (λ timer. timer_number timer ≡ k) (λ none. (none.0 ≡ k) × (is_timer k ≡ false))

-- each part of the event has room in its bits, and the timer is one
abbrev pub parts_fit : Event → Bool
parts_fit (On x) = ltb x.0 64
parts_fit (Off x polite) = ltb x.0 64
parts_fit (Notice x z) = ltb x.0 64 && ltb z.0 64
parts_fit (Contact x y) = ltb x.0 64 && ltb y.0 64
parts_fit (Timer x k) = ltb x.0 64 && is_timer k
parts_fit (Deliver i echo) = ltb i 1024
parts_fit (Lose i) = ltb i 1024

-- "Contact or notice where both stands are one."
abbrev pub same_node : Event → Bool
same_node (On x) = false
same_node (Off x polite) = false
same_node (Notice x z) = eqb x.0 z.0
same_node (Contact x y) = eqb x.0 y.0
same_node (Timer x k) = false
same_node (Deliver i echo) = false
same_node (Lose i) = false

-- ---- writing

-- "4. Not an event: .. timer ..; when writing, a part too big. 5. Contact or notice where both stands are one."
abbrev pub event_refusals : Event → List Refusal
event_refusals e = record { number = 4; applies = not (parts_fit e) } ∷ record { number = 5; applies = same_node e } ∷ []

unfoldable pub event_answer : Event → ℕ
event_answer e = first_of (event_refusals e)

-- the word, and "a word writer 0" when refused
unfoldable pub write_event : Event → ℕ
write_event e = if is_accepted (event_answer e) then word_of e else 0

-- ---- reading

-- "kind, timer or unnamed bit": the word is that of the event which its named bits give
abbrev pub is_event_word : ℕ → Bool
is_event_word w = eqb w (word_of (event_of w)) && parts_fit (event_of w)

-- "4. Not an event: kind, timer or unnamed bit .. 5. Contact or notice where both stands are one."
abbrev pub word_refusals : ℕ → List Refusal
word_refusals w = record { number = 4; applies = not (is_event_word w) } ∷ record { number = 5; applies = same_node (event_of w) } ∷ []

unfoldable pub word_answer : ℕ → ℕ
word_answer w = first_of (word_refusals w)

-- what reading a word gives: the answer, and the event; "an event reading no event" when refused
pub record ReadWord : Type 0 where
  pub answer : ℕ
  pub event : List Event

unfoldable pub read_event : ℕ → ReadWord
read_event w = record { answer = word_answer w; event = if is_accepted (word_answer w) then event_of w ∷ [] else [] }

-- what the code's answer to reading says
abbrev pub reading_of : Result Event Kind → ReadWord
reading_of (Ok e) = record { answer = 0; event = e ∷ [] }
reading_of (Err a) = record { answer = number_of a; event = [] }
