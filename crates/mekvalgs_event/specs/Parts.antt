-- An event as three numbers: its kind; its node or position; the other node, the timer, or 1 for a polite off and for an echo; or 0.
use Rattle.std.specs.Prelude.{ℕ, ◌-◌, Bool, not, ◌&&◌, ◌||◌, List, [], ◌∷◌, leb, eqb, get_or, if◌then◌else◌}
use Rattle.model.specs.Fields.{bit}
use Rattle.model.specs.Words.{between}
use Rattle.model.specs.Answers.{Refusal, first_of, is_accepted}
use Rattle.model.specs.Events.{word_of, event_of, parts_fit, same_node, word_answer}
use Rattle.model.specs.declared.event.Event.{Event}
use Rattle.model.specs.declared.event.Event.TheVariants.{On, Off, Notice, Contact, Timer, Deliver, Lose}
use Rattle.model.specs.declared.values.NodeNumber.{NodeNumber}
use Rattle.mekvalgs_event.specs.declared.Parts.{Parts}

abbrev pub numbers : ℕ → ℕ → ℕ → Parts
numbers kind first second = record { kind = kind; first = first; second = second }

abbrev pub parts_of : Event → Parts
parts_of (On x) = numbers 9 x.0 0
parts_of (Off x polite) = numbers 10 x.0 (bit polite)
parts_of (Notice x z) = numbers 11 x.0 z.0
parts_of (Contact x y) = numbers 12 x.0 y.0
parts_of (Timer x k) = numbers 13 x.0 k
parts_of (Deliver i echo) = numbers 14 i (bit echo)
parts_of (Lose i) = numbers 15 i 0

-- reading a word: "an event reading no event" when refused
unfoldable pub read_parts : ℕ → Parts
read_parts w = if is_accepted (word_answer w) then parts_of (event_of w) else numbers 0 0 0

-- the event of three numbers, of kind 9 to 15
unfoldable pub event_of_parts : Parts → Event
event_of_parts p =
    get_or
    (On x ∷ Off x marked ∷ Notice x other ∷ Contact x other ∷ Timer x p.second ∷ Deliver p.first marked ∷ [])
    (p.kind - 9)
    (Lose p.first)
  where
    x : NodeNumber
    x = record { 0 = p.first }

    other : NodeNumber
    other = record { 0 = p.second }

    marked : Bool
    marked = eqb p.second 1

-- only notice, contact and timer have a third number, and off and deliver: 1 or 0
abbrev pub third_fits : Parts → Bool
third_fits p = if eqb p.kind 10 || eqb p.kind 14 then leb p.second 1 else between 11 13 p.kind || eqb p.second 0

-- the kind is an event's, the third number fits it, and no part is too big
unfoldable pub parts_are : Parts → Bool
parts_are p = between 9 15 p.kind && third_fits p && parts_fit (event_of_parts p)

-- "4. Not an event: kind, timer ..; when writing, a part too big. 5. Contact or notice where both stands are one."
abbrev pub parts_refusals : Parts → List Refusal
parts_refusals p = record { number = 4; applies = not (parts_are p) } ∷ record { number = 5; applies = same_node (event_of_parts p) } ∷ []

unfoldable pub parts_answer : Parts → ℕ
parts_answer p = first_of (parts_refusals p)

-- writing a word, "a word writer 0" when refused
unfoldable pub write_parts : Parts → ℕ
write_parts p = if is_accepted (parts_answer p) then word_of (event_of_parts p) else 0
