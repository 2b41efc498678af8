-- Laws by the case of an event or of an answer: an event's refusals refuse, and it keeps the table; an answer's number is low.
use mathlib.Core.Path.{◌≡◌, refl}
use mathlib.Core.Bool.{false}
use Prim.Native.Nat.{◌≤◌}
use lib.Dec.{lit≤}
use Rattle.std.specs.Prelude.{Result, Ok, Err}
use Rattle.model.specs.Ring.{Ring, is_running, message_at}
use Rattle.model.specs.WellFormed.{Each, nil, cons}
use Rattle.model.specs.Answers.{is_accepted, number_of, answer_number}
use Rattle.model.specs.Play.{after, act, receive, remove_message, refusals, left_refusals}
use Rattle.model.specs.declared.refusal.Refusal.{Refusal}
use Rattle.model.specs.declared.refusal.Refusal.TheVariants.{WrongLength, OpeningOutOfRange, BadKey, NotAnEvent, SameNode, NotARing}
use Rattle.model.specs.declared.refusal.Refusal.TheVariants.{OutOfTable, NodeOff, AlreadyRunning, ClockSpent, PoolFull, KeyOutOfRange, ListTooShort}
use Rattle.model.specs.declared.refusal.Refusal.TheVariants.{SidesDiffer, TablesClash, TooManyMessages, SenderFull, NotWatched, NotShort, PlaceTooSmall}
use Rattle.model.specs.declared.event.Event.{Event}
use Rattle.model.specs.declared.event.Event.TheVariants.{On, Off, Notice, Contact, Timer, Deliver, Lose}
use Rattle.model.proofs.Laws.{if_law}

pub refusals_refuse : (r : Ring) (e : Event) → Each (λ q. is_accepted q.number ≡ false) (refusals r e)
refusals_refuse r (On x) = cons refl (cons refl (cons refl nil))
refusals_refuse r (Off x polite) = cons refl (cons refl nil)
refusals_refuse r (Notice x z) = cons refl (cons refl (cons refl (cons refl nil)))
refusals_refuse r (Contact x y) = cons refl (cons refl (cons refl (cons refl nil)))
refusals_refuse r (Timer x k) = cons refl (cons refl (cons refl nil))
refusals_refuse r (Deliver i echo) = cons refl (cons refl nil)
refusals_refuse r (Lose i) = cons refl nil

pub left_refuses : (r : Ring) → Each (λ q. is_accepted q.number ≡ false) (left_refusals r)
left_refuses r = cons refl (cons refl nil)

-- no event changes the table
pub after_table : (r : Ring) (e : Event) → (after r e).table ≡ r.table
unfolding after act remove_message
after_table r (On x) = refl
after_table r (Off x polite) = if_law (λ (q : Ring). q.table ≡ r.table) polite _ _ (λ e. refl) (λ e. refl)
after_table r (Notice x z) = refl
after_table r (Contact x y) = refl
after_table r (Timer x k) = refl
after_table r (Deliver i echo) =
    if_law (λ (s : Ring). (receive (message_at r i) s).table ≡ r.table) echo r (remove_message i r) (λ e. received r) (λ e. received (remove_message i r))
  where
    received : (s : Ring) → (receive (message_at r i) s).table ≡ s.table
    received s = if_law (λ (q : Ring). q.table ≡ s.table) (is_running s (message_at r i).receiver) _ _ (λ e. refl) (λ e. refl)
after_table r (Lose i) = refl

-- ---- answers

-- a refusal's number is none of acceptance's, and fits a byte
pub number_low : (a : Refusal) → number_of a ≤ 20
number_low WrongLength = lit≤ tt
number_low OpeningOutOfRange = lit≤ tt
number_low BadKey = lit≤ tt
number_low NotAnEvent = lit≤ tt
number_low SameNode = lit≤ tt
number_low NotARing = lit≤ tt
number_low OutOfTable = lit≤ tt
number_low NodeOff = lit≤ tt
number_low AlreadyRunning = lit≤ tt
number_low ClockSpent = lit≤ tt
number_low PoolFull = lit≤ tt
number_low KeyOutOfRange = lit≤ tt
number_low ListTooShort = lit≤ tt
number_low SidesDiffer = lit≤ tt
number_low TablesClash = lit≤ tt
number_low TooManyMessages = lit≤ tt
number_low SenderFull = lit≤ tt
number_low NotWatched = lit≤ tt
number_low NotShort = lit≤ tt
number_low PlaceTooSmall = lit≤ tt

pub number_high : (a : Refusal) → is_accepted (number_of a) ≡ false
number_high WrongLength = refl
number_high OpeningOutOfRange = refl
number_high BadKey = refl
number_high NotAnEvent = refl
number_high SameNode = refl
number_high NotARing = refl
number_high OutOfTable = refl
number_high NodeOff = refl
number_high AlreadyRunning = refl
number_high ClockSpent = refl
number_high PoolFull = refl
number_high KeyOutOfRange = refl
number_high ListTooShort = refl
number_high SidesDiffer = refl
number_high TablesClash = refl
number_high TooManyMessages = refl
number_high SenderFull = refl
number_high NotWatched = refl
number_high NotShort = refl
number_high PlaceTooSmall = refl

-- an answer's number too
pub answer_low : {A : Type 0} (r : Result A Refusal) → answer_number r ≤ 20
answer_low (Ok _) = lit≤ tt
answer_low (Err e) = number_low e
