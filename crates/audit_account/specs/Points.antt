-- Where the promise of demand 3 may begin, and which events it does not cover.
use Rattle.std.specs.Prelude.{ℕ, ◌+◌, Bool, true, false, not, ◌&&◌, eqb, length}
use Rattle.model.specs.Sets.{count}
use Rattle.model.specs.Ring.{Ring, Message, is_running, message_at}
use Rattle.model.specs.Types.{pong_replace, leave}
use Rattle.model.specs.Answers.{is_accepted}
use Rattle.model.specs.Events.{event_of}
use Rattle.model.specs.Play.{play_word}
use Rattle.model.specs.ConnectivityPreserved.{is_harmless}
use Rattle.model.specs.declared.event.Event.{Event}
use Rattle.model.specs.declared.event.Event.TheVariants.{On, Off, Notice, Contact, Timer, Deliver, Lose}

abbrev pub is_acknowledgement : Message → Bool
is_acknowledgement m = eqb m.type pong_replace

-- type 13, although its sender runs
abbrev pub is_late_leave : Ring → Message → Bool
is_late_leave r m = eqb m.type leave && is_running r m.sender

-- how many messages in flight are such
unfoldable pub acknowledgements : Ring → ℕ
acknowledgements r = count (length r.messages) (λ i. is_acknowledgement (message_at r i))

unfoldable pub late_leaves : Ring → ℕ
late_leaves r = count (length r.messages) (λ i. is_late_leave r (message_at r i))

-- none is
unfoldable pub is_point : Ring → Bool
is_point r = eqb (acknowledgements r + late_leaves r) 0

-- the word is accepted, and its event is one that the promise does not cover: ConnectivityPreserved's `is_uncovered`
unfoldable pub is_uncovered_word : Ring → ℕ → Bool
is_uncovered_word r w = is_accepted (play_word r w).answer && not (is_harmless r (event_of w))

abbrev pub is_on : Event → Bool
is_on (On x) = true
is_on (Off x polite) = false
is_on (Notice x z) = false
is_on (Contact x y) = false
is_on (Timer x k) = false
is_on (Deliver i echo) = false
is_on (Lose i) = false

abbrev pub is_off : Event → Bool
is_off (On x) = false
is_off (Off x polite) = true
is_off (Notice x z) = false
is_off (Contact x y) = false
is_off (Timer x k) = false
is_off (Deliver i echo) = false
is_off (Lose i) = false

abbrev pub is_notice : Event → Bool
is_notice (On x) = false
is_notice (Off x polite) = false
is_notice (Notice x z) = true
is_notice (Contact x y) = false
is_notice (Timer x k) = false
is_notice (Deliver i echo) = false
is_notice (Lose i) = false
