-- Playing events on a ring: the refusals from the state, and what an accepted event leaves.
use Rattle.std.specs.Prelude.{ℕ, suc, ◌+◌, Bool, true, false, not, ◌&&◌, List, [], ◌∷◌, ◌++◌, length, take, drop, ltb, eqb, if◌then◌else◌}
use Rattle.model.specs.Sets.{none_node, put}
use Rattle.model.specs.Leafset.{size}
use Rattle.model.specs.Ring.{Own, Node, Message, Ring, cleared, is_running, message_at}
use Rattle.model.specs.Words.{senders_fit}
use Rattle.model.specs.Steps.{Effect, leaving, contact, notice, timer, deliver}
use Rattle.model.specs.Answers.{Refusal, first_of, is_accepted}
use Rattle.model.specs.Events.{event_of, word_refusals}
use Rattle.model.specs.declared.event.Event.{Event}
use Rattle.model.specs.declared.event.Event.TheVariants.{On, Off, Notice, Contact, Timer, Deliver, Lose}

-- the ring with another node x, and with other messages
abbrev pub set_node : ℕ → Node → Ring → Ring
set_node x s r = record { table = r.table; node = put r.node x s; messages = r.messages }

abbrev pub set_messages : List Message → Ring → Ring
set_messages ms r = record { table = r.table; node = r.node; messages = ms }

-- "Delivery takes the message out first"; "Lose only takes it out."
unfoldable pub remove_message : ℕ → Ring → Ring
remove_message i r = set_messages (take i r.messages ++ drop (suc i) r.messages) r

-- the ring on which a message arrives; "A deliver event with bit 10 set delivers and leaves the message in its position."
abbrev pub arrived : ℕ → Bool → Ring → Ring
arrived i echo r = if echo then r else remove_message i r

-- "On sets the running mark", and adds 1 to the clock
abbrev pub started : Node → Node
started s = record { running = true; clock = s.clock + 1; own = s.own }

-- "Off clears the mark, its held set, candidates, stamps and spares but keeps its clock."
abbrev pub stopped : Node → Node
stopped s = record { running = false; clock = s.clock; own = cleared }

-- "Every accepted event at a stand .. first adds 1 to its clock; the new value is "now"." Then the step;
-- "New messages go to the end"
unfoldable pub act : ℕ → (ℕ → Own → Effect) → Ring → Ring
act x step r =
    set_messages (r.messages ++ effect.sent)
    (set_node x (record { running = (r.node x).running; clock = now; own = effect.own }) r)
  where
    now : ℕ
    now = (r.node x).clock + 1

    effect : Effect
    effect = step now (r.node x).own

-- the step of a message at its receiver; "to a stand that is off, nothing else happens"
abbrev pub receive : Message → Ring → Ring
receive m r =
    if is_running r m.receiver then act m.receiver (λ now o. deliver r.table m.receiver now o m) r
    else r

-- "first sends type 13 to each held stand, rising": the clock stays
abbrev pub send_leave : ℕ → Ring → Ring
send_leave x r = set_messages (r.messages ++ (leaving r.table x (r.node x).clock (r.node x).own).sent) r

-- the ring that an accepted event leaves
unfoldable pub after : Ring → Event → Ring
after r (On x) = set_node x.0 (started (r.node x.0)) r
after r (Off x polite) = set_node x.0 (stopped (r.node x.0)) (if polite then send_leave x.0 r else r)
after r (Notice x z) = act x.0 (λ now o. notice r.table x.0 now o z.0) r
after r (Contact x y) = act x.0 (λ now o. contact r.table x.0 now o y.0) r
after r (Timer x k) = act x.0 (λ now o. timer r.table x.0 now o k) r
after r (Deliver i echo) = receive (message_at r i) (arrived i echo r)
after r (Lose i) = remove_message i r

-- "the acting or answering stand"; 64 where a message is lost
abbrev pub actor : Ring → Event → ℕ
actor r (On x) = x.0
actor r (Off x polite) = x.0
actor r (Notice x z) = x.0
actor r (Contact x y) = x.0
actor r (Timer x k) = x.0
actor r (Deliver i echo) = (message_at r i).receiver
actor r (Lose i) = none_node

-- ---- "Refusals from the state"

module _ (r : Ring) where
  -- "7. A stand not below n, or a position not below m."
  abbrev pub no_node : ℕ → Refusal
  no_node x = record { number = 7; applies = not (ltb x (size r.table)) }

  abbrev pub no_message : ℕ → Refusal
  no_message i = record { number = 7; applies = not (ltb i (length r.messages)) }

  -- "8. A notice, contact, timer or off at a stand that is off, or a question about one."
  abbrev pub node_off : ℕ → Refusal
  node_off x = record { number = 8; applies = not (is_running r x) }

  -- "9. On, for a running stand."
  abbrev pub already_running : ℕ → Refusal
  already_running x = record { number = 9; applies = is_running r x }

  -- "10. The clock is 16,777,215 and must rise."
  abbrev pub clock_spent : Bool → ℕ → Refusal
  clock_spent rises x = record { number = 10; applies = rises && eqb (r.node x).clock 16777215 }

  -- the refusals of each event, in rising order
  abbrev pub refusals : Event → List Refusal
  refusals (On x) = no_node x.0 ∷ already_running x.0 ∷ clock_spent true x.0 ∷ []
  refusals (Off x polite) = no_node x.0 ∷ node_off x.0 ∷ []
  refusals (Notice x z) = no_node x.0 ∷ no_node z.0 ∷ node_off x.0 ∷ clock_spent true x.0 ∷ []
  refusals (Contact x y) = no_node x.0 ∷ no_node y.0 ∷ node_off x.0 ∷ clock_spent true x.0 ∷ []
  refusals (Timer x k) = no_node x.0 ∷ node_off x.0 ∷ clock_spent true x.0 ∷ []
  refusals (Deliver i echo) = no_message i ∷ clock_spent (is_running r (message_at r i).receiver) (message_at r i).receiver ∷ []
  refusals (Lose i) = no_message i ∷ []

-- those of the ring that an event would leave: "11. More than 1,024 messages would be left."; "An event that would pass 256 for a
-- sender is refused after 11", with 17
abbrev pub left_refusals : Ring → List Refusal
left_refusals r =
    record { number = 11; applies = ltb 1024 (length r.messages) }
    ∷ record { number = 17; applies = not (senders_fit r) }
    ∷ []

abbrev pub state_refusals : Ring → Event → List Refusal
state_refusals r e = refusals r e ++ left_refusals (after r e)

-- ---- words, played

-- the answer of a call, and the ring after it
pub record Played : Type 0 where
  pub answer : ℕ
  pub ring : Ring

-- the refusals from the word, then those from the state
unfoldable pub play_answer : Ring → ℕ → ℕ
play_answer r w = first_of (word_refusals w ++ state_refusals r (event_of w))

-- one word; "nothing is written" when refused
unfoldable pub play_word : Ring → ℕ → Played
play_word r w = record { answer = play_answer r w; ring = if is_accepted (play_answer r w) then after r (event_of w) else r }

-- a list: "Each word is played on what the one before left, a refused one changing nothing"
unfoldable pub play_all : Ring → List ℕ → Ring
play_all r [] = r
play_all r (w ∷ ws) = play_all (play_word r w).ring ws
