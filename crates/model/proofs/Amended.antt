-- What the notes of document 02 amend, by rows that are computed.
use mathlib.Core.Path.{◌≡◌, refl}
use mathlib.Core.Bool.{true, false, not}
use mathlib.Core.List.{List, [], ◌∷◌, map}
use Prim.Native.Nat.{ℕ, zero, suc, ◌+◌, ◌*◌, ◌%◌, ◌^◌}
use lib.Dec.{eqb}
use lib.ListN.{get_or, take}
use Rattle.std.specs.Prelude.{if◌then◌else◌}
use Rattle.model.specs.Fields.{of_kind}
use Rattle.model.specs.Sets.{none_node, of_bits, all, count, some, members, tabulate_from}
use Rattle.model.specs.Leafset.{Table, leafset, nearest}
use Rattle.model.specs.Ring.{Own, Message, Ring, fresh, initial, is_running, sent_by}
use Rattle.model.specs.Types.{pong_ask_inv, leave, used_by_type}
use Rattle.model.specs.Words.{head_word, sides_of, senders_fit}
use Rattle.model.specs.Steps.{plain, viewing, hold, release, forget, leaving, contact, notice, timer0, timer}
use Rattle.model.specs.Steps.{on_ping_contact, on_pong_contact, on_pong_ask_inv, on_pong_replace, on_leave, deliver}
use Rattle.model.specs.Answers.{first_of}
use Rattle.model.specs.Events.{word_of, event_of, event_answer, word_answer, read_event}
use Rattle.model.specs.Play.{remove_message, act, after, play_answer, play_word, play_all}
use Rattle.model.specs.Connection.{reached, connected}
use Rattle.model.specs.Route.{next_of, goes_on, route_within, route}
use Rattle.model.specs.declared.event.Event.{Event}
use Rattle.model.specs.declared.event.Event.TheVariants.{Off, Timer, Deliver}
use Rattle.model.specs.declared.values.NodeNumber.{NodeNumber}
use Rattle.model.proofs.ExampleRing.{ring}
use Rattle.model.proofs.ExampleRing as example

-- ---- "Ghosts in the candidate list"

unfoldable five : Table
five = record { sides = record { ahead = 1; behind = 1 }; keys = 10 ∷ 20 ∷ 30 ∷ 40 ∷ 50 ∷ [] }

-- node 0 holds 1 and 2, and has the candidates that are given by their bits
unfoldable knowing : ℕ → Own
knowing S = record { held = of_bits 0b00110; candidates = of_bits S; commit = λ y. if of_bits 0b00110 y then 5 else 0; spare = λ y. none_node }

-- then, at 9, it gets a notice of z
unfoldable told : ℕ → ℕ → Own
told S z = (notice five 0 9 (knowing S) z).own

-- who is held, and who is a candidate
known : Own → List (List ℕ)
known o = members 5 o.held ∷ members 5 o.candidates ∷ []

pub noticed : ℕ → ℕ → List (List ℕ)
noticed S z = known (told S z)

-- after a notice of 3 an old type 4 from 1, whose view names 3, is delivered: the candidates then
pub brought_back : List ℕ
brought_back = members 5 (deliver five 0 10 (told 0b11000 3) (viewing pong_ask_inv 1 0 (of_bits 0b01000))).own.candidates

-- ---- "Uneven sides"

-- keys 10 to 60: the leafset of node 0 in all the others, for A and B
pub uneven : ℕ → ℕ → List ℕ
uneven a b = members 6 (leafset six 0 (of_bits 0b111110))
  where
    six : Table
    six = record { sides = record { ahead = a; behind = b }; keys = 10 ∷ 20 ∷ 30 ∷ 40 ∷ 50 ∷ 60 ∷ [] }

-- ---- "Leaving politely"

-- at 9, node 0 gets type 13 from a
pub left_by : ℕ → ℕ → List (List ℕ)
left_by S a = known (deliver five 0 9 (knowing S) (plain leave a 0)).own

-- node 0 runs with clock 8 and candidates 3 and 4, all others are off, and these messages are in flight
unfoldable flying : List Message → Ring
flying ms =
    record {
      table = five;
      node = λ x. if eqb x 0 then record { running = true; clock = 8; own = knowing 0b11000 } else fresh;
      messages = ms;
    }

-- there is none, and node 0 has an event
unfoldable having : Event → Ring
having e = after (flying []) e

-- of each message its type, its ends and its subject
pub sent : Event → List (List ℕ)
sent e = map (λ m. m.type ∷ m.sender ∷ m.receiver ∷ m.subject ∷ []) (having e).messages

-- the clock of node 0, and what it knows then
pub kept : Event → List (List ℕ)
kept e = (((having e).node 0).clock ∷ []) ∷ known ((having e).node 0).own

abbrev node0 : NodeNumber
node0 = record { 0 = 0 }

-- a late type 13: nodes 0 and 1 hold each other; 1 leaves politely, 0 hears of it, 1 comes back and 0 holds it again; then the type 13 arrives.
-- The ring after so many of the words
unfoldable late : ℕ → Ring
late k = play_all (initial two) (take k script)
  where
    two : Table
    two = record { sides = record { ahead = 1; behind = 1 }; keys = 10 ∷ 20 ∷ [] }

    script : List ℕ
    script =
        0x90000000 ∷ 0x90000001 ∷ 0xC0000040 ∷ 0xE0000000 ∷ 0xE0000000 ∷ 0xC0000001 ∷ 0xE0000000 ∷ 0xE0000000
        ∷ 0xA0001001 ∷ 0xB0000040 ∷ 0x90000001 ∷ 0xC0000040 ∷ 0xE0000001 ∷ 0xE0000001 ∷ 0xE0000000 ∷ []

-- the types in flight, who runs, and whom 0 is connected to
pub at_point_lem : ℕ → List (List ℕ)
at_point_lem k = map (λ m. m.type) (late k).messages ∷ members 2 (is_running (late k)) ∷ members 2 (connected (late k) 0) ∷ []

-- ---- "Echoes"

-- type 1 from 3 to 4, from 2 to 0 and from 4 to 3
unfoldable three : List Message
three = plain 1 3 4 ∷ plain 1 2 0 ∷ plain 1 4 3 ∷ []

-- the clocks of nodes 0 and 4 after an event, and of each message its type and its ends
pub flown : Event → List (List ℕ)
flown e = ((r.node 0).clock ∷ (r.node 4).clock ∷ []) ∷ map (λ m. m.type ∷ m.sender ∷ m.receiver ∷ []) r.messages
  where
    r : Ring
    r = after (flying three) e

-- the answer to a word where 1,024 messages of a type fly to 0, as many from each of the others
pub when_full : ℕ → ℕ → ℕ
when_full k w = play_answer (flying (tabulate_from 0 1024 (λ i. plain k (i % 4 + 1) 0))) w

-- the acknowledgement of P10, which lets go of node 2, comes so many times: the clock of node 0, whom it holds, with which commits, and the types in flight
pub bitten : ℕ → List (List ℕ)
bitten k =
    ((r.node 0).clock ∷ []) ∷ members 5 (r.node 0).own.held ∷ tabulate_from 0 5 (r.node 0).own.commit ∷ map (λ m. m.type) r.messages ∷ []
  where
    echoes : ℕ → Ring
    echoes zero = ring 0b11100 6
    echoes (suc k) = after (echoes k) (Deliver 0 true)

    r : Ring
    r = echoes k

-- ---- "Which desk keeps this bar?"

-- keys 10, 20, 30, 40 and 50: all run but those that are given by their bits, each holds those that the list has for it, and node 4 is a
-- candidate: the route from node 0 to the key
pub routed : ℕ → List ℕ → ℕ → List ℕ
routed off held a = route r a 0
  where
    own : ℕ → Own
    own x = record { held = of_bits (get_or held x 0); candidates = of_bits 0b10000; commit = λ y. 0; spare = λ y. none_node }

    r : Ring
    r = record { table = five; node = λ x. record { running = not (of_bits off x); clock = 9; own = own x }; messages = [] }

-- the rows by name
pub record Amended : Type 0 where
  -- "strikes its subject from the receiver's candidates, held or not": a candidate that is not held; one that is; one held that is none
  pub notice_candidate : noticed 0b11000 3 ≡ (1 ∷ 2 ∷ []) ∷ (4 ∷ []) ∷ []
  pub notice_held_candidate : noticed 0b11010 1 ≡ (2 ∷ []) ∷ (3 ∷ 4 ∷ []) ∷ []
  pub notice_held : noticed 0b11000 1 ≡ (2 ∷ []) ∷ (3 ∷ 4 ∷ []) ∷ []
  -- "Old views that name it .. may still bring it back later."
  pub view_brings_back : brought_back ≡ 3 ∷ 4 ∷ []
  -- "everything if fewer than A + B are left, else the A nearest clockwise and the B nearest the other way"
  pub three_and_one : uneven 3 1 ≡ 1 ∷ 2 ∷ 3 ∷ 5 ∷ []
  pub one_and_three : uneven 1 3 ≡ 1 ∷ 3 ∷ 4 ∷ 5 ∷ []
  pub three_and_two : uneven 3 2 ≡ 1 ∷ 2 ∷ 3 ∷ 4 ∷ 5 ∷ []
  pub three_and_three : uneven 3 3 ≡ 1 ∷ 2 ∷ 3 ∷ 4 ∷ 5 ∷ []
  -- "Word 0 has A in bits 0-3 and B in bits 22-25, so the bench case of document 01 opens with 10400031."
  pub head_word_lem : head_word (record { ahead = 1; behind = 1 }) 3 0 ≡ 0x10400031
  pub head_sides : sides_of 0x10C00031 ≡ record { ahead = 1; behind = 3 }
  -- "The receiver of type 13 lets go of the sender and strikes it from the candidates": held and a candidate; held; a candidate; neither
  pub leave_held_candidate : left_by 0b11010 1 ≡ (2 ∷ []) ∷ (3 ∷ 4 ∷ []) ∷ []
  pub leave_held : left_by 0b11000 1 ≡ (2 ∷ []) ∷ (3 ∷ 4 ∷ []) ∷ []
  pub leave_candidate : left_by 0b11000 3 ≡ (1 ∷ 2 ∷ []) ∷ (4 ∷ []) ∷ []
  pub leave_neither : left_by 0b01000 4 ≡ (1 ∷ 2 ∷ []) ∷ (3 ∷ []) ∷ []
  -- "first sends type 13 to each held stand, rising, and then acts as off": also to those that are off, and the clock stays
  pub polite_sends : sent (Off node0 true) ≡ (13 ∷ 0 ∷ 1 ∷ 64 ∷ []) ∷ (13 ∷ 0 ∷ 2 ∷ 64 ∷ []) ∷ []
  pub plain_sends : sent (Off node0 false) ≡ []
  pub polite_keeps : kept (Off node0 true) ≡ (8 ∷ []) ∷ [] ∷ [] ∷ []
  -- "An off event with bit 12 set"; no other bit above the node's is named
  pub polite_word : word_of (Off (record { 0 = 2 }) true) ≡ 0xA0001002
  pub polite_reads : (read_event 0xA0001002).event ≡ Off (record { 0 = 2 }) true ∷ []
  pub unnamed_below : word_answer 0xA0001040 ≡ 4
  pub unnamed_above : word_answer 0xA0002000 ≡ 4
  -- "Timer 0 now does the inviting first, then the asking": 3 is no neighbour and not invited; "with a single step of the clock", and
  -- no candidate is left
  pub timer_0_sends : sent (Timer node0 0) ≡ (5 ∷ 0 ∷ 4 ∷ 64 ∷ []) ∷ (3 ∷ 0 ∷ 1 ∷ 64 ∷ []) ∷ (3 ∷ 0 ∷ 2 ∷ 64 ∷ []) ∷ []
  pub timer_0_keeps : kept (Timer node0 0) ≡ (9 ∷ []) ∷ (1 ∷ 2 ∷ []) ∷ [] ∷ []
  -- "Timer value 1 is refused with 4", when reading and when writing; the others keep their numbers
  pub timers_read : map (λ k. word_answer (of_kind 13 (k * 2 ^ 12))) (0 ∷ 1 ∷ 2 ∷ 3 ∷ 4 ∷ 5 ∷ []) ≡ 0 ∷ 4 ∷ 0 ∷ 0 ∷ 0 ∷ 4 ∷ []
  pub timers_written : map (λ k. event_answer (Timer node0 k)) (0 ∷ 1 ∷ 2 ∷ 3 ∷ 4 ∷ 5 ∷ []) ≡ 0 ∷ 4 ∷ 0 ∷ 0 ∷ 0 ∷ 4 ∷ []
  -- "Unbroken connection further needs that .. no type 13 from a running stand is travelling": after 14 words one is, and no type 10; the
  -- last word delivers it, and parts two running nodes
  pub late_leave_before : at_point_lem 14 ≡ (13 ∷ []) ∷ (0 ∷ 1 ∷ []) ∷ (0 ∷ 1 ∷ []) ∷ []
  pub late_leave_after : at_point_lem 15 ≡ [] ∷ (0 ∷ 1 ∷ []) ∷ (0 ∷ []) ∷ []
  -- "A deliver event with bit 10 set": no other bit above the position's is named, and none of a lose
  pub echo_word : word_of (Deliver 2 true) ≡ 0xE0000402
  pub echo_reads : (read_event 0xE0000402).event ≡ Deliver 2 true ∷ []
  pub echo_unnamed : word_answer 0xE0000C02 ≡ 4
  pub lose_unnamed : word_answer 0xF0000402 ≡ 4
  -- "delivers and leaves the message in its position", new ones go to the end; beside it the delivery, which takes the message out
  pub echo_stays : flown (Deliver 1 true) ≡ (9 ∷ 0 ∷ []) ∷ (1 ∷ 3 ∷ 4 ∷ []) ∷ (1 ∷ 2 ∷ 0 ∷ []) ∷ (1 ∷ 4 ∷ 3 ∷ []) ∷ (2 ∷ 0 ∷ 2 ∷ []) ∷ []
  pub delivery_takes : flown (Deliver 1 false) ≡ (9 ∷ 0 ∷ []) ∷ (1 ∷ 3 ∷ 4 ∷ []) ∷ (1 ∷ 4 ∷ 3 ∷ []) ∷ (2 ∷ 0 ∷ 2 ∷ []) ∷ []
  -- the same to a stand that is off
  pub echo_off : flown (Deliver 0 true) ≡ (8 ∷ 0 ∷ []) ∷ (1 ∷ 3 ∷ 4 ∷ []) ∷ (1 ∷ 2 ∷ 0 ∷ []) ∷ (1 ∷ 4 ∷ 3 ∷ []) ∷ []
  pub delivery_off : flown (Deliver 0 false) ≡ (8 ∷ 0 ∷ []) ∷ (1 ∷ 2 ∷ 0 ∷ []) ∷ (1 ∷ 4 ∷ 3 ∷ []) ∷ []
  -- "Refusal 11 counts the message that stays": type 1 is answered, type 2 is not
  pub echo_full : when_full 1 0xE0000400 ≡ 11
  pub delivery_full : when_full 1 0xE0000000 ≡ 0
  pub echo_unanswered : when_full 2 0xE0000400 ≡ 0
  -- an acknowledgement that comes twice lets go once, and is in flight all the while
  pub echo_bites : bitten 1 ≡ (9 ∷ []) ∷ (1 ∷ 3 ∷ 4 ∷ []) ∷ (0 ∷ 9 ∷ 0 ∷ 5 ∷ 5 ∷ []) ∷ (10 ∷ []) ∷ []
  pub echo_bites_once : bitten 2 ≡ (10 ∷ []) ∷ (1 ∷ 3 ∷ 4 ∷ []) ∷ (0 ∷ 9 ∷ 0 ∷ 5 ∷ 5 ∷ []) ∷ (10 ∷ []) ∷ []
  -- "It goes on to the nearest of the running stands held there": from stand to stand; to one outside its leafset; not to one that is off,
  -- nor to a candidate
  pub route_hops : routed 0 (0b00010 ∷ 0b00100 ∷ 0b01000 ∷ []) 38 ≡ 0 ∷ 1 ∷ 2 ∷ 3 ∷ []
  pub route_outside : routed 0 (0b11110 ∷ []) 31 ≡ 0 ∷ 2 ∷ []
  pub route_off : routed 0b00100 (0b00110 ∷ []) 30 ≡ 0 ∷ 1 ∷ []
  pub route_candidate : routed 0 (0b00010 ∷ []) 50 ≡ 0 ∷ 1 ∷ []
  -- "as long as that one beats the present stand by the same measure": of two equally near the clockwise one from the key beats the other
  pub route_tie : routed 0 (0b00010 ∷ 0b00001 ∷ []) 15 ≡ 0 ∷ 1 ∷ []
  pub route_tie_back : routed 0 (0b10000 ∷ []) 8388638 ≡ 0 ∷ []
  pub route_stays : routed 0 (0b00010 ∷ []) 14 ≡ 0 ∷ []

pub amended : Amended
unfolding count members five knowing told known noticed brought_back uneven left_by having sent kept release forget leaving notice
    timer0 timer on_pong_ask_inv on_leave deliver after event_of event_answer word_answer read_event first_of leafset head_word some nearest
    next_of goes_on route_within route routed late at_point_lem initial used_by_type hold contact on_ping_contact on_pong_contact remove_message
    act play_answer play_word play_all tabulate_from reached connected flying three flown when_full bitten on_pong_replace sent_by all senders_fit
    example.holding example.five example.node0 example.off example.acknowledgement ring
amended =
    record {
      notice_candidate = refl;
      notice_held_candidate = refl;
      notice_held = refl;
      view_brings_back = refl;
      three_and_one = refl;
      one_and_three = refl;
      three_and_two = refl;
      three_and_three = refl;
      head_word_lem = refl;
      head_sides = refl;
      leave_held_candidate = refl;
      leave_held = refl;
      leave_candidate = refl;
      leave_neither = refl;
      polite_sends = refl;
      plain_sends = refl;
      polite_keeps = refl;
      polite_word = refl;
      polite_reads = refl;
      unnamed_below = refl;
      unnamed_above = refl;
      timer_0_sends = refl;
      timer_0_keeps = refl;
      timers_read = refl;
      timers_written = refl;
      late_leave_before = refl;
      late_leave_after = refl;
      echo_word = refl;
      echo_reads = refl;
      echo_unnamed = refl;
      lose_unnamed = refl;
      echo_stays = refl;
      delivery_takes = refl;
      echo_off = refl;
      delivery_off = refl;
      echo_full = refl;
      delivery_full = refl;
      echo_unanswered = refl;
      echo_bites = refl;
      echo_bites_once = refl;
      route_hops = refl;
      route_outside = refl;
      route_off = refl;
      route_candidate = refl;
      route_tie = refl;
      route_tie_back = refl;
      route_stays = refl;
    }
