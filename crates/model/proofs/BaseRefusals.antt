-- The refusals of document 01 and of notes 5 and 6 of document 02, by rows that are computed: for each number what gets it, and at each limit the
-- neighbour that is accepted. 12 and 14 to 20 have rows in the modules of their notes, 17 in SenderRows.
use Prim.Native.Nat.{ℕ, ◌%◌, ◌+◌}
use mathlib.Core.Path.{◌≡◌, refl}
use mathlib.Core.Bool.{true, false}
use mathlib.Core.List.{List, [], ◌∷◌, ◌++◌, map}
use lib.ListN.{take, drop, replicate, length}
use Rattle.model.specs.Sets.{tabulate, tabulate_from}
use Rattle.model.specs.Leafset.{Table}
use Rattle.model.specs.Ring.{Ring}
use Rattle.model.specs.Steps.{plain}
use Rattle.model.specs.Answers.{Refusal, first_of}
use Rattle.model.specs.Events.{word_answer, read_event, event_answer, write_event}
use Rattle.model.specs.Play.{set_messages, play_answer, play_word}
use Rattle.model.specs.Words.{word_at}
use Rattle.model.specs.Buffer.{ring_refusals, ring_answer, open_refusals, open_answer, open_buffer, play_refusals, buffer_answer, play_buffer}
use Rattle.model.specs.Questions.{leafset_refusals, leafset_of, connection_refusals, connection_of, groups_of}
use Rattle.model.specs.Route as routes
use Rattle.model.specs.Preview as previews
use Rattle.model.specs.declared.event.Event.TheVariants.{On, Off, Notice, Contact, Timer, Deliver, Lose}
use Rattle.model.specs.declared.values.NodeNumber.{NodeNumber}
use Rattle.model.proofs.Base.{computed}
use Rattle.model.proofs.NineNodes.{table, own0, own8, nodes, nine}

-- ---- opening

-- a table
pub with_sides : ℕ → ℕ → List ℕ → Table
with_sides a b keys = record { sides = record { ahead = a; behind = b }; keys = keys }

-- 2, 3 or none
pub opened : ℕ → ℕ → List ℕ → ℕ
opened a b keys = first_of (drop 1 (open_refusals [] (with_sides a b keys)))

-- n keys, the lowest 0
pub keys : ℕ → List ℕ
keys n = tabulate n (λ i. i)

-- ---- words that do not read as a ring, and events

pub zeros : ℕ → List ℕ
zeros many = replicate many 0

pub number : ℕ → NodeNumber
number x = record { 0 = x }

-- ---- words on nine nodes

pub answers : List ℕ → List ℕ
answers = map (play_answer nine)

-- so many messages in flight in place of the six, as many from each of the nodes 1 to 4
pub pool : ℕ → Ring
pool many = set_messages (tabulate_from 0 many (λ i. plain 2 (i % 4 + 1) 0)) nine

-- ---- questions and routes, on the first words of the nine nodes: 7, 8, 12, 13 or none

pub nodes_words : List ℕ
nodes_words = tabulate 19 (word_at nine)

pub asked : ℕ → ℕ
asked x = first_of (drop 2 (leafset_refusals nodes_words x))

pub asked_both : ℕ → ℕ → ℕ
asked_both a b = first_of (drop 2 (connection_refusals nodes_words a b))

-- a route from x to the key, with a list of so many places
pub routed : ℕ → ℕ → ℕ → ℕ
routed x key places = first_of (drop 2 (routes.route_refusals nodes_words x key (replicate places 0)))

pub numbers : List Refusal → List ℕ
numbers = map (λ q. q.number)

pub record Refusals : Type 0 where
  -- "1. A ring buffer isn't 13,441 words.", before all others; of a ring, 6 comes next, but at playing after 4 and 5
  pub one :
      open_answer (zeros 13440) (with_sides 0 0 [])
      ∷ open_answer (zeros 13442) (with_sides 1 1 (5 ∷ []))
      ∷ open_answer (zeros 13441) (with_sides 1 1 (5 ∷ []))
      ∷ buffer_answer (zeros 13440) 0
      ∷ ring_answer (zeros 13442)
      ∷ []
      ≡ 1 ∷ 1 ∷ 0 ∷ 1 ∷ 1 ∷ []
  pub play_order : (ws : List ℕ) → numbers (play_refusals ws 0xC0000040) ≡ 1 ∷ 4 ∷ 5 ∷ 6 ∷ 7 ∷ 7 ∷ 8 ∷ 10 ∷ 11 ∷ 17 ∷ []
  pub play_first : (ws : List ℕ) (w : ℕ) → take 1 (play_refusals ws w) ++ take 1 (drop 3 (play_refusals ws w)) ≡ ring_refusals ws
  pub ask_first : (ws : List ℕ) (x a b : ℕ) → take 2 (leafset_refusals ws x) ++ take 2 (connection_refusals ws a b) ≡ ring_refusals ws ++ ring_refusals ws
  -- "2. Opening: n or [A or B] out of range.": n 0, 1, 64 and 65; A and B 0, 8 and 9; before 3
  pub two_n : opened 1 1 (keys 0) ∷ opened 1 1 (keys 1) ∷ opened 8 8 (keys 64) ∷ opened 1 1 (keys 65) ∷ [] ≡ 2 ∷ 0 ∷ 0 ∷ 2 ∷ []
  pub two_sides : opened 0 1 (5 ∷ 5 ∷ []) ∷ opened 9 1 (keys 3) ∷ opened 1 0 (keys 3) ∷ opened 1 9 (keys 3) ∷ [] ≡ 2 ∷ 2 ∷ 2 ∷ 2 ∷ []
  -- "3. Opening: a key above 16,777,215, or two equal."
  pub three :
      opened 1 1 (16777215 ∷ 0 ∷ []) ∷ opened 1 1 (0 ∷ 16777216 ∷ []) ∷ opened 1 1 (7 ∷ 8 ∷ 7 ∷ []) ∷ opened 1 1 (8 ∷ 7 ∷ 7 ∷ []) ∷ []
      ≡ 0 ∷ 3 ∷ 3 ∷ 3 ∷ []
  -- "4. Not an event: kind, timer or unnamed bit": kinds 0 to 8; then a word of each kind, and one with the next bit that is not named
  pub four_kinds :
      map word_answer
      (0 ∷ 0x10000000 ∷ 0x20000000 ∷ 0x30000000 ∷ 0x40000000 ∷ 0x50000000 ∷ 0x60000000 ∷ 0x70000000 ∷ 0x80000000 ∷ [])
      ≡ replicate 9 4
  pub four_accepted :
      map word_answer
      (0x9000003F ∷ 0xA000003F ∷ 0xA000103F ∷ 0xB0000FC0 ∷ 0xC0000FC0 ∷ 0xD000403F ∷ 0xE00003FF ∷ 0xE00007FF ∷ 0xF00003FF ∷ [])
      ≡ replicate 9 0
  pub four_bits :
      map word_answer
      (0x90000040 ∷ 0xA0000040 ∷ 0xA0002000 ∷ 0xB0001000 ∷ 0xC0001000 ∷ 0xD0000040 ∷ 0xD0008000 ∷ 0xE0000800 ∷ 0xF0000400 ∷ 0x98000000 ∷ 0x100000000 ∷ [])
      ≡ replicate 11 4
  -- "when writing, a part too big"; "5. Contact or notice where both stands are one.", after 4
  pub four_written :
      map event_answer
      (On (number 63) ∷ On (number 64) ∷ Off (number 64) true ∷ Notice (number 0) (number 64) ∷ Notice (number 64) (number 0) ∷ Contact (number 0) (number 63)
      ∷ Contact (number 0) (number 64) ∷ Contact (number 64) (number 0) ∷ Contact (number 64) (number 64) ∷ Timer (number 64) 0
      ∷ Deliver 1023 false ∷ Deliver 1024 true ∷ Lose 1023 ∷ Lose 1024 ∷ [])
      ≡ 0 ∷ 4 ∷ 4 ∷ 4 ∷ 4 ∷ 0 ∷ 4 ∷ 4 ∷ 4 ∷ 4 ∷ 0 ∷ 4 ∷ 0 ∷ 4 ∷ []
  pub five :
      map word_answer (0xB0000082 ∷ 0xC0000FFF ∷ 0xB0001082 ∷ []) ++ map event_answer (Notice (number 2) (number 2) ∷ Contact (number 63) (number 63) ∷ [])
      ≡ 5 ∷ 5 ∷ 4 ∷ 5 ∷ 5 ∷ []
  -- "a word writer 0, an event reading no event" where refused
  pub nothing_written : map write_event (On (number 64) ∷ Contact (number 2) (number 2) ∷ Lose 3 ∷ []) ≡ 0 ∷ 0 ∷ 0xF0000003 ∷ []
  pub nothing_read : map (λ w. (read_event w).event) (0xF0000400 ∷ 0xB0000082 ∷ 0xF0000003 ∷ []) ≡ [] ∷ [] ∷ (Lose 3 ∷ []) ∷ []
  -- "6. The words don't read as a ring."
  pub six : map (buffer_answer (zeros 13441)) (0 ∷ 0xB0000082 ∷ 0x90000000 ∷ []) ≡ 4 ∷ 5 ∷ 6 ∷ []
  -- "7. A stand not below n": on, off, timer at 9; contact and notice at 9, of 9, and of 8
  pub seven_nodes_lem :
      answers (0x90000009 ∷ 0xA0000009 ∷ 0xA0001009 ∷ 0xD0000009 ∷ 0xC0000009 ∷ 0xC0000240 ∷ 0xB0000009 ∷ 0xB0000240 ∷ 0xC0000200 ∷ 0xB0000200 ∷ [])
      ≡ 7 ∷ 7 ∷ 7 ∷ 7 ∷ 7 ∷ 7 ∷ 7 ∷ 7 ∷ 0 ∷ 0 ∷ []
  -- "or a position not below m", which is 6
  pub seven_positions :
      answers (0xE0000004 ∷ 0xE0000404 ∷ 0xF0000005 ∷ 0xE0000006 ∷ 0xE0000406 ∷ 0xF0000006 ∷ 0xE00003FF ∷ [])
      ≡ 0 ∷ 0 ∷ 0 ∷ 7 ∷ 7 ∷ 7 ∷ 7 ∷ []
  -- "8. A notice, contact, timer or off at a stand that is off": at 2, and at 3, whose clock is spent; after 7. A contact to one that is off is accepted
  pub eight :
      answers (0xB0000002 ∷ 0xC0000002 ∷ 0xD0000002 ∷ 0xA0000002 ∷ 0xA0001002 ∷ 0xD0000003 ∷ 0xB0000242 ∷ 0xC0000080 ∷ [])
      ≡ 8 ∷ 8 ∷ 8 ∷ 8 ∷ 8 ∷ 8 ∷ 7 ∷ 0 ∷ []
  -- "9. On, for a running stand.": 0, and 4, whose clock is spent; 2 is off
  pub nine_on : answers (0x90000000 ∷ 0x90000004 ∷ 0x90000002 ∷ []) ≡ 9 ∷ 9 ∷ 0 ∷ []
  -- "10. The clock is 16,777,215 and must rise.": on at 3; timer, contact, notice at 4, and a delivery to it. The clock of 1 can rise once more. Off, polite
  -- or not, leaves the clock, and so do a delivery to one that is off, and a loss
  pub ten :
      answers (0x90000003 ∷ 0xD0000004 ∷ 0xC0000004 ∷ 0xB0000004 ∷ 0xE0000005 ∷ 0xE0000405 ∷ [])
      ≡ 10 ∷ 10 ∷ 10 ∷ 10 ∷ 10 ∷ 10 ∷ []
  pub ten_accepted :
      answers (0xD0000001 ∷ 0xC0000001 ∷ 0xA0000004 ∷ 0xA0001004 ∷ 0xE0000001 ∷ 0xE0000401 ∷ 0xF0000005 ∷ [])
      ≡ 0 ∷ 0 ∷ 0 ∷ 0 ∷ 0 ∷ 0 ∷ 0 ∷ []
  -- "11. More than 1,024 messages would be left.": a contact of 0 makes one more; a polite off of 1, which holds nobody, none
  pub eleven :
      play_answer (pool 1023) 0xC0000200
      ∷ play_answer (pool 1024) 0xC0000200
      ∷ play_answer (pool 1024) 0xA0001001
      ∷ play_answer (pool 1024) 0xB0000200
      ∷ length (play_word (pool 1023) 0xC0000200).ring.messages
      ∷ []
      ≡ 0 ∷ 11 ∷ 0 ∷ 0 ∷ 1024 ∷ []
  -- "8. .. or a question about one", of either node; 7 of either before it
  pub questions : asked 8 ∷ asked 2 ∷ asked 9 ∷ [] ≡ 0 ∷ 8 ∷ 7 ∷ []
  pub questions_both :
      asked_both 0 8 ∷ asked_both 4 4 ∷ asked_both 0 2 ∷ asked_both 2 0 ∷ asked_both 2 9 ∷ asked_both 9 2 ∷ []
      ≡ 0 ∷ 0 ∷ 8 ∷ 8 ∷ 7 ∷ 7 ∷ []
  -- "A refused leafset question returns the empty set, a connection question no"; and no groups
  pub not_told : leafset_of (7 ∷ []) 0 ∷ groups_of (7 ∷ []) ∷ [] ≡ 0 ∷ 0 ∷ []
  pub not_connected : connection_of (7 ∷ []) 0 0 ≡ false
  -- "12, the key is above 16,777,215; 13, the list is shorter than 64.", "after 8, in rising order"
  pub thirteen :
      routed 0 16777215 64 ∷ routed 0 0 65 ∷ routed 0 16777216 64 ∷ routed 0 0 63 ∷ routed 0 16777216 63 ∷ routed 2 16777216 63 ∷ routed 9 16777216 63 ∷ []
      ≡ 0 ∷ 0 ∷ 12 ∷ 13 ∷ 12 ∷ 8 ∷ 7 ∷ []
  pub route_order : numbers (routes.route_refusals [] 0 0 []) ≡ 1 ∷ 6 ∷ 7 ∷ 8 ∷ 12 ∷ 13 ∷ []
  -- "A refused route answers 0 hops and stand 64, and the list is untouched."
  pub no_route : routes.route_buffer (7 ∷ []) 0 0 (5 ∷ 6 ∷ []) ≡ record { answer = 1; end = 64; hops = 0; list = 5 ∷ 6 ∷ [] }
  -- "a second buffer of wrong length is refusal 1", before the event's; "A refused preview writes neither"
  pub previewed :
      previews.preview_answer (zeros 13441) 0 (zeros 13440)
      ∷ previews.preview_answer (zeros 13440) 0 (zeros 13441)
      ∷ previews.preview_answer (zeros 13441) 0 (zeros 13441)
      ∷ []
      ≡ 1 ∷ 1 ∷ 4 ∷ []
  pub no_preview : previews.preview_buffer (zeros 13441) 0x90000000 (5 ∷ 6 ∷ []) ≡ record { answer = 1; words = 5 ∷ 6 ∷ [] }
  -- "nothing is written"
  pub not_played : play_buffer (5 ∷ 6 ∷ []) 0x90000000 ≡ record { answer = 1; words = 5 ∷ 6 ∷ [] }
  pub not_opened : open_buffer (5 ∷ 6 ∷ []) table ≡ record { answer = 1; words = 5 ∷ 6 ∷ [] }

pub refusals : Refusals
unfolding computed table own0 own8 nodes nine with_sides zeros opened keys number answers pool nodes_words asked asked_both routed numbers
    routes.route_answer routes.route_buffer previews.preview_answer previews.preview_buffer groups_of ring_answer
refusals =
    record {
      one = refl;
      play_order = λ ws. refl;
      play_first = λ ws w. refl;
      ask_first = λ ws x a b. refl;
      two_n = refl;
      two_sides = refl;
      three = refl;
      four_kinds = refl;
      four_accepted = refl;
      four_bits = refl;
      four_written = refl;
      five = refl;
      nothing_written = refl;
      nothing_read = refl;
      six = refl;
      seven_nodes_lem = refl;
      seven_positions = refl;
      eight = refl;
      nine_on = refl;
      ten = refl;
      ten_accepted = refl;
      eleven = refl;
      questions = refl;
      questions_both = refl;
      not_told = refl;
      not_connected = refl;
      thirteen = refl;
      route_order = refl;
      no_route = refl;
      previewed = refl;
      no_preview = refl;
      not_played = refl;
      not_opened = refl;
    }
