-- Computed examples: the points P1 to P10 of document 01 and its traps as one table, and the worked example of its bench.
use Prim.Native.Nat.{ℕ, suc, ◌/◌, ◌%◌}
use mathlib.Core.Path.{◌≡◌, refl}
use mathlib.Core.Bool.{true, false}
use mathlib.Core.List.{List, [], ◌∷◌, map}
use lib.ListN.{replicate, get_or}
use native.Mathlib.Omega.{arith}
use Rattle.model.specs.Key.{clockwise, distance}
use Rattle.model.specs.Sets
use Rattle.model.specs.Answers
use Rattle.model.specs.Events
use Rattle.model.specs.Leafset
use Rattle.model.specs.Ring
use Rattle.model.specs.Types
use Rattle.model.specs.Steps
use Rattle.model.specs.Play
use Rattle.model.specs.Words
use Rattle.model.specs.Buffer
use Rattle.model.specs.Connection
use Rattle.model.specs.Questions
use Rattle.model.specs.Bench
use Rattle.model.proofs.ExampleRing.{holding, five, node0, off, acknowledgement, ring}

-- `unfolding computed` opens every definition, for what is shown by computing
unfoldable pub computed : Unit {0}
unfolding Sets.all Sets.some Sets.count Sets.members Sets.to_bits Sets.tabulate_from Leafset.leafset Leafset.nearest Leafset.closest
    Leafset.successor Leafset.passes_zero Ring.initial Types.used_by_type Words.head_word Words.key_word Words.clock_word Words.pair_word
    Words.spare_word Words.message_word Words.stamp_word Words.view_word Words.belongs Words.word_at Words.encode Words.decode_table Words.decode_own
    Words.decode_node Words.decode_message_at Words.decode Words.in_range Words.keys_differ Words.pair_fits Words.node_fits Ring.sent_by
    Words.message_fits Words.senders_fit Words.ring_fits Words.format_fits Words.reads_as_ring Answers.first_of Events.event_of Events.event_answer
    Events.write_event Events.word_answer Events.read_event Steps.hold Steps.release Steps.forget Steps.leaving Steps.contact Steps.notice
    Steps.timer0 Steps.timer2 Steps.timer3 Steps.timer4 Steps.timer Steps.on_ping_contact Steps.on_pong_contact Steps.on_ping_ask_inv
    Steps.on_pong_ask_inv Steps.on_ping_invite Steps.on_pong_invite Steps.on_ping_ask_repl Steps.on_pong_ask_repl Steps.on_ping_replace Steps.on_pong_replace
    Steps.on_ping_deloopy Steps.on_pong_deloopy Steps.on_leave Steps.deliver Play.remove_message Play.act Play.after Play.play_answer Play.play_word
    Play.play_all Buffer.open_answer Buffer.open_buffer Buffer.buffer_answer Buffer.play_buffer Buffer.play_buffer_all Connection.reached
    Connection.connected Connection.groups Questions.leafset_answer Questions.leafset_of Questions.connection_answer Questions.connection_of
    Bench.little_endian Bench.event_lines Bench.node_line Bench.script_table Bench.script_answer Bench.bench
computed = tt

-- ---- "Points to play over (P: proved)"

-- keys 10, 20, 30 and 16777210 with A = B = 1
pub four : Leafset.Table
four = record { sides = record { ahead = 1; behind = 1 }; keys = 10 ∷ 20 ∷ 30 ∷ 16777210 ∷ [] }

-- the leafset at key 10 in the set of nodes that is given by its bits
pub near10 : ℕ → List ℕ
near10 S = Sets.members 4 (Leafset.leafset four 0 (Sets.of_bits S))

-- type 7 from node 0, key 100, is delivered at node x of keys 100, 130, 90 and 110, which holds the nodes that are given by their bits:
-- what it sends, for each A and B from 1 to 8
pub asked : ℕ → ℕ → List (List Ring.Message)
asked x S = Sets.tabulate 64 λ i. (Steps.deliver (table (suc (i / 8)) (suc (i % 8))) x 9 (holding S) m).sent
  where
    table : ℕ → ℕ → Leafset.Table
    table a b = record { sides = record { ahead = a; behind = b }; keys = 100 ∷ 130 ∷ 90 ∷ 110 ∷ [] }

    m : Ring.Message
    m = record { type = 7; sender = 0; receiver = x; subject = 64; stamp = 0; view = Sets.empty }

-- one message for each of these: type 8 from node x to node 0, with that subject
pub offered : ℕ → ℕ → List (List Ring.Message)
offered x y = replicate 64 (record { type = 8; sender = x; receiver = 0; subject = y; stamp = 0; view = Sets.empty } ∷ [])

-- what an own record says of the nodes of a table of five
pub record Shown : Type 0 where
  pub held : List ℕ
  pub commits : List ℕ
  pub spares : List ℕ

pub shown : Ring.Own → Shown
shown o = record { held = Sets.members 5 o.held; commits = Sets.tabulate 5 o.commit; spares = Sets.tabulate 5 o.spare }

-- node 0 holds the nodes that are given by their bits, and of them z = 2 with this commit and spare 1. Type 10 from y = 1 about z, with
-- stamp 7, is delivered to it, at 9: what its own record says then
pub acknowledged : ℕ → ℕ → Shown
acknowledged S commit = shown (Steps.deliver r.table 0 9 (r.node 0).own (Ring.message_at r 0)).own
  where
    r : Ring.Ring
    r = ring S commit

-- node 1 of the held 1 and 2, with spare 3, is released and held again at 9
pub again : Shown
again = shown (Steps.hold 9 1 (Steps.release 1 (Steps.set_spare 1 3 (holding 0b0110))))

-- of each message that a step sends its type, its receiver, its subject and its stamp
pub said : Steps.Effect → List (List ℕ)
said e = map (λ m. m.type ∷ m.receiver ∷ m.subject ∷ m.stamp ∷ []) e.sent

-- node 0 holds 2, 3 and 4, and of them 2 with commit 6 and spare 1. Type 9 from node 1 about z, with stamp 7, is delivered to it, at 9; and
-- timer 3 fires there
pub requested : ℕ → Steps.Effect
requested z = Steps.deliver five 0 9 (node0 0b11100 6).own (record { type = 9; sender = 1; receiver = 0; subject = z; stamp = 7; view = Sets.empty })

pub replacing : Steps.Effect
replacing = Steps.timer five 0 9 (node0 0b11100 6).own 3

-- 0 holds 2, which holds 1; 3 runs alone, and 4 is off
pub chained : Ring.Ring
chained =
    record {
      table = five;
      node = λ x. record { running = Sets.of_bits 0b01111 x; clock = 8; own = holding (get_or (0b00100 ∷ 0 ∷ 0b00010 ∷ []) x 0) };
      messages = [];
    }

-- the table: the points and traps by name
pub record Points : Type 0 where
  pub P1 : clockwise 16777215 0 ≡ 1
  pub P2 : (k : ℕ) → clockwise k k ≡ 0
  pub P3 : distance 0 8388608 ≡ 8388608
  pub P4 : near10 0b1110 ≡ 1 ∷ 3 ∷ []
  pub P5 : near10 0b0010 ≡ 1 ∷ []
  pub P6 : near10 0b0110 ≡ 1 ∷ 2 ∷ []
  pub P7 : asked 1 0b1100 ≡ offered 1 3
  pub P8 : asked 3 0b0100 ≡ offered 3 64
  -- before, y is not held, or (`-held`) is held with commit 5; "comparing stamps with "not above"" would release z in P9 as well
  pub P9 : acknowledged 0b11100 7
      ≡ record { held = 1 ∷ 2 ∷ 3 ∷ 4 ∷ []; commits = 0 ∷ 9 ∷ 7 ∷ 5 ∷ 5 ∷ []; spares = 64 ∷ 64 ∷ 1 ∷ 64 ∷ 64 ∷ [] }
  pub P9-held : acknowledged 0b11110 7
      ≡ record { held = 1 ∷ 2 ∷ 3 ∷ 4 ∷ []; commits = 0 ∷ 5 ∷ 7 ∷ 5 ∷ 5 ∷ []; spares = 64 ∷ 64 ∷ 1 ∷ 64 ∷ 64 ∷ [] }
  pub P10 : acknowledged 0b11100 6
      ≡ record { held = 1 ∷ 3 ∷ 4 ∷ []; commits = 0 ∷ 9 ∷ 0 ∷ 5 ∷ 5 ∷ []; spares = 64 ∷ 64 ∷ 64 ∷ 64 ∷ 64 ∷ [] }
  pub P10-held : acknowledged 0b11110 6
      ≡ record { held = 1 ∷ 3 ∷ 4 ∷ []; commits = 0 ∷ 9 ∷ 0 ∷ 5 ∷ 5 ∷ []; spares = 64 ∷ 64 ∷ 64 ∷ 64 ∷ 64 ∷ [] }
  -- "commit 0 for a stand taken in again"
  pub held_again : again ≡ record { held = 1 ∷ 2 ∷ []; commits = 0 ∷ 9 ∷ 5 ∷ 0 ∷ 0 ∷ []; spares = 64 ∷ 64 ∷ 64 ∷ 64 ∷ 64 ∷ [] }
  -- "offering the asker as its own spare": held, and nearest to itself
  pub asker_held : asked 1 0b1101 ≡ offered 1 3
  -- "sorting keys without the wrap": from the highest key on, the lowest is next, and key 0 is passed on the way there alone
  pub wrap_next : Leafset.successor four 3 (Sets.of_bits 0b0111) ≡ 0
  pub wrap_passed : Leafset.passes_zero four 3 (Sets.of_bits 0b0111) ≡ true
  pub wrap_not_passed : Leafset.passes_zero four 0 (Sets.of_bits 0b1110) ≡ false
  -- "On 9: if z is held, its commit becomes now and I answer 10 with the same subject and stamp"
  pub request_held : shown (requested 3).own ≡ record { held = 2 ∷ 3 ∷ 4 ∷ []; commits = 0 ∷ 0 ∷ 6 ∷ 9 ∷ 5 ∷ []; spares = 64 ∷ 64 ∷ 1 ∷ 64 ∷ 64 ∷ [] }
  pub request_answered : said (requested 3) ≡ (10 ∷ 1 ∷ 3 ∷ 7 ∷ []) ∷ []
  pub request_not_held : said (requested 1) ≡ []
  -- "Timer 3: for each held z outside my leafset with a spare, type 9 to the spare, subject z, stamp now": it releases nobody
  pub timer_3_asks : said replacing ≡ (9 ∷ 1 ∷ 2 ∷ 9 ∷ []) ∷ []
  pub timer_3_keeps : shown replacing.own ≡ record { held = 2 ∷ 3 ∷ 4 ∷ []; commits = 0 ∷ 0 ∷ 6 ∷ 5 ∷ 5 ∷ []; spares = 64 ∷ 64 ∷ 1 ∷ 64 ∷ 64 ∷ [] }
  -- "a commit stamp is .. never above x's clock", which is 8
  pub commit_at_clock : Words.pair_fits five (node0 0b11100 8) 0 2 ≡ true
  pub commit_above_clock : Words.pair_fits five (node0 0b11100 9) 0 2 ≡ false
  -- "steps between running stands lead from one to the other"
  pub chain_connected : Sets.members 5 (Connection.connected chained 0) ≡ 0 ∷ 1 ∷ 2 ∷ []
  pub chain_groups : Connection.groups chained ≡ 2

full_circle : (k : ℕ) → clockwise k k ≡ 0
full_circle k = omega arith

pub points : Points
unfolding computed four near10 holding asked offered shown five node0 off acknowledgement ring acknowledged again said requested replacing chained
points =
    record {
      P1 = refl;
      P2 = full_circle;
      P3 = refl;
      P4 = refl;
      P5 = refl;
      P6 = refl;
      P7 = refl;
      P8 = refl;
      P9 = refl;
      P9-held = refl;
      P10 = refl;
      P10-held = refl;
      held_again = refl;
      asker_held = refl;
      wrap_next = refl;
      wrap_passed = refl;
      wrap_not_passed = refl;
      request_held = refl;
      request_answered = refl;
      request_not_held = refl;
      timer_3_asks = refl;
      timer_3_keeps = refl;
      commit_at_clock = refl;
      commit_above_clock = refl;
      chain_connected = refl;
      chain_groups = refl;
    }

-- ---- the worked example of "The bench program"

pub input : List ℕ
input =
    0x31 ∷ 0x00 ∷ 0x40 ∷ 0x10 ∷ 0x0A ∷ 0 ∷ 0 ∷ 0x20 ∷ 0x14 ∷ 0 ∷ 0 ∷ 0x20 ∷ 0x1E ∷ 0 ∷ 0 ∷ 0x20
    ∷ 0 ∷ 0 ∷ 0 ∷ 0x90 ∷ 1 ∷ 0 ∷ 0 ∷ 0x90 ∷ 0x40 ∷ 0 ∷ 0 ∷ 0xC0 ∷ 0 ∷ 0 ∷ 0 ∷ 0xE0 ∷ 0 ∷ 0 ∷ 0 ∷ 0xE0 ∷ 0 ∷ 0 ∷ 0 ∷ 0xE0 ∷ []

pub output : Bench.Printed
output =
    record {
      lines =
          (1 ∷ 0 ∷ 0 ∷ []) ∷ (2 ∷ 0 ∷ 0 ∷ []) ∷ (3 ∷ 0 ∷ 1 ∷ []) ∷ (4 ∷ 0 ∷ 1 ∷ []) ∷ (5 ∷ 0 ∷ 0 ∷ []) ∷ (6 ∷ 7 ∷ 0 ∷ [])
          ∷ (0 ∷ 10 ∷ 1 ∷ 3 ∷ 1 ∷ 1 ∷ []) ∷ (1 ∷ 20 ∷ 1 ∷ 2 ∷ 0 ∷ []) ∷ (2 ∷ 30 ∷ 0 ∷ 0 ∷ 0 ∷ []) ∷ [];
      group = 1 ∷ [];
    }

pub worked_example : Bench.bench input ≡ output
unfolding computed input output
worked_example = refl
