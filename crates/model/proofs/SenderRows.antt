-- What note 12 of document 02 says, by rows that are computed.
use mathlib.Core.Path.{◌≡◌, refl}
use mathlib.Core.Bool.{true, false, ◌&&◌}
use lib.Dec.{eqb}
use mathlib.Core.List.{List, [], ◌∷◌, ◌++◌}
use Prim.Native.Nat.{ℕ, ◌+◌, ◌%◌}
use Rattle.std.specs.Prelude.{if◌then◌else◌}
use Rattle.model.specs.Sets.{none_node, all, count, members, of_bits, tabulate_from}
use Rattle.model.specs.Leafset.{leafset}
use Rattle.model.specs.Ring.{Own, Message, Ring, sent_by}
use Rattle.model.specs.Types.{pong_contact, used_by_type}
use Rattle.model.specs.Words.{in_range, keys_differ, pair_fits, node_fits, message_fits, senders_fit, ring_fits}
use Rattle.model.specs.Steps.{plain, hold, leaving, contact, notice, forget, release, timer, timer0, on_ping_contact, on_pong_contact, deliver}
use Rattle.model.specs.Answers.{first_of}
use Rattle.model.specs.Events.{event_of}
use Rattle.model.specs.Play.{remove_message, act, after, play_answer, play_all}
use Rattle.model.specs.Play as play

-- five nodes, which run; node 0 holds 1 and 2
pub with_messages : List Message → Ring
with_messages ms =
    record {
      table = record { sides = record { ahead = 1; behind = 1 }; keys = 10 ∷ 20 ∷ 30 ∷ 40 ∷ 50 ∷ [] };
      node = λ x. record { running = true; clock = 8; own = own x };
      messages = ms;
    }
  where
    own : ℕ → Own
    own x =
        record {
          held = λ z. eqb x 0 && of_bits 0b00110 z;
          candidates = λ z. false;
          commit = λ z. if eqb x 0 && of_bits 0b00110 z then 5 else 0;
          spare = λ z. none_node;
        }

-- so many messages of type k from x to y
pub talk : ℕ → ℕ → ℕ → ℕ → List Message
talk many k x y = tabulate_from 0 many (λ i. plain k x y)

-- the answer to a word, where these are in flight
pub answered : List Message → ℕ → ℕ
answered ms w = play_answer (with_messages ms) w

-- the answer to the second word after the first
pub answered_then : List Message → ℕ → ℕ → ℕ
answered_then ms v w = play_answer (play_all (with_messages ms) (v ∷ [])) w

-- 1,024 messages, as many from each of the nodes s to s + 3, to the next
pub crowd : ℕ → List Message
crowd s = tabulate_from 0 1024 (λ i. plain pong_contact (i % 4 + s) ((i % 4 + s + 1) % 5))

pub record SenderRows : Type 0 where
  -- "No sender may have more than 256 messages travelling."; "part of what makes words a ring"
  pub ring_256 : ring_fits (with_messages (talk 256 1 1 2)) ≡ true
  pub ring_257 : ring_fits (with_messages (talk 257 1 1 2)) ≡ false
  -- of each sender by itself: 256 of two, and 257 of the second
  pub ring_two : ring_fits (with_messages (talk 256 1 1 2 ++ talk 256 1 2 1)) ≡ true
  pub ring_second : ring_fits (with_messages (talk 2 1 1 2 ++ talk 257 1 2 1)) ≡ false
  -- "17, the acting .. stand would have more than 256 travelling": contact 0 to 1
  pub contact_255 : answered (talk 255 2 0 1) 0xC0000040 ≡ 0
  pub contact_256 : answered (talk 256 2 0 1) 0xC0000040 ≡ 17
  -- of the sender, not of the receiver
  pub contact_received : answered (talk 256 2 1 0) 0xC0000040 ≡ 0
  -- a polite off sends two, and a plain one none; nor does a notice
  pub polite_254 : answered (talk 254 2 0 1) 0xA0001000 ≡ 0
  pub polite_255 : answered (talk 255 2 0 1) 0xA0001000 ≡ 17
  pub plain_256 : answered (talk 256 2 0 1) 0xA0000000 ≡ 0
  pub notice_256 : answered (talk 256 2 0 1) 0xB0000080 ≡ 0
  -- "or answering": 0 answers type 1 and not type 2
  pub answer_256 : answered (talk 1 1 1 0 ++ talk 256 2 0 1) 0xE0000000 ≡ 17
  pub no_answer_256 : answered (talk 1 2 1 0 ++ talk 256 2 0 1) 0xE0000000 ≡ 0
  pub echo_256 : answered (talk 1 1 1 0 ++ talk 256 2 0 1) 0xE0000400 ≡ 17
  -- a message that was delivered has left its place, and one that was echoed has not: then contact 1 to 0
  pub delivered_frees : answered_then (talk 256 1 1 0) 0xE0000000 0xC0000001 ≡ 0
  pub echoed_stays : answered_then (talk 256 1 1 0) 0xE0000400 0xC0000001 ≡ 17
  -- "Losing a message makes its place free for the sender", and for no other
  pub lost_own : answered_then (talk 256 2 0 1 ++ talk 1 2 1 0) 0xF0000000 0xC0000040 ≡ 0
  pub lost_other : answered_then (talk 256 2 0 1 ++ talk 1 2 1 0) 0xF0000100 0xC0000040 ≡ 17
  -- "refused after 11": 0 has 256 of 1,024; and 11 alone, where it has none
  pub both : answered (crowd 0) 0xC0000040 ≡ 11
  pub full_alone : answered (crowd 1) 0xC0000040 ≡ 11

pub sender_rows : SenderRows
unfolding with_messages talk answered answered_then crowd tabulate_from all count members leafset sent_by used_by_type
    in_range keys_differ pair_fits node_fits message_fits senders_fit ring_fits hold leaving contact notice forget release timer timer0
    on_ping_contact on_pong_contact deliver first_of event_of remove_message act after play_answer play_all play.play_word
sender_rows =
    record {
      ring_256 = refl;
      ring_257 = refl;
      ring_two = refl;
      ring_second = refl;
      contact_255 = refl;
      contact_256 = refl;
      contact_received = refl;
      polite_254 = refl;
      polite_255 = refl;
      plain_256 = refl;
      notice_256 = refl;
      answer_256 = refl;
      no_answer_256 = refl;
      echo_256 = refl;
      delivered_frees = refl;
      echoed_stays = refl;
      lost_own = refl;
      lost_other = refl;
      both = refl;
      full_alone = refl;
    }
