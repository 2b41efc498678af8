-- Computed rows: partings that also join, which events a verdict has, the last line, and the text of each answer.
use mathlib.Core.Path.{◌≡◌, refl}
use mathlib.Core.Bool.{Bool, true, false}
use mathlib.Core.List.{List, [], ◌∷◌, ◌++◌, map}
use Prim.Native.Nat.{ℕ}
use lib.Dec.{eqb}
use Rattle.bench_lines.specs.Decimal
use Rattle.text_form.specs.Ascii.{ascii}
use Rattle.text_form.specs.Describe
use Rattle.std.specs.Prelude.{if◌then◌else◌}
use Rattle.model.specs.Fields.{bit}
use Rattle.model.specs.Sets
use Rattle.model.specs.Sets.{empty, of_bits, none_node}
use Rattle.model.specs.Types.{ping_replace, pong_replace}
use Rattle.model.specs.Leafset
use Rattle.model.specs.Ring
use Rattle.model.specs.Ring.{Own, Message, Ring}
use Rattle.model.specs.Words
use Rattle.model.specs.Steps
use Rattle.model.specs.Steps.{stamped}
use Rattle.model.specs.Answers
use Rattle.model.specs.Events
use Rattle.model.specs.declared.event.Event.{Event}
use Rattle.model.specs.Play
use Rattle.model.specs.Connection
use Rattle.audit_account.specs.declared.Account.{Account}
use Rattle.audit_account.specs.Points
use Rattle.audit_account.specs.Partings
use Rattle.audit_account.specs.Partings.{parts}
use Rattle.audit_account.specs.Accounts
use Rattle.audit_account.specs.declared.Entry.{Entry}
use Rattle.audit_account.specs.Accounts.{Standing}
use Rattle.audit_account.specs.Whole
use Rattle.audit_account.proofs.ExampleRing.{ring, from_0, request, acknowledgement, left}
use Rattle.audit_account.proofs.PartingRows.{holding, sides}

-- `unfolding computed` opens every definition, for what is shown by computing
unfoldable computed : Unit {0}
unfolding ring from_0 request acknowledgement left holding sides Decimal.decimal_in Decimal.decimal Decimal.spaced
    Describe.event_text Describe.raw_text Describe.word_text Sets.all Sets.some Sets.count Sets.members Sets.tabulate_from
    Leafset.leafset Leafset.nearest Leafset.closest Leafset.successor Leafset.passes_zero Ring.sent_by Words.senders_fit
    Steps.hold Steps.release Steps.forget Steps.contact Steps.notice Steps.leaving Steps.timer0 Steps.timer2
    Steps.timer3 Steps.timer4 Steps.timer Steps.on_ping_contact Steps.on_pong_contact Steps.on_ping_ask_inv Steps.on_ping_replace
    Steps.on_pong_replace
    Steps.deliver Answers.first_of Events.event_of Play.remove_message Play.act Play.after Play.play_answer Play.play_word
    Connection.reached Connection.connected Connection.groups Points.acknowledgements Points.late_leaves Points.is_point
    Points.is_uncovered_word Partings.torn Partings.parts Partings.side Partings.is_first Partings.sides_text
    Accounts.opened Accounts.noted Accounts.counted Accounts.begun Accounts.entered Accounts.after_parting
    Accounts.played Accounts.answer_text Accounts.state_text Accounts.event_text Accounts.entry_text Accounts.entries_text
    Accounts.more_text Accounts.verdict_text Accounts.parted_text Accounts.word_lines Accounts.end_text Whole.played_all
    Whole.all_lines Whole.tail_line Whole.rest
computed = tt

-- ---- a parting that also joins

-- keys 10 to 50, all run. Node 0 holds 1, 2 and 4; 2 lies outside its leafset, and its spare is 3. Node 3 holds nobody, and its
-- acknowledgement is still in flight
unfoldable pub five : Ring
five =
    record {
      table = record { sides = record { ahead = 1; behind = 1 }; keys = 10 ∷ 20 ∷ 30 ∷ 40 ∷ 50 ∷ [] };
      node = λ x. record { running = true; clock = 5; own = if eqb x 0 then zero_holds else none_held };
      messages = stamped pong_replace 3 0 2 5 ∷ [];
    }
  where
    zero_holds : Own
    zero_holds =
        record {
          held = of_bits 0b10110;
          candidates = empty;
          commit = λ z. if of_bits 0b10110 z then 1 else 0;
          spare = λ z. if eqb z 2 then 3 else none_node;
        }

    none_held : Own
    none_held = record { held = empty; candidates = empty; commit = λ z. 0; spare = λ z. none_node }

-- 26 events were played; the last point was after 20 of them, and then node 3 got a wrong notice
pub misled : Standing
misled =
    record {
      ring = five;
      account =
          record {
            count = 26;
            point = 20;
            uncovered = 1;
            on = false;
            off = false;
            notice = true;
            partings = 0;
            ons = 0;
            offs = 0;
            notices = 0;
          };
      listed = record { number = 23; word = 0xB0000083 } ∷ [];
    }

pub record Joining : Type 0 where
  -- "On 10 from y: .. take y in; then .. let go of z": node 0 is parted from 2, and 3 comes to it, which was not with them and so is on no side
  pub late_acknowledgement :
      Accounts.word_lines misled 0xE0000000
      ≡ ascii "27 deliver 0: accepted; in flight 0, acknowledgements 0, groups 2\n"
      ++ ascii "parted at event 27: 0 1 4 | 2\n"
      ++ ascii "  the promise last began after event 20; it does not cover, since then:\n"
      ++ ascii "    23 notice 3 2\n"
  -- the parted node comes to another
  pub comes_to_another : sides (holding 0b1111 (0b0010 ∷ [])) (holding 0b1111 (0 ∷ 0b0100 ∷ [])) ≡ ascii " 0 | 1"
  -- two pairs are parted and joined crosswise
  pub crosswise :
      sides (holding 0b1111 (0b0010 ∷ 0 ∷ 0b1000 ∷ [])) (holding 0b1111 (0b0100 ∷ 0b1000 ∷ [])) ≡ ascii " 0 | 1 | 2 | 3"
  -- a group is parted, and another stays whole
  pub other_stays :
      sides (holding 0b1111 (0b0100 ∷ 0b1000 ∷ [])) (holding 0b1111 (0 ∷ 0b1000 ∷ [])) ≡ ascii " 0 | 2"

pub joining : Joining
unfolding computed five misled
joining = record { late_acknowledgement = refl; comes_to_another = refl; crosswise = refl; other_stays = refl }

-- ---- points, and what the promise covers

-- the acknowledgements, and the messages of type 13 from running nodes
pub flying : ℕ → List ℕ
flying running = Points.acknowledgements r ∷ Points.late_leaves r ∷ []
  where
    r : Ring
    r = ring running [] (left ∷ acknowledgement ∷ request ∷ left ∷ [])

-- accepted, each: the timers 0, 2, 3 and 4; contacts of a node that runs and of one that is off; a delivery, an echo and a loss; a
-- notice of a node that is off
pub harmless : List ℕ
harmless =
    0xD0000000
    ∷ 0xD0002000
    ∷ 0xD0003000
    ∷ 0xD0004000
    ∷ 0xC0000040
    ∷ 0xC00000C0
    ∷ 0xE0000000
    ∷ 0xE0000400
    ∷ 0xF0000000
    ∷ 0xB00000C0
    ∷ []

-- accepted, each: an on; an off, plain and polite; a notice of a node that runs
pub harmful : List ℕ
harmful = 0x90000003 ∷ 0xA0000001 ∷ 0xA0001001 ∷ 0xB0000040 ∷ []

-- of each word, played on a ring with an acknowledgement in flight: the answer, and whether the promise does not cover it
pub answers : List ℕ → List ℕ
answers ws = map (λ w. (Play.play_word (from_0 (acknowledgement ∷ [])) w).answer) ws

pub uncovered : List ℕ → List Bool
uncovered ws = map (λ w. Points.is_uncovered_word (from_0 (acknowledgement ∷ [])) w) ws

-- a right notice, and words that are refused: an on of a node that runs, an off, plain and polite, and a notice at a node that is off
pub unmarked : List ℕ
unmarked = 0xB00000C0 ∷ 0x90000001 ∷ 0xA0000003 ∷ 0xA0001003 ∷ 0xB0000003 ∷ []

-- each word alone, noted in the account: whether an on, an off and a notice are among those that are not covered
pub marks : Account → List ℕ → List (List ℕ)
marks a ws = map (λ w. marked (Accounts.noted a (from_0 (acknowledgement ∷ [])) w)) ws
  where
    marked : Account → List ℕ
    marked b = bit b.on ∷ bit b.off ∷ bit b.notice ∷ []

-- whether the event of a word is an on, an off or a notice
pub kinds : List ℕ → List (List ℕ)
kinds ws = map (λ w. kind (Events.event_of w)) ws
  where
    kind : Event → List ℕ
    kind e = bit (Points.is_on e) ∷ bit (Points.is_off e) ∷ bit (Points.is_notice e) ∷ []

-- an account with all three
pub all_marked : Account
all_marked =
    record {
      count = 3;
      point = 0;
      uncovered = 3;
      on = true;
      off = true;
      notice = true;
      partings = 0;
      ons = 0;
      offs = 0;
      notices = 0;
    }

-- a request for a spare's acknowledgement, to node 0, which holds its subject and answers with type 10
unfoldable pub asked : Message
asked = stamped ping_replace 2 0 1 7

-- a word, played on a ring with these messages: the count, the last point, and what is not covered since
pub since : List Message → ℕ → List ℕ
since ms w = a.count ∷ a.point ∷ a.uncovered ∷ bit a.on ∷ bit a.off ∷ bit a.notice ∷ []
  where
    a : Account
    a = (Accounts.played (record { ring = from_0 ms; account = all_marked; listed = [] }) w).account

pub record Covered : Type 0 where
  -- "how many of these are acknowledgements": type 10 alone; type 13 counts by itself, and only where its sender runs
  pub leavers_run : flying 0b0111 ≡ 1 ∷ 2 ∷ []
  pub leaver_off : flying 0b0101 ≡ 1 ∷ 0 ∷ []
  pub state :
      Accounts.state_text (from_0 (left ∷ acknowledgement ∷ request ∷ left ∷ []))
      ≡ ascii "; in flight 4, acknowledgements 1, groups 1\n"
  -- "the events since then that it does not cover: an on, an off, a notice that names a running node"
  pub harmless_accepted : answers harmless ≡ 0 ∷ 0 ∷ 0 ∷ 0 ∷ 0 ∷ 0 ∷ 0 ∷ 0 ∷ 0 ∷ 0 ∷ []
  pub are_covered :
      uncovered harmless
      ≡ false ∷ false ∷ false ∷ false ∷ false ∷ false ∷ false ∷ false ∷ false ∷ false ∷ []
  pub harmful_accepted : answers harmful ≡ 0 ∷ 0 ∷ 0 ∷ 0 ∷ []
  pub are_not_covered : uncovered harmful ≡ true ∷ true ∷ true ∷ true ∷ []
  -- a timer, a contact, a delivery, an echo and a loss are neither; a notice is one, whomever it names; so is an off, polite or not
  pub by_kind :
      kinds (0xD0000000 ∷ 0xC0000040 ∷ 0xE0000000 ∷ 0xE0000400 ∷ 0xF0000000 ∷ 0xB00000C0 ∷ [])
      ≡ (0 ∷ 0 ∷ 0 ∷ []) ∷ (0 ∷ 0 ∷ 0 ∷ []) ∷ (0 ∷ 0 ∷ 0 ∷ []) ∷ (0 ∷ 0 ∷ 0 ∷ []) ∷ (0 ∷ 0 ∷ 0 ∷ []) ∷ (0 ∷ 0 ∷ 1 ∷ []) ∷ []
  pub marked_by :
      marks Accounts.opened harmful ≡ (1 ∷ 0 ∷ 0 ∷ []) ∷ (0 ∷ 1 ∷ 0 ∷ []) ∷ (0 ∷ 1 ∷ 0 ∷ []) ∷ (0 ∷ 0 ∷ 1 ∷ []) ∷ []
  pub not_marked_by :
      marks Accounts.opened unmarked
      ≡ (0 ∷ 0 ∷ 0 ∷ []) ∷ (0 ∷ 0 ∷ 0 ∷ []) ∷ (0 ∷ 0 ∷ 0 ∷ []) ∷ (0 ∷ 0 ∷ 0 ∷ []) ∷ (0 ∷ 0 ∷ 0 ∷ []) ∷ []
  -- what counts is the ring after the event: an acknowledgement is lost, and one is sent
  pub becomes_point : since (acknowledgement ∷ []) 0xF0000000 ≡ 4 ∷ 4 ∷ 0 ∷ 0 ∷ 0 ∷ 0 ∷ []
  pub is_point_no_more : since (asked ∷ []) 0xE0000000 ≡ 4 ∷ 0 ∷ 3 ∷ 1 ∷ 1 ∷ 1 ∷ []
  -- what was among them stays
  pub stays_marked : marks all_marked (0xF0000000 ∷ 0x90000003 ∷ []) ≡ (1 ∷ 1 ∷ 1 ∷ []) ∷ (1 ∷ 1 ∷ 1 ∷ []) ∷ []

pub covered : Covered
unfolding computed flying harmless harmful unmarked answers uncovered marks kinds all_marked asked since
covered =
    record {
      leavers_run = refl;
      leaver_off = refl;
      state = refl;
      harmless_accepted = refl;
      are_covered = refl;
      harmful_accepted = refl;
      are_not_covered = refl;
      by_kind = refl;
      marked_by = refl;
      not_marked_by = refl;
      becomes_point = refl;
      is_point_no_more = refl;
      stays_marked = refl;
    }

-- ---- a whole account

-- no event was played, and an acknowledgement is in flight
pub first : Standing
first = record { ring = from_0 (acknowledgement ∷ []); account = Accounts.opened; listed = [] }

pub record WholeAccount : Type 0 where
  -- on 3, contact 0 3, timer 0 at 0, deliver 1, lose 1, echo 1, notice 0 1, lose 0, deliver 1, off 0, notice 2 0: of the first parting an on and a
  -- notice stand in the verdict, of the second an off
  pub account :
      Whole.rest first
      (0x90000003
      ∷ 0xC00000C0
      ∷ 0xD0000000
      ∷ 0xE0000001
      ∷ 0xF0000001
      ∷ 0xE0000401
      ∷ 0xB0000040
      ∷ 0xF0000000
      ∷ 0xE0000001
      ∷ 0xA0000000
      ∷ 0xB0000002
      ∷ [])
      []
      ≡ ascii "1 on 3: accepted; in flight 1, acknowledgements 1, groups 2\n"
      ++ ascii "2 contact 0 3: accepted; in flight 2, acknowledgements 1, groups 2\n"
      ++ ascii "3 timer 0 at 0: accepted; in flight 4, acknowledgements 1, groups 2\n"
      ++ ascii "4 deliver 1: accepted; in flight 4, acknowledgements 1, groups 2\n"
      ++ ascii "5 lose 1: accepted; in flight 3, acknowledgements 1, groups 2\n"
      ++ ascii "6 echo 1: accepted; in flight 4, acknowledgements 1, groups 2\n"
      ++ ascii "7 notice 0 1: accepted; in flight 4, acknowledgements 1, groups 3\n"
      ++ ascii "parted at event 7: 0 2 | 1\n"
      ++ ascii "  the promise last began after event 0; it does not cover, since then:\n"
      ++ ascii "    1 on 3\n"
      ++ ascii "    7 notice 0 1\n"
      ++ ascii "8 lose 0: accepted; in flight 3, acknowledgements 0, groups 3\n"
      ++ ascii "9 deliver 1: accepted; in flight 2, acknowledgements 0, groups 2\n"
      ++ ascii "10 off 0: accepted; in flight 2, acknowledgements 0, groups 3\n"
      ++ ascii "parted at event 10: 2 | 3\n"
      ++ ascii "  the promise last began after event 9; it does not cover, since then:\n"
      ++ ascii "    10 off 0\n"
      ++ ascii "11 notice 2 0: accepted; in flight 2, acknowledgements 0, groups 3\n"
      ++ ascii "times parted: 2; an on in the verdict: 1, an off: 1, a wrong notice: 1\n"

pub whole_account : WholeAccount
unfolding computed first
whole_account = record { account = refl }

-- ---- the verdict's list, the last line, the answers

-- 21 events were played; the last 17 are not covered, and 16 of them are listed
pub full : Standing
full =
    record {
      ring = from_0 [];
      account =
          record {
            count = 21;
            point = 4;
            uncovered = 17;
            on = true;
            off = true;
            notice = false;
            partings = 3;
            ons = 1;
            offs = 2;
            notices = 0;
          };
      listed = map entry (5 ∷ 6 ∷ 7 ∷ 8 ∷ 9 ∷ 10 ∷ 11 ∷ 12 ∷ 13 ∷ 14 ∷ 15 ∷ 16 ∷ 17 ∷ 18 ∷ 19 ∷ 20 ∷ []);
    }
  where
    entry : ℕ → Entry
    entry k = record { number = k; word = 0xA0001003 }

pub record Texts : Type 0 where
  -- "A verdict lists at most 16 events, and says how many more there are."
  pub sixteen_and_two :
      Accounts.word_lines full 0xB0000040
      ≡ ascii "22 notice 0 1: accepted; in flight 0, acknowledgements 0, groups 2\n"
      ++ ascii "parted at event 22: 0 2 | 1\n"
      ++ ascii "  the promise last began after event 4; it does not cover, since then:\n"
      ++ ascii "    5 leave 3\n    6 leave 3\n    7 leave 3\n    8 leave 3\n"
      ++ ascii "    9 leave 3\n    10 leave 3\n    11 leave 3\n    12 leave 3\n"
      ++ ascii "    13 leave 3\n    14 leave 3\n    15 leave 3\n    16 leave 3\n"
      ++ ascii "    17 leave 3\n    18 leave 3\n    19 leave 3\n    20 leave 3\n"
      ++ ascii "    and 2 more\n"
  -- "The last line is `never parted`, or at how many events nodes were parted and what was not covered."
  pub last_line :
      Accounts.end_text full.account
      ≡ ascii "times parted: 3; an on in the verdict: 1, an off: 2, a wrong notice: 0\n"
  pub last_line_after :
      Accounts.end_text (Accounts.after_parting full 0xB0000040)
      ≡ ascii "times parted: 4; an on in the verdict: 2, an off: 3, a wrong notice: 1\n"
  -- the answer with its reason, 0 to 20; a join's, a listener's and so on are no event's
  pub answer_texts_lem :
      map Accounts.answer_text
      (0 ∷ 1 ∷ 2 ∷ 3 ∷ 4 ∷ 5 ∷ 6 ∷ 7 ∷ 8 ∷ 9 ∷ 10 ∷ 11 ∷ 12 ∷ 13 ∷ 14 ∷ 15 ∷ 16 ∷ 17 ∷ 18 ∷ 19 ∷ 20 ∷ [])
      ≡ ascii "accepted"
      ∷ ascii "refused, 1: a ring buffer is not 13,441 words"
      ∷ ascii "refused, 2: n, A or B is out of range"
      ∷ ascii "refused, 3: a key is too big, or two are equal"
      ∷ ascii "refused, 4: not an event"
      ∷ ascii "refused, 5: a node with itself"
      ∷ ascii "refused, 6: the words do not read as a ring"
      ∷ ascii "refused, 7: no such node, or no such message"
      ∷ ascii "refused, 8: the node is off"
      ∷ ascii "refused, 9: the node runs already"
      ∷ ascii "refused, 10: the clock is spent"
      ∷ ascii "refused, 11: more than 1,024 messages would be in flight"
      ∷ []
      ∷ []
      ∷ []
      ∷ []
      ∷ []
      ∷ ascii "refused, 17: a sender would have more than 256 in flight"
      ∷ []
      ∷ []
      ∷ []
      ∷ []

pub texts : Texts
unfolding computed full
texts = record { sixteen_and_two = refl; last_line = refl; last_line_after = refl; answer_texts_lem = refl }
