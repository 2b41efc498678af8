-- Computed rows: what the audit prints of an event, and what it keeps.
use mathlib.Core.Path.{◌≡◌, refl}
use mathlib.Core.Bool.{true, false}
use mathlib.Core.List.{List, [], ◌∷◌, ◌++◌, map}
use Prim.Native.Nat.{ℕ, ◌/◌, ◌%◌, ◌^◌}
use Rattle.bench_lines.specs.Decimal
use Rattle.text_form.specs.Ascii.{ascii}
use Rattle.text_form.specs.Describe
use Rattle.model.specs.Sets
use Rattle.model.specs.Ring.{Ring}
use Rattle.model.specs.Ring
use Rattle.model.specs.Fields.{bit}
use Rattle.model.specs.Words
use Rattle.model.specs.Bench
use Rattle.model.specs.Steps
use Rattle.model.specs.Answers
use Rattle.model.specs.Events
use Rattle.model.specs.Play
use Rattle.model.specs.Connection
use Rattle.audit_account.specs.declared.Account.{Account}
use Rattle.audit_account.specs.Points
use Rattle.audit_account.specs.Partings
use Rattle.audit_account.specs.Accounts
use Rattle.audit_account.specs.Accounts.{Standing}
use Rattle.audit_account.specs.Whole
use Rattle.audit_account.proofs.ExampleRing.{ring, from_0, from_1, from_1_all, request, acknowledgement, left}

-- `unfolding computed` opens every definition, for what is shown by computing
unfoldable computed : Unit {0}
unfolding ring from_0 from_1 from_1_all request acknowledgement left Decimal.decimal_in Decimal.decimal Decimal.spaced
    Describe.event_text Describe.raw_text Describe.word_text Describe.hex_bytes Sets.all Sets.some Sets.count Sets.members
    Sets.tabulate_from Ring.initial Ring.sent_by Words.head_word Words.key_word Words.in_range Words.keys_differ
    Words.senders_fit Bench.little_endian Bench.script_table Bench.script_answer Steps.hold Steps.contact Steps.notice
    Steps.forget Steps.release Steps.leaving Steps.on_ping_contact Steps.on_pong_contact Steps.on_leave Steps.deliver Answers.first_of Events.event_of
    Play.remove_message Play.act Play.after Play.play_answer Play.play_word Connection.reached Connection.connected
    Connection.groups Points.acknowledgements Points.late_leaves Points.is_point Points.is_uncovered_word Partings.torn
    Partings.parts Partings.side Partings.is_first Partings.sides_text Accounts.opened Accounts.noted Accounts.counted
    Accounts.begun Accounts.entered Accounts.after_parting Accounts.played Accounts.answer_text Accounts.no_ring_text
    Accounts.state_text Accounts.event_text Accounts.entry_text Accounts.entries_text Accounts.more_text
    Accounts.verdict_text Accounts.parted_text Accounts.word_lines Accounts.end_text Whole.played_all Whole.all_lines
    Whole.tail_line Whole.rest Whole.audit
computed = tt

-- 26 events were played, and the last left a point
pub at_point_lem : Ring → Standing
at_point_lem r =
    record {
      ring = r;
      account =
          record {
            count = 26;
            point = 26;
            uncovered = 0;
            on = false;
            off = false;
            notice = false;
            partings = 2;
            ons = 1;
            offs = 0;
            notices = 2;
          };
      listed = [];
    }

-- 26 events were played, the last point was after 20 of them, and k events since are not covered, the first of them
-- the on of node 1
pub since_20 : ℕ → Ring → Standing
since_20 k r =
    record {
      ring = r;
      account =
          record {
            count = 26;
            point = 20;
            uncovered = k;
            on = true;
            off = false;
            notice = false;
            partings = 2;
            ons = 1;
            offs = 0;
            notices = 2;
          };
      listed = record { number = 22; word = 0x90000001 } ∷ [];
    }

-- no event was played
pub first : Standing
first = record { ring = from_0 []; account = Accounts.opened; listed = [] }

-- ---- lines

pub record Lines : Type 0 where
  -- a wrong notice
  pub notice_parts :
      Accounts.word_lines (at_point_lem (from_0 [])) 0xB0000040
      ≡ ascii "27 notice 0 1: accepted; in flight 0, acknowledgements 0, groups 2\n"
      ++ ascii "parted at event 27: 0 2 | 1\n"
      ++ ascii "  the promise last began after event 26; it does not cover, since then:\n"
      ++ ascii "    27 notice 0 1\n"
  -- the node between the others goes off, and is on no side
  pub off_parts :
      Accounts.word_lines (at_point_lem from_1_all) 0xA0000001
      ≡ ascii "27 off 1: accepted; in flight 0, acknowledgements 0, groups 3\n"
      ++ ascii "parted at event 27: 0 | 2 | 3\n"
      ++ ascii "  the promise last began after event 26; it does not cover, since then:\n"
      ++ ascii "    27 off 1\n"
  -- a node that nobody else needs goes off
  pub off_parts_nobody :
      Accounts.word_lines (at_point_lem (from_1 (request ∷ acknowledgement ∷ acknowledgement ∷ []))) 0xA0000002
      ≡ ascii "27 off 2: accepted; in flight 3, acknowledgements 2, groups 1\n"
  -- type 13 from a node that came back: the on stands in the verdict, and the delivery does not
  pub late_leave_parts :
      Accounts.word_lines (since_20 1 (from_0 (left ∷ []))) 0xE0000000
      ≡ ascii "27 deliver 0: accepted; in flight 0, acknowledgements 0, groups 2\n"
      ++ ascii "parted at event 27: 0 2 | 1\n"
      ++ ascii "  the promise last began after event 20; it does not cover, since then:\n"
      ++ ascii "    22 on 1\n"
  pub refused :
      Accounts.word_lines (at_point_lem (from_0 [])) 0xA0001003
      ≡ ascii "27 leave 3: refused, 8: the node is off; in flight 0, acknowledgements 0, groups 1\n"
  pub no_event :
      Accounts.word_lines (at_point_lem (from_0 [])) 0x9000004A
      ≡ ascii "27 word 9000004a: refused, 4: not an event; in flight 0, acknowledgements 0, groups 1\n"
  pub tail :
      Whole.tail_line (at_point_lem (from_0 [])) (0x0A ∷ 0xF0 ∷ [])
      ≡ ascii "27 tail 0af0: refused, 4: not an event; in flight 0, acknowledgements 0, groups 1\n"
  -- 16 events are listed
  pub no_more : Accounts.more_text 16 ≡ []
  pub one_more_lem : Accounts.more_text 17 ≡ ascii "    and 1 more\n"
  pub never : Accounts.end_text Accounts.opened ≡ ascii "never parted\n"
  pub once :
      Accounts.end_text (Accounts.after_parting first 0xB0000040)
      ≡ ascii "times parted: 1; "
      ++ ascii "an on in the verdict: 0, an off: 0, a wrong notice: 1\n"

pub lines : Lines
unfolding computed at_point_lem since_20 first
lines =
    record {
      notice_parts = refl;
      off_parts = refl;
      off_parts_nobody = refl;
      late_leave_parts = refl;
      refused = refl;
      no_event = refl;
      tail = refl;
      no_more = refl;
      one_more_lem = refl;
      never = refl;
      once = refl;
    }

-- ---- what is kept

-- the count, the point and the events since it that are not covered; whether an on, an off and a notice are among them
pub since : Account → List ℕ
since a = a.count ∷ a.point ∷ a.uncovered ∷ bit a.on ∷ bit a.off ∷ bit a.notice ∷ []

-- the partings, and those with an on, an off and a notice
pub totals : Account → List ℕ
totals a = a.partings ∷ a.ons ∷ a.offs ∷ a.notices ∷ []

unfoldable pub kept : Standing → ℕ → List (List ℕ)
kept s w = since next.account ∷ totals next.account ∷ map (λ e. e.number) next.listed ∷ []
  where
    next : Standing
    next = Accounts.played s w

pub record KeptRows : Type 0 where
  -- a parting that leaves a point
  pub to_point :
      kept (since_20 1 (from_0 [])) 0xB0000040 ≡ (27 ∷ 27 ∷ 0 ∷ 0 ∷ 0 ∷ 0 ∷ []) ∷ (3 ∷ 2 ∷ 0 ∷ 3 ∷ []) ∷ [] ∷ []
  -- an acknowledgement stays in flight
  pub no_point :
      kept (since_20 1 (from_0 (acknowledgement ∷ []))) 0xB0000040
      ≡ (27 ∷ 20 ∷ 2 ∷ 1 ∷ 0 ∷ 1 ∷ []) ∷ (3 ∷ 2 ∷ 0 ∷ 3 ∷ []) ∷ (22 ∷ 27 ∷ []) ∷ []
  -- nobody is parted; the word is refused
  pub no_parting :
      kept (since_20 1 (from_1 (acknowledgement ∷ []))) 0xA0000002
      ≡ (27 ∷ 20 ∷ 2 ∷ 1 ∷ 1 ∷ 0 ∷ []) ∷ (2 ∷ 1 ∷ 0 ∷ 2 ∷ []) ∷ (22 ∷ 27 ∷ []) ∷ []
  pub refused_word :
      kept (since_20 1 (from_1 (acknowledgement ∷ []))) 0xA0000003
      ≡ (27 ∷ 20 ∷ 1 ∷ 1 ∷ 0 ∷ 0 ∷ []) ∷ (2 ∷ 1 ∷ 0 ∷ 2 ∷ []) ∷ (22 ∷ []) ∷ []
  -- the sixteenth is listed, the seventeenth only counted
  pub last_listed :
      kept (since_20 15 (from_1 (acknowledgement ∷ []))) 0xA0000002
      ≡ (27 ∷ 20 ∷ 16 ∷ 1 ∷ 1 ∷ 0 ∷ []) ∷ (2 ∷ 1 ∷ 0 ∷ 2 ∷ []) ∷ (22 ∷ 27 ∷ []) ∷ []
  pub not_listed :
      kept (since_20 16 (from_1 (acknowledgement ∷ []))) 0xA0000002
      ≡ (27 ∷ 20 ∷ 17 ∷ 1 ∷ 1 ∷ 0 ∷ []) ∷ (2 ∷ 1 ∷ 0 ∷ 2 ∷ []) ∷ (22 ∷ []) ∷ []

pub kept_rows : KeptRows
unfolding computed kept since totals since_20
kept_rows =
    record {
      to_point = refl;
      no_point = refl;
      no_parting = refl;
      refused_word = refl;
      last_listed = refl;
      not_listed = refl;
    }

-- ---- whole scripts

-- the bytes of words, lowest first
pub bytes : List ℕ → List ℕ
bytes [] = []
bytes (w ∷ ws) = w % 2 ^ 8 ∷ w / 2 ^ 8 % 2 ^ 8 ∷ w / 2 ^ 16 % 2 ^ 8 ∷ w / 2 ^ 24 ∷ bytes ws

pub record Scripts : Type 0 where
  pub two_nodes :
      Whole.audit
      (bytes
      (0x10400021
      ∷ 0x2000000A
      ∷ 0x20000014
      ∷ 0x90000000
      ∷ 0x90000001
      ∷ 0xC0000040
      ∷ 0xE0000000
      ∷ 0xE0000000
      ∷ 0xB0000040
      ∷ [])
      ++ 0xFF
      ∷ [])
      ≡ ascii "1 on 0: accepted; in flight 0, acknowledgements 0, groups 1\n"
      ++ ascii "2 on 1: accepted; in flight 0, acknowledgements 0, groups 2\n"
      ++ ascii "3 contact 0 1: accepted; in flight 1, acknowledgements 0, groups 2\n"
      ++ ascii "4 deliver 0: accepted; in flight 1, acknowledgements 0, groups 2\n"
      ++ ascii "5 deliver 0: accepted; in flight 0, acknowledgements 0, groups 1\n"
      ++ ascii "6 notice 0 1: accepted; in flight 0, acknowledgements 0, groups 2\n"
      ++ ascii "parted at event 6: 0 | 1\n"
      ++ ascii "  the promise last began after event 5; it does not cover, since then:\n"
      ++ ascii "    6 notice 0 1\n"
      ++ ascii "7 tail ff: refused, 4: not an event; in flight 0, acknowledgements 0, groups 2\n"
      ++ ascii "times parted: 1; "
      ++ ascii "an on in the verdict: 0, an off: 0, a wrong notice: 1\n"

pub scripts : Scripts
unfolding computed bytes
scripts = record { two_nodes = refl }

-- ---- scripts that open no ring

pub first_at_fault : List ℕ
first_at_fault = ascii "no ring: refused, 2: the first word is at fault, or a key is missing\n"

pub key_at_fault : List ℕ
key_at_fault = ascii "no ring: refused, 3: a key is at fault, or two are equal\n"

-- of two nodes, unless a row says otherwise
pub record NoRings : Type 0 where
  pub no_byte : Whole.audit [] ≡ first_at_fault
  pub no_word : Whole.audit (0x31 ∷ []) ≡ first_at_fault
  -- a key word for the first word
  pub other_kind : Whole.audit (bytes (0x2000000A ∷ 0x2000000A ∷ 0x20000014 ∷ [])) ≡ first_at_fault
  -- m is 1
  pub message : Whole.audit (bytes (0x10400821 ∷ 0x2000000A ∷ 0x20000014 ∷ [])) ≡ first_at_fault
  -- n is 0
  pub no_nodes : Whole.audit (bytes (0x10400001 ∷ [])) ≡ first_at_fault
  -- A is 0
  pub none_ahead : Whole.audit (bytes (0x10400020 ∷ 0x2000000A ∷ 0x20000014 ∷ [])) ≡ first_at_fault
  pub missing_key : Whole.audit (bytes (0x10400021 ∷ 0x2000000A ∷ [])) ≡ first_at_fault
  pub cut_key : Whole.audit (bytes (0x10400021 ∷ 0x2000000A ∷ []) ++ 0x14 ∷ 0 ∷ 0 ∷ []) ≡ first_at_fault
  -- a wrong key does not hide that another is missing
  pub wrong_and_missing : Whole.audit (bytes (0x10400021 ∷ 0x2100000A ∷ [])) ≡ first_at_fault
  pub running_key : Whole.audit (bytes (0x10400021 ∷ 0x2000000A ∷ 0x21000014 ∷ [])) ≡ key_at_fault
  -- an event for the second key
  pub key_of_other_kind : Whole.audit (bytes (0x10400021 ∷ 0x2000000A ∷ 0x90000000 ∷ [])) ≡ key_at_fault
  pub unnamed_bit : Whole.audit (bytes (0x10400021 ∷ 0x2000000A ∷ 0x22000014 ∷ [])) ≡ key_at_fault
  pub equal_keys : Whole.audit (bytes (0x10400021 ∷ 0x2000000A ∷ 0x2000000A ∷ [])) ≡ key_at_fault

pub no_rings : NoRings
unfolding computed bytes first_at_fault key_at_fault
no_rings =
    record {
      no_byte = refl;
      no_word = refl;
      other_kind = refl;
      message = refl;
      no_nodes = refl;
      none_ahead = refl;
      missing_key = refl;
      cut_key = refl;
      wrong_and_missing = refl;
      running_key = refl;
      key_of_other_kind = refl;
      unnamed_bit = refl;
      equal_keys = refl;
    }
