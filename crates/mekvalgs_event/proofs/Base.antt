-- Computed rows: event words and their three numbers, for C. The words are worked out from document 01's bits.
use mathlib.Core.Path.{◌≡◌, refl}
use mathlib.Core.List.{List, [], ◌∷◌, map}
use Prim.Native.Nat.{ℕ}
use Rattle.model.specs.Answers
use Rattle.model.specs.Events
use Rattle.mekvalgs_event.specs.Parts
use Rattle.mekvalgs_event.specs.declared.Parts.{Parts}

-- `unfolding computed` opens every definition, for what is shown by computing
unfoldable computed : Unit {0}
unfolding Answers.first_of Events.event_of Events.word_answer Parts.read_parts Parts.event_of_parts Parts.parts_are
    Parts.parts_answer Parts.write_parts
computed = tt

abbrev pub triple : ℕ → ℕ → ℕ → Parts
triple kind first second = record { kind = kind; first = first; second = second }

-- the numbers of each word, and the word of each three numbers
pub read : List ℕ → List Parts
read ws = map Parts.read_parts ws

pub written : List Parts → List ℕ
written ps = map Parts.write_parts ps

-- the answers
pub read_answers : List ℕ → List ℕ
read_answers ws = map Events.word_answer ws

pub written_answers : List Parts → List ℕ
written_answers ps = map Parts.parts_answer ps

-- one of every kind, then those at the limits: all are accepted
pub words : List ℕ
words =
    0x90000005
    ∷ 0xA0000005
    ∷ 0xA0001005
    ∷ 0xB0000185
    ∷ 0xC0000185
    ∷ 0xD0003005
    ∷ 0xE0000005
    ∷ 0xE0000405
    ∷ 0xF0000005
    ∷ 0x9000003F
    ∷ 0xA000103F
    ∷ 0xB0000FFE
    ∷ 0xC0000FBF
    ∷ 0xD000003F
    ∷ 0xD000203F
    ∷ 0xD000403F
    ∷ 0xE00003FF
    ∷ 0xE00007FF
    ∷ 0xF00003FF
    ∷ []

pub triples : List Parts
triples =
    triple 9 5 0
    ∷ triple 10 5 0
    ∷ triple 10 5 1
    ∷ triple 11 5 6
    ∷ triple 12 5 6
    ∷ triple 13 5 3
    ∷ triple 14 5 0
    ∷ triple 14 5 1
    ∷ triple 15 5 0
    ∷ triple 9 63 0
    ∷ triple 10 63 1
    ∷ triple 11 62 63
    ∷ triple 12 63 62
    ∷ triple 13 63 0
    ∷ triple 13 63 2
    ∷ triple 13 63 4
    ∷ triple 14 1023 0
    ∷ triple 14 1023 1
    ∷ triple 15 1023 0
    ∷ []

pub record Triples : Type 0 where
  -- "For kinds 9-13 stand x is in bits 0-5; for 11 and 12 the other stand .. is in 6-11; for 13 the timer .. is in 12-14.
  -- Kinds 14 and 15 have a message position in bits 0-9"; "An off event with bit 12 set", "A deliver event with bit 10 set"
  pub word_reads : read words ≡ triples
  pub numbers_write : written triples ≡ words
  pub both_accepted : read_answers words ≡ written_answers triples
  pub accepted : read_answers words ≡ 0 ∷ 0 ∷ 0 ∷ 0 ∷ 0 ∷ 0 ∷ 0 ∷ 0 ∷ 0 ∷ 0 ∷ 0 ∷ 0 ∷ 0 ∷ 0 ∷ 0 ∷ 0 ∷ 0 ∷ 0 ∷ 0 ∷ []

pub triples_rows : Triples
unfolding computed read written read_answers written_answers words triples
triples_rows = record { word_reads = refl; numbers_write = refl; both_accepted = refl; accepted = refl }

-- ---- refused

-- a kind that is no event's; a bit beyond the node of an on, an off and a timer; bits 6 and 13 of a polite off; bit 12 of a notice and
-- a contact; the timers 1 and 5; bits 10 and 11 of a loss and a delivery
pub no_events : List ℕ
no_events =
    0x00000000
    ∷ 0x80000005
    ∷ 0x90000040
    ∷ 0xA0000040
    ∷ 0xA0001040
    ∷ 0xA0002005
    ∷ 0xA0003005
    ∷ 0xB0001185
    ∷ 0xC0001185
    ∷ 0xD0000045
    ∷ 0xD0001005
    ∷ 0xD0005005
    ∷ 0xD0008005
    ∷ 0xF0000405
    ∷ 0xE0000805
    ∷ []

-- kinds 0, 8 and 16; a third number of an on and a loss, and 2 for an off and a delivery; the node 64, in each place; the timers 1 and 5;
-- the position 1,024
pub no_triples : List Parts
no_triples =
    triple 0 0 0
    ∷ triple 8 5 0
    ∷ triple 16 5 0
    ∷ triple 9 5 1
    ∷ triple 15 5 1
    ∷ triple 10 5 2
    ∷ triple 14 5 2
    ∷ triple 9 64 0
    ∷ triple 10 64 0
    ∷ triple 10 64 1
    ∷ triple 11 64 5
    ∷ triple 11 5 64
    ∷ triple 12 64 5
    ∷ triple 12 5 64
    ∷ triple 13 64 0
    ∷ triple 13 5 1
    ∷ triple 13 5 5
    ∷ triple 14 1024 0
    ∷ triple 14 1024 1
    ∷ triple 15 1024 0
    ∷ []

pub record Refused : Type 0 where
  -- "4. Not an event: kind, timer or unnamed bit"; "an event reading no event"
  pub not_read : read_answers no_events ≡ 4 ∷ 4 ∷ 4 ∷ 4 ∷ 4 ∷ 4 ∷ 4 ∷ 4 ∷ 4 ∷ 4 ∷ 4 ∷ 4 ∷ 4 ∷ 4 ∷ 4 ∷ []
  pub none_read : read (0x80000005 ∷ 0x90000040 ∷ 0xD0001005 ∷ []) ≡ triple 0 0 0 ∷ triple 0 0 0 ∷ triple 0 0 0 ∷ []
  -- "when writing, a part too big"; "a word writer 0"
  pub not_written :
      written_answers no_triples ≡ 4 ∷ 4 ∷ 4 ∷ 4 ∷ 4 ∷ 4 ∷ 4 ∷ 4 ∷ 4 ∷ 4 ∷ 4 ∷ 4 ∷ 4 ∷ 4 ∷ 4 ∷ 4 ∷ 4 ∷ 4 ∷ 4 ∷ 4 ∷ []
  pub none_written : written (triple 16 5 0 ∷ triple 9 5 1 ∷ triple 13 5 1 ∷ []) ≡ 0 ∷ 0 ∷ 0 ∷ []
  -- "5. Contact or notice where both stands are one."
  pub one_node : read_answers (0xB0000145 ∷ 0xC0000145 ∷ []) ≡ 5 ∷ 5 ∷ []
  pub one_node_read : read (0xB0000145 ∷ 0xC0000145 ∷ []) ≡ triple 0 0 0 ∷ triple 0 0 0 ∷ []
  pub one_node_written : written_answers (triple 11 5 5 ∷ triple 12 63 63 ∷ []) ≡ 5 ∷ 5 ∷ []
  pub none_written_of_one : written (triple 11 5 5 ∷ triple 12 63 63 ∷ []) ≡ 0 ∷ 0 ∷ []
  -- "The lowest number that applies is given"; two equal numbers are one node twice in a notice and a contact alone
  pub lowest : written_answers (triple 11 64 64 ∷ triple 10 1 1 ∷ triple 13 3 3 ∷ triple 14 1 1 ∷ []) ≡ 4 ∷ 0 ∷ 0 ∷ 0 ∷ []

pub refused : Refused
unfolding computed read written read_answers written_answers no_events no_triples
refused =
    record {
      not_read = refl;
      none_read = refl;
      not_written = refl;
      none_written = refl;
      one_node = refl;
      one_node_read = refl;
      one_node_written = refl;
      none_written_of_one = refl;
      lowest = refl;
    }
