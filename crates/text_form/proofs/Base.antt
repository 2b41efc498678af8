-- Computed rows: texts and their scripts, texts and their faults, scripts and their texts.
use Prim.Native.Nat.{ℕ, zero, suc}
use Prim.Native.Char.{code}
use Prim.Native.String as native
use Prim.Native.String.{String}
use mathlib.Core.Path.{◌≡◌, refl}
use mathlib.Core.List.{List, [], ◌∷◌, ◌++◌}
use Rattle.bench_lines.specs.Decimal
use Rattle.model.specs.Answers
use Rattle.model.specs.Bench
use Rattle.model.specs.Events
use Rattle.model.specs.Sets
use Rattle.std.specs.Prelude.{if◌then◌else◌}
use Rattle.model.specs.Words
use Rattle.text_form.specs.Assemble
use Rattle.text_form.specs.Describe
use Rattle.text_form.specs.declared.Expected.{Expected}
use Rattle.text_form.specs.declared.Expected.TheVariants as expected

-- the bytes of a text in ASCII
unfoldable pub ascii : String → List ℕ
ascii native.[] = []
ascii (native.◌∷◌ c s) = code c ∷ ascii s

-- `unfolding computed` opens every definition, for what is shown by computing
unfoldable pub computed : Unit {0}
unfolding ascii Decimal.decimal_in Decimal.decimal Decimal.spaced Sets.all Words.head_word Words.key_word Words.in_range
    Words.keys_differ Answers.first_of Events.event_of Bench.little_endian Bench.script_table Bench.script_answer
    Describe.event_text Describe.raw_text Describe.word_text Describe.word_lines Describe.keys_text Describe.opening_text
    Describe.hex_bytes Describe.tail_text Describe.words_text Describe.describe Assemble.grown Assemble.packed
    Assemble.digit_of Assemble.is_number Assemble.spelled_by Assemble.spelled Assemble.named_in Assemble.stage_after
    Assemble.expected_at Assemble.pairs_of Assemble.line_given Assemble.start Assemble.stopped Assemble.begun_by Assemble.begun
    Assemble.part_read Assemble.continued Assemble.token_ended Assemble.complete Assemble.line_ended Assemble.commented
    Assemble.grown_by Assemble.byte_read Assemble.word_bytes Assemble.key_bytes Assemble.tail_bytes Assemble.given_bytes
    Assemble.given_keys Assemble.advanced Assemble.text_read Assemble.closed Assemble.assemble
computed = tt

-- ---- a text: its script, or its fault by the line and what was expected there

pub data Outcome : Type 0 where
  script : List ℕ → Outcome
  fault : ℕ → Expected → Outcome

-- the script in words
unfoldable pub outcome_of : List ℕ → Outcome
outcome_of text =
    let p = Assemble.assemble text in
    if p.reader.fault
    then fault p.reader.line (Assemble.expected_at p.reader)
    else script (Bench.little_endian p.script)

unfoldable pub outcome : String → Outcome
outcome s = outcome_of (ascii s)

unfoldable pub bytes_of : String → List ℕ
bytes_of s = (Assemble.assemble (ascii s)).script

pub opening : List ℕ
opening = 0x10400031 ∷ 0x2000000A ∷ 0x20000014 ∷ 0x2000001E ∷ []

pub record Scripts : Type 0 where
  -- the worked example of document 01, with A = B = 1
  pub worked_example :
      outcome "sides 1 1\nkeys 10 20 30\non 0\non 1\ncontact 0 1\ndeliver 0\ndeliver 0\ndeliver 0\n"
      ≡ script (opening ++ 0x90000000 ∷ 0x90000001 ∷ 0xC0000040 ∷ 0xE0000000 ∷ 0xE0000000 ∷ 0xE0000000 ∷ [])
  -- a word's bytes, the lowest first
  pub lowest_first : bytes_of "word 10400031\n" ≡ 0x31 ∷ 0x00 ∷ 0x40 ∷ 0x10 ∷ []
  -- comments, blank lines, tabs, spaces, and a last line with no newline
  pub spread :
      outcome "# a stage\n\n  sides\t1   1 # both\n\t\nkeys 10#on 5\nkeys 20 30\r\n#\n\ton  1  "
      ≡ script (opening ++ 0x90000001 ∷ [])
  -- the sides ahead and behind
  pub two_sides : outcome "sides 2 3\nkeys 7" ≡ script (0x10C00012 ∷ 0x20000007 ∷ [])
  pub biggest : outcome "sides 8 8\nkeys 16777215\non 63\nlose 1023" ≡ script (0x12000018 ∷ 0x20FFFFFF ∷ 0x9000003F ∷ 0xF00003FF ∷ [])
  -- an opening alone, and a text with no line
  pub no_events : outcome "sides 1 1\nkeys 10 20\nkeys 30\n" ≡ script opening
  pub no_lines : outcome "" ≡ script []
  pub comment_alone : outcome "# nothing" ≡ script []
  -- the events whose parts could be confused
  pub node_off_lem : outcome "sides 1 1\nkeys 1\noff 2" ≡ script (0x10400011 ∷ 0x20000001 ∷ 0xA0000002 ∷ [])
  pub polite : outcome "sides 1 1\nkeys 1\nleave 2" ≡ script (0x10400011 ∷ 0x20000001 ∷ 0xA0001002 ∷ [])
  pub told : outcome "sides 1 1\nkeys 1\nnotice 2 3" ≡ script (0x10400011 ∷ 0x20000001 ∷ 0xB00000C2 ∷ [])
  pub echoed : outcome "sides 1 1\nkeys 1\necho 1023" ≡ script (0x10400011 ∷ 0x20000001 ∷ 0xE00007FF ∷ [])
  pub timed : outcome "sides 1 1\nkeys 1\ntimer 3 at 2" ≡ script (0x10400011 ∷ 0x20000001 ∷ 0xD0003002 ∷ [])
  -- digits in either case, leading zeros, no opening
  pub either_case : outcome "word aBcDeF09\nword 0000000f" ≡ script (0xABCDEF09 ∷ 0x0000000F ∷ [])
  pub zeros : outcome "sides 01 1\nkeys 00000010\non 007" ≡ script (0x10400011 ∷ 0x2000000A ∷ 0x90000007 ∷ [])
  -- tails: the bytes in their order
  pub one_byte : bytes_of "tail 0a" ≡ 0x0A ∷ []
  pub two_bytes : bytes_of "tail 1234" ≡ 0x12 ∷ 0x34 ∷ []
  pub three_bytes : bytes_of "word 00000001\ntail 12AbfF\n" ≡ 1 ∷ 0 ∷ 0 ∷ 0 ∷ 0x12 ∷ 0xAB ∷ 0xFF ∷ []

pub scripts : Scripts
unfolding computed outcome outcome_of bytes_of opening
scripts =
    record {
      worked_example = refl;
      lowest_first = refl;
      spread = refl;
      two_sides = refl;
      biggest = refl;
      no_events = refl;
      no_lines = refl;
      comment_alone = refl;
      node_off_lem = refl;
      polite = refl;
      told = refl;
      echoed = refl;
      timed = refl;
      either_case = refl;
      zeros = refl;
      one_byte = refl;
      two_bytes = refl;
      three_bytes = refl;
    }

pub record Faults : Type 0 where
  pub node_64 : outcome "sides 1 1\nkeys 1\non 64\n" ≡ fault 3 expected.Node
  pub node_none : outcome "sides 1 1\nkeys 1\non # who\n" ≡ fault 3 expected.Node
  pub node_no_number : outcome "sides 1 1\nkeys 1\n\non 1a\n" ≡ fault 4 expected.Node
  pub second_node_none : outcome "sides 1 1\nkeys 1\ncontact 1\non 1" ≡ fault 3 expected.Node
  pub third_part : outcome "sides 1 1\nkeys 1\ncontact 1 2 3\n" ≡ fault 3 expected.LineEnd
  pub timer_1 : outcome "sides 1 1\nkeys 1\ntimer 1 at 2" ≡ fault 3 expected.Timer
  pub timer_5 : outcome "sides 1 1\nkeys 1\ntimer 5 at 2" ≡ fault 3 expected.Timer
  pub timer_no_at : outcome "sides 1 1\nkeys 1\ntimer 2 2" ≡ fault 3 expected.At
  pub position_1024 : outcome "sides 1 1\nkeys 1\ndeliver 1024" ≡ fault 3 expected.Position
  pub echo_1024 : outcome "sides 1 1\nkeys 1\necho 1024" ≡ fault 3 expected.Position
  pub echo_two : outcome "sides 1 1\nkeys 1\necho 1 2" ≡ fault 3 expected.LineEnd
  pub lose_first : outcome "lose 0" ≡ fault 1 expected.Opening
  pub too_early : outcome "\non 0\n" ≡ fault 2 expected.Opening
  pub keys_first : outcome "keys 1" ≡ fault 1 expected.Opening
  pub on_for_keys : outcome "sides 1 1\non 0" ≡ fault 2 expected.Keys
  pub no_keys : outcome "sides 1 1" ≡ fault 2 expected.Keys
  pub key_none : outcome "sides 1 1\nkeys" ≡ fault 2 expected.Key
  pub key_too_big : outcome "sides 1 1\nkeys 16777216" ≡ fault 2 expected.Key
  pub side_0 : outcome "sides 0 1" ≡ fault 1 expected.Side
  pub side_9 : outcome "sides 1 9" ≡ fault 1 expected.Side
  pub sides_again : outcome "sides 1 1\nkeys 1\nsides 1 1" ≡ fault 3 expected.Event
  pub keys_late : outcome "sides 1 1\nkeys 1\non 0\nkeys 2" ≡ fault 4 expected.Event
  pub keys_after_words : outcome "word 00000000\nkeys 2" ≡ fault 2 expected.Event
  pub unknown : outcome "sides 1 1\nkeys 1\nOn 1" ≡ fault 3 expected.Event
  pub nine_bytes : outcome "sides 1 1\nkeys 000000010" ≡ fault 2 expected.Key
  pub seven_digits : outcome "word 1234567" ≡ fault 1 expected.Word
  pub nine_digits : outcome "word 123456789" ≡ fault 1 expected.Word
  pub no_digit : outcome "word 1234567g" ≡ fault 1 expected.Word
  pub colon : outcome "word 1234567:" ≡ fault 1 expected.Word
  pub no_blank : outcome "sides 1 1\nkeys 1!2" ≡ fault 2 expected.Key
  pub tail_of_4 : outcome "tail 12345678" ≡ fault 1 expected.Tail
  pub three_digits : outcome "tail 123" ≡ fault 1 expected.Tail
  pub five_digits : outcome "tail 12345" ≡ fault 1 expected.Tail
  pub tail_of_7_digits : outcome "tail 1234567" ≡ fault 1 expected.Tail
  pub tail_no_digit : outcome "tail 1g" ≡ fault 1 expected.Tail
  pub after_tail : outcome "tail 12\n\nword 00000000" ≡ fault 3 expected.NoLine

pub faults : Faults
unfolding computed outcome outcome_of
faults =
    record {
      node_64 = refl;
      node_none = refl;
      node_no_number = refl;
      second_node_none = refl;
      third_part = refl;
      timer_1 = refl;
      timer_5 = refl;
      timer_no_at = refl;
      position_1024 = refl;
      echo_1024 = refl;
      echo_two = refl;
      lose_first = refl;
      too_early = refl;
      keys_first = refl;
      on_for_keys = refl;
      no_keys = refl;
      key_none = refl;
      key_too_big = refl;
      side_0 = refl;
      side_9 = refl;
      sides_again = refl;
      keys_late = refl;
      keys_after_words = refl;
      unknown = refl;
      nine_bytes = refl;
      seven_digits = refl;
      nine_digits = refl;
      no_digit = refl;
      colon = refl;
      no_blank = refl;
      tail_of_4 = refl;
      three_digits = refl;
      five_digits = refl;
      tail_of_7_digits = refl;
      tail_no_digit = refl;
      after_tail = refl;
    }

-- eight keys to a line, and more of them
pub eights : ℕ → List ℕ
eights zero = []
eights (suc k) = ascii "keys 1 2 3 4 5 6 7 8\n" ++ eights k

pub key_64 : outcome_of (ascii "sides 1 1\n" ++ eights 7 ++ ascii "keys 1 2 3 4 5 6 7\nkeys 8\nkey") ≡ fault 11 expected.Event
unfolding computed outcome outcome_of eights
key_64 = refl

pub key_65 : outcome_of (ascii "sides 1 1\n" ++ eights 8 ++ ascii "keys 9\n") ≡ fault 10 expected.Event
unfolding computed outcome outcome_of eights
key_65 = refl

pub key_65_in_a_line : outcome_of (ascii "sides 1 1\nkeys 1\n" ++ eights 8) ≡ fault 10 expected.LineEnd
unfolding computed outcome outcome_of eights
key_65_in_a_line = refl

-- ---- a script and its text

-- the words, then a tail
pub text_of : List ℕ → List ℕ → List ℕ
text_of ws tail = Describe.describe (bytes ws ++ tail)
  where
    bytes : List ℕ → List ℕ
    bytes [] = []
    bytes (v ∷ vs) = Assemble.word_bytes v ++ bytes vs

-- the keys of nine nodes
pub nine : List ℕ
nine = 0x10400091 ∷ 0x20000001 ∷ 0x20000002 ∷ 0x20000003 ∷ 0x20000004 ∷ 0x20000005 ∷ 0x20000006 ∷ 0x20000007 ∷ 0x20000008 ∷ 0x20000009 ∷ []

pub record Texts : Type 0 where
  pub opens_a_ring :
      text_of (opening ++ 0x90000000 ∷ 0xA0000001 ∷ 0xC0000040 ∷ 0xB00000C2 ∷ 0xE0000000 ∷ 0xE0000403 ∷ 0xF0000011 ∷ []) []
      ≡ ascii "sides 1 1\nkeys 10 20 30\non 0\noff 1\ncontact 0 1\nnotice 2 3\ndeliver 0\necho 3\nlose 17\n"
  pub two_sides : text_of (0x10C00012 ∷ 0x20000100 ∷ []) [] ≡ ascii "sides 2 3\nkeys 256\n"
  pub eight_to_a_line : text_of nine [] ≡ ascii "sides 1 1\nkeys 1 2 3 4 5 6 7 8\nkeys 9\n"
  pub timed : text_of (opening ++ 0xD0003002 ∷ []) [] ≡ ascii "sides 1 1\nkeys 10 20 30\ntimer 3 at 2\n"
  pub polite : text_of (opening ++ 0xA0001002 ∷ []) [] ≡ ascii "sides 1 1\nkeys 10 20 30\nleave 2\n"
  pub with_itself : text_of (opening ++ 0xC0000041 ∷ []) [] ≡ ascii "sides 1 1\nkeys 10 20 30\ncontact 1 1\n"
  pub no_events :
      text_of (opening ++ 0xD0001002 ∷ 0x90000040 ∷ 0x0000ABCD ∷ []) []
      ≡ ascii "sides 1 1\nkeys 10 20 30\nword d0001002\nword 90000040\nword 0000abcd\n"
  pub tail_after_keys : text_of opening (0x12 ∷ 0xAB ∷ []) ≡ ascii "sides 1 1\nkeys 10 20 30\ntail 12ab\n"
  -- a key is missing, one is twice there, there is a message, and the first word is no head
  pub key_missing : text_of (0x10400021 ∷ 0x2000000A ∷ []) (0 ∷ []) ≡ ascii "word 10400021\nword 2000000a\ntail 00\n"
  pub key_twice : text_of (0x10400021 ∷ 0x2000000A ∷ 0x2000000A ∷ []) [] ≡ ascii "word 10400021\nword 2000000a\nword 2000000a\n"
  pub message_there : text_of (0x10400811 ∷ 0x2000000A ∷ []) [] ≡ ascii "word 10400811\nword 2000000a\n"
  pub no_head : text_of (0x90000000 ∷ []) (1 ∷ 2 ∷ 0xF3 ∷ []) ≡ ascii "word 90000000\ntail 0102f3\n"
  pub no_word : text_of [] [] ≡ []

pub texts : Texts
unfolding computed opening nine text_of
texts =
    record {
      opens_a_ring = refl;
      two_sides = refl;
      eight_to_a_line = refl;
      timed = refl;
      polite = refl;
      with_itself = refl;
      no_events = refl;
      tail_after_keys = refl;
      key_missing = refl;
      key_twice = refl;
      message_there = refl;
      no_head = refl;
      no_word = refl;
    }
