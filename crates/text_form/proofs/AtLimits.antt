-- Computed rows: lines at their limits and one beyond, which line may follow which, and which words have a line of their own.
use Prim.Native.Nat.{ℕ}
use Prim.Native.String.{String}
use mathlib.Core.Path.{◌≡◌, refl}
use mathlib.Core.List.{List, [], ◌∷◌, ◌++◌, map}
use Rattle.text_form.specs.Assemble
use Rattle.text_form.specs.Describe
use Rattle.text_form.specs.declared.Expected.TheVariants as expected
use Rattle.text_form.proofs.Base.{ascii, computed, Outcome, script, fault, outcome_of, outcome, bytes_of}

-- lines after an opening of one node, whose words are `one`
pub later : String → Outcome
later s = outcome_of (ascii "sides 1 1\nkeys 1\n" ++ ascii s)

pub one : List ℕ
one = 0x10400011 ∷ 0x20000001 ∷ []

pub record Lines : Type 0 where
  -- each line of the table, at the greatest numbers that it may have
  pub greatest :
      outcome_of
      (ascii "sides 8 1\nkeys 0 16777215\non 63\noff 63\nleave 63\nnotice 63 62\ncontact 62 63\n"
      ++ ascii "timer 4 at 63\ndeliver 1023\necho 1023\nlose 1023\nword ffffffff")
      ≡ script
      (0x10400028
      ∷ 0x20000000
      ∷ 0x20FFFFFF
      ∷ 0x9000003F
      ∷ 0xA000003F
      ∷ 0xA000103F
      ∷ 0xB0000FBF
      ∷ 0xC0000FFE
      ∷ 0xD000403F
      ∷ 0xE00003FF
      ∷ 0xE00007FF
      ∷ 0xF00003FF
      ∷ 0xFFFFFFFF
      ∷ [])
  -- "timer k, 0, 2, 3 or 4, at node x"
  pub timers :
      later "timer 0 at 5\ntimer 2 at 6\ntimer 3 at 7\ntimer 4 at 8"
      ≡ script (one ++ 0xD0000005 ∷ 0xD0002006 ∷ 0xD0003007 ∷ 0xD0004008 ∷ [])
  -- "`sides A B` .. each 1 to 8", "1 to 64" keys, below 2 ^ 24
  pub sides_beyond :
      map outcome ("sides 9 1\nkeys 1" ∷ "sides 1 0\nkeys 1" ∷ "sides 64 1\nkeys 1" ∷ "sides 1 1\nkeys 1 16777216" ∷ [])
      ≡ fault 1 expected.Side ∷ fault 1 expected.Side ∷ fault 1 expected.Side ∷ fault 2 expected.Key ∷ []
  -- the node 64, in each place
  pub nodes_beyond :
      map later
      ("off 64" ∷ "leave 64" ∷ "notice 64 1" ∷ "notice 1 64" ∷ "contact 64 1" ∷ "contact 1 64" ∷ "timer 0 at 64" ∷ [])
      ≡ fault 3 expected.Node
      ∷ fault 3 expected.Node
      ∷ fault 3 expected.Node
      ∷ fault 3 expected.Node
      ∷ fault 3 expected.Node
      ∷ fault 3 expected.Node
      ∷ fault 3 expected.Node
      ∷ []
  -- the position 1,024, and one of eight digits
  pub positions_beyond :
      map later ("lose 1024" ∷ "lose 99999999" ∷ []) ≡ fault 3 expected.Position ∷ fault 3 expected.Position ∷ []
  -- a third node, a second position, a second word, a second tail on the line
  pub one_too_many :
      map later
      ("on 1 2" ∷ "off 1 2" ∷ "leave 1 2" ∷ "notice 1 2 3" ∷ "timer 2 at 1 2" ∷ "deliver 1 2" ∷ "lose 1 2"
      ∷ "word 00000000 1" ∷ "tail 12 34" ∷ [])
      ≡ fault 3 expected.LineEnd
      ∷ fault 3 expected.LineEnd
      ∷ fault 3 expected.LineEnd
      ∷ fault 3 expected.LineEnd
      ∷ fault 3 expected.LineEnd
      ∷ fault 3 expected.LineEnd
      ∷ fault 3 expected.LineEnd
      ∷ fault 3 expected.LineEnd
      ∷ fault 3 expected.LineEnd
      ∷ []

pub lines : Lines
unfolding computed outcome outcome_of later one
lines =
    record {
      greatest = refl;
      timers = refl;
      sides_beyond = refl;
      nodes_beyond = refl;
      positions_beyond = refl;
      one_too_many = refl;
    }

pub record Order : Type 0 where
  -- "a text may begin with words in the place of sides and keys", and go on with any event
  pub words_first : outcome "word 00000000\non 1\ntail 12" ≡ script (0x00000000 ∷ 0x90000001 ∷ [])
  -- after `sides` only `keys` may stand
  pub after_sides :
      map outcome ("sides 1 1\nword 00000000" ∷ "sides 1 1\ntail 12" ∷ "sides 1 1\nsides 1 1" ∷ "sides 1 1\nkey 1" ∷ [])
      ≡ fault 2 expected.Keys ∷ fault 2 expected.Keys ∷ fault 2 expected.Keys ∷ fault 2 expected.Keys ∷ []
  -- a word and a tail after keys: the opening comes first
  pub word_after_keys : later "word 90000040" ≡ script (one ++ 0x90000040 ∷ [])
  pub tail_after_keys : bytes_of "sides 1 1\nkeys 1\ntail 0aF0" ≡ 0x11 ∷ 0x00 ∷ 0x40 ∷ 0x10 ∷ 0x01 ∷ 0 ∷ 0 ∷ 0x20 ∷ 0x0A ∷ 0xF0 ∷ []
  -- what no line begins with, wherever a line may stand, and the sides after events
  pub unknown_line :
      map outcome ("key 1" ∷ "word 00000000\nwords" ∷ "word 00000000\nsides 1 1" ∷ "word 00000000\nontology 1" ∷ "contacting 1 2" ∷ [])
      ≡ fault 1 expected.Opening ∷ fault 2 expected.Event ∷ fault 2 expected.Event ∷ fault 2 expected.Event ∷ fault 1 expected.Opening ∷ []
  -- "at the very end one to three bytes": none, half a one, and four; nothing after it but empty lines and comments
  pub tail_of_none :
      map outcome ("tail" ∷ "tail # 12" ∷ "tail 1" ∷ "tail 12345678" ∷ [])
      ≡ fault 1 expected.Tail ∷ fault 1 expected.Tail ∷ fault 1 expected.Tail ∷ fault 1 expected.Tail ∷ []
  pub after_tail :
      map outcome ("tail 12\ntail 34" ∷ "tail 12\non 1" ∷ "tail 12\nkeys 1" ∷ "tail 12\nsides 1 1" ∷ "tail 12\nnone" ∷ [])
      ≡ fault 2 expected.NoLine ∷ fault 2 expected.NoLine ∷ fault 2 expected.NoLine ∷ fault 2 expected.NoLine ∷ fault 2 expected.NoLine ∷ []
  pub nothing_after_tail : bytes_of " tail  12  # one byte\n\n  # the end\n" ≡ 0x12 ∷ []
  -- what follows a "#" does not matter, so that a part is missing
  pub comment_cuts :
      map later ("timer 2#at 1" ∷ "timer 2 at#1" ∷ "notice 1#2" ∷ "off#1" ∷ [])
      ≡ fault 3 expected.At ∷ fault 3 expected.Node ∷ fault 3 expected.Node ∷ fault 3 expected.Node ∷ []
  -- a byte beside the digits is none: "/", "0", "9", ":", "@", "A", "F", "G", "`", "a", "f" and "g"
  pub digits :
      map Assemble.digit_of (47 ∷ 48 ∷ 57 ∷ 58 ∷ 64 ∷ 65 ∷ 70 ∷ 71 ∷ 96 ∷ 97 ∷ 102 ∷ 103 ∷ [])
      ≡ 16 ∷ 0 ∷ 9 ∷ 16 ∷ 16 ∷ 10 ∷ 15 ∷ 16 ∷ 16 ∷ 10 ∷ 15 ∷ 16 ∷ []

pub order : Order
unfolding computed outcome outcome_of bytes_of later one
order =
    record {
      words_first = refl;
      after_sides = refl;
      word_after_keys = refl;
      tail_after_keys = refl;
      unknown_line = refl;
      tail_of_none = refl;
      after_tail = refl;
      nothing_after_tail = refl;
      comment_cuts = refl;
      digits = refl;
    }

pub record WordTexts : Type 0 where
  -- an event of each kind, at the greatest numbers
  pub events :
      map Describe.word_text
      (0x9000003F
      ∷ 0xA000003F
      ∷ 0xA000103F
      ∷ 0xB0000FBF
      ∷ 0xC0000FFE
      ∷ 0xD000003F
      ∷ 0xD000203F
      ∷ 0xD000303F
      ∷ 0xD000403F
      ∷ 0xE00003FF
      ∷ 0xE00007FF
      ∷ 0xF00003FF
      ∷ [])
      ≡ ascii "on 63"
      ∷ ascii "off 63"
      ∷ ascii "leave 63"
      ∷ ascii "notice 63 62"
      ∷ ascii "contact 62 63"
      ∷ ascii "timer 0 at 63"
      ∷ ascii "timer 2 at 63"
      ∷ ascii "timer 3 at 63"
      ∷ ascii "timer 4 at 63"
      ∷ ascii "deliver 1023"
      ∷ ascii "echo 1023"
      ∷ ascii "lose 1023"
      ∷ []
  -- a notice of a node with itself has a line, since a line can say it
  pub with_itself : Describe.word_text 0xB0000145 ≡ ascii "notice 5 5"
  -- "any word, also one that is no event": another kind, a bit too many, no such timer
  pub no_events :
      map Describe.word_text
      (0x10400031
      ∷ 0x2000000A
      ∷ 0x80000000
      ∷ 0x90000040
      ∷ 0xA0001040
      ∷ 0xA0002000
      ∷ 0xB0001040
      ∷ 0xC0001040
      ∷ 0xD0001002
      ∷ 0xD0005002
      ∷ 0xD0000042
      ∷ 0xE0000800
      ∷ 0xF0000400
      ∷ [])
      ≡ ascii "word 10400031"
      ∷ ascii "word 2000000a"
      ∷ ascii "word 80000000"
      ∷ ascii "word 90000040"
      ∷ ascii "word a0001040"
      ∷ ascii "word a0002000"
      ∷ ascii "word b0001040"
      ∷ ascii "word c0001040"
      ∷ ascii "word d0001002"
      ∷ ascii "word d0005002"
      ∷ ascii "word d0000042"
      ∷ ascii "word e0000800"
      ∷ ascii "word f0000400"
      ∷ []

pub word_texts : WordTexts
unfolding computed
word_texts = record { events = refl; with_itself = refl; no_events = refl }
