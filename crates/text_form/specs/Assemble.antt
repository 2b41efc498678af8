-- The script of a text, byte by byte.
use Rattle.std.specs.Prelude.{◌≡◌, Bool, true, false, not, ◌&&◌, ◌||◌, ℕ, zero, suc, ◌+◌, ◌-◌}
use Rattle.std.specs.Prelude.{◌*◌, ◌/◌, ◌%◌, ◌^◌, List, [], ◌∷◌, ◌++◌, ltb, leb, eqb, length, get_or, Option, None, Some, if◌then◌else◌}
use Rattle.std.specs.Option.{option_map_or}
use Rattle.bench_lines.specs.Decimal.{newline}
use Rattle.model.specs.Events.{word_of, is_timer}
use Rattle.model.specs.Words.{head_word, key_word}
use Rattle.model.specs.declared.event.Event.{Event}
use Rattle.model.specs.declared.event.Event.TheVariants as event
use Rattle.model.specs.declared.values.Sides.{Sides}
use Rattle.text_form.specs.declared.Command.{Command}
use Rattle.text_form.specs.declared.Command.TheVariants as command
use Rattle.text_form.specs.declared.Stage.{Stage}
use Rattle.text_form.specs.declared.Stage.TheVariants as stage
use Rattle.text_form.specs.declared.Expected.{Expected}
use Rattle.text_form.specs.declared.Expected.TheVariants as expected
use Rattle.text_form.specs.declared.Given.{Given}
use Rattle.text_form.specs.declared.Given.TheVariants as given
use Rattle.text_form.specs.declared.Reader.{Reader}
use Rattle.text_form.specs.declared.Step.{Step}
use Rattle.text_form.specs.Names.{sides_name, keys_name, on_name, off_name, leave_name, notice_name, contact_name}
use Rattle.text_form.specs.Names.{timer_name, at_name, deliver_name, echo_name, lose_name, word_name, tail_name}

-- ---- tokens

-- A token is a number: its bytes in base 256, the first the highest. No byte of it is 0, so 0 is none, and one of more than eight is `too_long`.
abbrev pub too_long : ℕ
too_long = 2 ^ 64 - 1

unfoldable pub grown : ℕ → ℕ → ℕ
grown t b = if ltb t (2 ^ 56) then t * 2 ^ 8 + b else too_long

-- the token t, with these bytes after it
unfoldable pub packed : ℕ → List ℕ → ℕ
packed t [] = t
packed t (b ∷ bs) = packed (grown t b) bs

abbrev pub named : List ℕ → ℕ → Bool
named name t = eqb t (packed 0 name)

-- the digit of a byte, in either case; 16 is none
unfoldable pub digit_of : ℕ → ℕ
digit_of b =
    if leb 48 b && leb b 57 then b - 48
    else if leb 65 b && leb b 70 then b - 55
    else if leb 97 b && leb b 102 then b - 87
    else 16

-- each of the k last bytes of a token is a digit, and there are no others
unfoldable pub is_number : ℕ → ℕ → ℕ → Bool
is_number base zero t = eqb t 0
is_number base (suc k) t = eqb t 0 || ltb (digit_of (t % 2 ^ 8)) base && is_number base k (t / 2 ^ 8)

-- the number that they spell
unfoldable pub spelled_by : ℕ → ℕ → ℕ → ℕ
spelled_by base zero t = 0
spelled_by base (suc k) t = if eqb t 0 then 0 else spelled_by base k (t / 2 ^ 8) * base + digit_of (t % 2 ^ 8)

-- the number that a token spells; 2 ^ 32 is none
abbrev pub no_number : ℕ
no_number = 2 ^ 32

unfoldable pub spelled : ℕ → ℕ → ℕ
spelled base t = if is_number base 8 t then spelled_by base 8 t else no_number

-- ---- a line

-- the first words of lines
abbrev pub names : List (List ℕ × Command)
names =
    (sides_name, command.Sides)
    ∷ (keys_name, command.Keys)
    ∷ (on_name, command.On)
    ∷ (off_name, command.Off)
    ∷ (leave_name, command.Leave)
    ∷ (notice_name, command.Notice)
    ∷ (contact_name, command.Contact)
    ∷ (timer_name, command.Timer)
    ∷ (deliver_name, command.Deliver)
    ∷ (echo_name, command.Echo)
    ∷ (lose_name, command.Lose)
    ∷ (word_name, command.Word)
    ∷ (tail_name, command.Tail)
    ∷ []

-- the line whose name the token is, if there is one
unfoldable pub named_in : List (List ℕ × Command) → ℕ → Option Command
named_in [] t = None
named_in (name ∷ rest) t = if named name.0 t then Some name.1 else named_in rest t

abbrev pub command_of : ℕ → Option Command
command_of t = named_in names t

-- what a line has after its first word; further keys may follow the first
abbrev pub parts : Command → List Expected
parts command.Sides = expected.Side ∷ expected.Side ∷ []
parts command.Keys = expected.Key ∷ []
parts command.On = expected.Node ∷ []
parts command.Off = expected.Node ∷ []
parts command.Leave = expected.Node ∷ []
parts command.Notice = expected.Node ∷ expected.Node ∷ []
parts command.Contact = expected.Node ∷ expected.Node ∷ []
parts command.Timer = expected.Timer ∷ expected.At ∷ expected.Node ∷ []
parts command.Deliver = expected.Position ∷ []
parts command.Echo = expected.Position ∷ []
parts command.Lose = expected.Position ∷ []
parts command.Word = expected.Word ∷ []
parts command.Tail = expected.Tail ∷ []

abbrev pub is_sides : Command → Bool
is_sides command.Sides = true
is_sides command.Keys = false
is_sides command.On = false
is_sides command.Off = false
is_sides command.Leave = false
is_sides command.Notice = false
is_sides command.Contact = false
is_sides command.Timer = false
is_sides command.Deliver = false
is_sides command.Echo = false
is_sides command.Lose = false
is_sides command.Word = false
is_sides command.Tail = false

abbrev pub is_keys : Command → Bool
is_keys command.Sides = false
is_keys command.Keys = true
is_keys command.On = false
is_keys command.Off = false
is_keys command.Leave = false
is_keys command.Notice = false
is_keys command.Contact = false
is_keys command.Timer = false
is_keys command.Deliver = false
is_keys command.Echo = false
is_keys command.Lose = false
is_keys command.Word = false
is_keys command.Tail = false

-- what a script without an opening may begin with
abbrev pub is_raw : Command → Bool
is_raw command.Sides = false
is_raw command.Keys = false
is_raw command.On = false
is_raw command.Off = false
is_raw command.Leave = false
is_raw command.Notice = false
is_raw command.Contact = false
is_raw command.Timer = false
is_raw command.Deliver = false
is_raw command.Echo = false
is_raw command.Lose = false
is_raw command.Word = true
is_raw command.Tail = true

-- on, off, leave, notice, contact, timer, deliver, echo, lose, word and tail may stand after the opening
abbrev pub is_later : Command → Bool
is_later c = not (is_sides c) && not (is_keys c)

-- `sides` first, then `keys`, and more of them up to 64 keys; or `word` or `tail` at once. Nothing after `tail`
abbrev pub allowed : Stage → ℕ → Command → Bool
allowed stage.Start keys c = is_sides c || is_raw c
allowed stage.Sides keys c = is_keys c
allowed stage.Keys keys c = is_keys c && ltb keys 64 || is_later c
allowed stage.Events keys c = is_later c
allowed stage.End keys c = false

unfoldable pub stage_after : Command → Stage
stage_after command.Sides = stage.Sides
stage_after command.Keys = stage.Keys
stage_after command.On = stage.Events
stage_after command.Off = stage.Events
stage_after command.Leave = stage.Events
stage_after command.Notice = stage.Events
stage_after command.Contact = stage.Events
stage_after command.Timer = stage.Events
stage_after command.Deliver = stage.Events
stage_after command.Echo = stage.Events
stage_after command.Lose = stage.Events
stage_after command.Word = stage.Events
stage_after command.Tail = stage.End

-- the words of the opening come once it is known how many keys there are: with the first later line
abbrev pub opens : Stage → Command → Bool
opens stage.Start c = false
opens stage.Sides c = false
opens stage.Keys c = not (is_keys c)
opens stage.Events c = false
opens stage.End c = false

-- which line is expected
abbrev pub line_at : Stage → Expected
line_at stage.Start = expected.Opening
line_at stage.Sides = expected.Keys
line_at stage.Keys = expected.Event
line_at stage.Events = expected.Event
line_at stage.End = expected.NoLine

-- what is expected next: a line, a part of one, or its end
unfoldable pub expected_at : Reader → Expected
expected_at r =
    if eqb r.place 0 then line_at r.stage
    else if is_keys r.command then (if ltb r.keys 64 then expected.Key else expected.LineEnd)
    else get_or (parts r.command) (r.place - 1) expected.LineEnd

-- a token of so many bytes: 1, 2 or 3 pairs of digits
unfoldable pub pairs_of : ℕ → ℕ
pairs_of t =
    if leb (2 ^ 8) t && ltb t (2 ^ 16) then 1
    else if leb (2 ^ 24) t && ltb t (2 ^ 32) then 2
    else if leb (2 ^ 40) t && ltb t (2 ^ 48) then 3
    else 0

-- numbers are in decimal, words and tails in hexadecimal
abbrev pub value_of : Expected → ℕ → ℕ
value_of expected.Opening t = no_number
value_of expected.Keys t = no_number
value_of expected.Event t = no_number
value_of expected.NoLine t = no_number
value_of expected.Side t = spelled 10 t
value_of expected.Key t = spelled 10 t
value_of expected.Node t = spelled 10 t
value_of expected.Timer t = spelled 10 t
value_of expected.At t = 0
value_of expected.Position t = spelled 10 t
value_of expected.Word t = spelled 16 t
value_of expected.Tail t = spelled 16 t
value_of expected.LineEnd t = no_number

abbrev pub fits : Expected → ℕ → Bool
fits expected.Opening t = false
fits expected.Keys t = false
fits expected.Event t = false
fits expected.NoLine t = false
fits expected.Side t = leb 1 (spelled 10 t) && leb (spelled 10 t) 8
fits expected.Key t = ltb (spelled 10 t) (2 ^ 24)
fits expected.Node t = ltb (spelled 10 t) 64
fits expected.Timer t = is_timer (spelled 10 t)
fits expected.At t = named at_name t
fits expected.Position t = ltb (spelled 10 t) 1024
fits expected.Word t = leb (2 ^ 56) t && ltb (spelled 16 t) no_number
fits expected.Tail t = not (eqb (pairs_of t) 0) && ltb (spelled 16 t) no_number
fits expected.LineEnd t = false

-- what the line of an event gives
abbrev pub event_given : Event → Given
event_given e = given.Word (word_of e)

-- what a line gives whose first part is a, with its last part, the token t of value b
unfoldable pub line_given : Command → ℕ → ℕ → ℕ → Given
line_given command.Sides a b t = given.Nothing
line_given command.Keys a b t = given.Key b
line_given command.On a b t = event_given (event.On (record { 0 = b }))
line_given command.Off a b t = event_given (event.Off (record { 0 = b }) false)
line_given command.Leave a b t = event_given (event.Off (record { 0 = b }) true)
line_given command.Notice a b t = event_given (event.Notice (record { 0 = a }) (record { 0 = b }))
line_given command.Contact a b t = event_given (event.Contact (record { 0 = a }) (record { 0 = b }))
line_given command.Timer a b t = event_given (event.Timer (record { 0 = b }) a)
line_given command.Deliver a b t = event_given (event.Deliver b false)
line_given command.Echo a b t = event_given (event.Deliver b true)
line_given command.Lose a b t = event_given (event.Lose b)
line_given command.Word a b t = given.Word b
line_given command.Tail a b t = given.Tail (pairs_of t) b

-- ---- a reader

unfoldable pub start : Reader
start =
    record {
      line = 1;
      fault = false;
      comment = false;
      token = 0;
      stage = stage.Start;
      command = command.Sides;
      place = 0;
      first = 0;
      sides = record { ahead = 0; behind = 0 };
      keys = 0;
    }

abbrev pub silent : Reader → Step
silent r = record { reader = r; given = given.Nothing }

-- it stops here
unfoldable pub stopped : Reader → Reader
stopped r =
    record {
      line = r.line;
      fault = true;
      comment = r.comment;
      token = r.token;
      stage = r.stage;
      command = r.command;
      place = r.place;
      first = r.first;
      sides = r.sides;
      keys = r.keys;
    }

-- a line of command c may come, or not
unfoldable pub begun_by : Reader → Command → Step
begun_by r c =
    if allowed r.stage r.keys c
    then record {
      reader =
          record {
            line = r.line;
            fault = false;
            comment = r.comment;
            token = 0;
            stage = stage_after c;
            command = c;
            place = 1;
            first = 0;
            sides = r.sides;
            keys = r.keys;
          };
      given = if opens r.stage c then given.Opening else given.Nothing;
    }
    else silent (stopped r)

-- the first word of a line
unfoldable pub begun : Reader → ℕ → Step
begun r t = option_map_or (begun_by r) (command_of t) (silent (stopped r))

-- so many parts of the line are read, the last with value b: the reader
unfoldable pub part_read : Reader → ℕ → Reader
part_read r b =
    record {
      line = r.line;
      fault = false;
      comment = r.comment;
      token = 0;
      stage = r.stage;
      command = r.command;
      place = if is_keys r.command then 2 else r.place + 1;
      first = if eqb r.place 1 then b else r.first;
      sides = if is_sides r.command && eqb r.place 2 then record { ahead = r.first; behind = b } else r.sides;
      keys = if is_keys r.command then r.keys + 1 else r.keys;
    }

-- the next word of a line: with the last part, the line gives
unfoldable pub continued : Reader → ℕ → Step
continued r t =
    if fits (expected_at r) t
    then record {
      reader = part_read r (value_of (expected_at r) t);
      given =
          if leb (length (parts r.command)) r.place
          then line_given r.command r.first (value_of (expected_at r) t) t
          else given.Nothing;
    }
    else silent (stopped r)

-- a blank, a comment or the line's end ends the token, if there is one
unfoldable pub token_ended : Reader → Step
token_ended r =
    if eqb r.token 0 then silent r
    else if eqb r.place 0 then begun r r.token
    else continued r r.token

-- a line may end before its first word, and after its last part
unfoldable pub complete : Reader → Bool
complete r = eqb r.place 0 || ltb (length (parts r.command)) r.place

unfoldable pub line_ended : Reader → Reader
line_ended r =
    if r.fault then r
    else if complete r
    then record {
      line = r.line + 1;
      fault = false;
      comment = false;
      token = 0;
      stage = r.stage;
      command = r.command;
      place = 0;
      first = r.first;
      sides = r.sides;
      keys = r.keys;
    }
    else stopped r

unfoldable pub commented : Reader → Reader
commented r =
    record {
      line = r.line;
      fault = r.fault;
      comment = true;
      token = r.token;
      stage = r.stage;
      command = r.command;
      place = r.place;
      first = r.first;
      sides = r.sides;
      keys = r.keys;
    }

unfoldable pub grown_by : Reader → ℕ → Reader
grown_by r b =
    record {
      line = r.line;
      fault = r.fault;
      comment = r.comment;
      token = grown r.token b;
      stage = r.stage;
      command = r.command;
      place = r.place;
      first = r.first;
      sides = r.sides;
      keys = r.keys;
    }

abbrev pub after : Step → (Reader → Reader) → Step
after p f = record { reader = f p.reader; given = p.given }

-- "#"
abbrev pub hash : ℕ
hash = 35

-- a byte: a line's end, in a comment, the start of one, a blank (a space or a control character), or one of a token
unfoldable pub byte_read : Reader → ℕ → Step
byte_read r b =
    if r.fault then silent r
    else if eqb b newline then after (token_ended r) line_ended
    else if r.comment then silent r
    else if eqb b hash then after (token_ended r) commented
    else if leb b 32 then token_ended r
    else silent (grown_by r b)

-- ---- a text

-- the four bytes of a word, lowest first
unfoldable pub word_bytes : ℕ → List ℕ
word_bytes w = w % 2 ^ 8 ∷ w / 2 ^ 8 % 2 ^ 8 ∷ w / 2 ^ 16 % 2 ^ 8 ∷ w / 2 ^ 24 % 2 ^ 8 ∷ []

unfoldable pub key_bytes : List ℕ → List ℕ
key_bytes [] = []
key_bytes (k ∷ ks) = word_bytes (key_word k false) ++ key_bytes ks

-- one to three bytes, as their digits are written
unfoldable pub tail_bytes : ℕ → ℕ → List ℕ
tail_bytes zero v = []
tail_bytes (suc k) v = tail_bytes k (v / 2 ^ 8) ++ v % 2 ^ 8 ∷ []

-- what is given, with the sides and the keys so far
unfoldable pub given_bytes : Sides → List ℕ → Given → List ℕ
given_bytes sides keys given.Nothing = []
given_bytes sides keys given.Opening = word_bytes (head_word sides (length keys) 0) ++ key_bytes keys
given_bytes sides keys (given.Key k) = []
given_bytes sides keys (given.Word w) = word_bytes w
given_bytes sides keys (given.Tail k v) = tail_bytes k v

unfoldable pub given_keys : Given → List ℕ
given_keys given.Nothing = []
given_keys given.Opening = []
given_keys (given.Key k) = k ∷ []
given_keys (given.Word w) = []
given_keys (given.Tail k v) = []

-- how far a text is read: the reader, the keys so far, and the bytes of the script so far
pub record Progress : Type 0 where
  pub reader : Reader
  pub keys : List ℕ
  pub script : List ℕ

unfoldable pub advanced : Progress → Step → Progress
advanced p s =
    record {
      reader = s.reader;
      keys = p.keys ++ given_keys s.given;
      script = p.script ++ given_bytes s.reader.sides p.keys s.given;
    }

unfoldable pub text_read : Progress → List ℕ → Progress
text_read p [] = p
text_read p (b ∷ bs) = text_read (advanced p (byte_read p.reader b)) bs

-- the end of a text: keys are missing, or their words are still to come
unfoldable pub closed : Reader → Step
closed r = if r.fault then silent r else by_stage r.stage
  where
    by_stage : Stage → Step
    by_stage stage.Start = silent r
    by_stage stage.Sides = silent (stopped r)
    by_stage stage.Keys = record { reader = r; given = given.Opening }
    by_stage stage.Events = silent r
    by_stage stage.End = silent r

-- a whole text: it is read as if a line's end followed, then closed
unfoldable pub assemble : List ℕ → Progress
assemble text =
    let p : Progress = text_read (record { reader = start; keys = []; script = [] }) (text ++ newline ∷ []) in
    advanced p (closed p.reader)

-- the text is faultless, and this is its script
pub record Assembles (text script : List ℕ) : Type 0 where
  pub faultless : (assemble text).reader.fault ≡ false
  pub gives : (assemble text).script ≡ script
