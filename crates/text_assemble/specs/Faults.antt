-- The line of a fault: its number, and what was expected there. The texts are in ASCII.
use Rattle.std.specs.Prelude.{ℕ, ◌-◌, ◌&&◌, List, [], ◌∷◌, ◌++◌, eqb, ltb, if◌then◌else◌}
use Rattle.bench_lines.specs.Decimal.{decimal, newline}
use Rattle.text_form.specs.Ascii.{ascii}
use Rattle.text_form.specs.declared.Expected.{Expected}
use Rattle.text_form.specs.declared.Expected.TheVariants as expected
use Rattle.text_form.specs.declared.Reader.{Reader}

abbrev pub line_word : List ℕ
line_word = ascii "line "

abbrev pub expected_word : List ℕ
expected_word = ascii ": expected "

abbrev pub expected_text : Expected → List ℕ
expected_text expected.Opening = ascii "sides, word or tail"
expected_text expected.Keys = ascii "keys"
expected_text expected.Event = ascii "on, off, leave, notice, contact, timer, deliver, echo, lose, word or tail"
expected_text expected.NoLine = ascii "nothing after the tail"
expected_text expected.Side = ascii "a side from 1 to 8"
expected_text expected.Key = ascii "a key from 0 to 16777215"
expected_text expected.Node = ascii "a node from 0 to 63"
expected_text expected.Timer = ascii "a timer: 0, 2, 3 or 4"
expected_text expected.At = ascii "at"
expected_text expected.Position = ascii "a position from 0 to 1023"
expected_text expected.Word = ascii "eight hexadecimal digits"
expected_text expected.Tail = ascii "two, four or six hexadecimal digits"
expected_text expected.LineEnd = ascii "the end of the line"

-- A fault with no token, before the first word of a line, is the end of a text: the reader is one line past it, since a
-- newline was read as if it followed.
unfoldable pub fault_line : Reader → ℕ
fault_line r = if eqb r.place 0 && eqb r.token 0 && ltb 1 r.line then r.line - 1 else r.line

unfoldable pub fault_bytes : ℕ → Expected → List ℕ
fault_bytes line e = line_word ++ decimal line ++ expected_word ++ expected_text e ++ newline ∷ []
