-- The text of a script.
use Rattle.std.specs.Prelude.{ℕ, ◌+◌, ◌*◌, ◌%◌, true, false, List, [], ◌∷◌, ◌++◌, eqb, length, drop, if◌then◌else◌}
use Rattle.io.specs.Digits.{last_digits}
use Rattle.bench_lines.specs.Decimal.{space, newline, spaced}
use Rattle.model.specs.Leafset.{Table, size}
use Rattle.model.specs.Answers.{is_accepted}
use Rattle.model.specs.Events.{event_of, is_event_word}
use Rattle.model.specs.Bench.{little_endian, script_table, script_answer}
use Rattle.model.specs.declared.event.Event.{Event}
use Rattle.model.specs.declared.event.Event.TheVariants.{On, Off, Notice, Contact, Timer, Deliver, Lose}
use Rattle.text_form.specs.Names.{sides_name, keys_name, on_name, off_name, leave_name, notice_name, contact_name}
use Rattle.text_form.specs.Names.{timer_name, at_name, deliver_name, echo_name, lose_name, word_name, tail_name}

-- an event
unfoldable pub event_text : Event → List ℕ
event_text (On x) = on_name ++ spaced (x.0 ∷ [])
event_text (Off x false) = off_name ++ spaced (x.0 ∷ [])
event_text (Off x true) = leave_name ++ spaced (x.0 ∷ [])
event_text (Notice x z) = notice_name ++ spaced (x.0 ∷ z.0 ∷ [])
event_text (Contact x y) = contact_name ++ spaced (x.0 ∷ y.0 ∷ [])
event_text (Timer x k) = timer_name ++ spaced (k ∷ []) ++ space ∷ at_name ++ spaced (x.0 ∷ [])
event_text (Deliver i false) = deliver_name ++ spaced (i ∷ [])
event_text (Deliver i true) = echo_name ++ spaced (i ∷ [])
event_text (Lose i) = lose_name ++ spaced (i ∷ [])

-- any word, in eight hexadecimal digits
unfoldable pub raw_text : ℕ → List ℕ
raw_text w = word_name ++ space ∷ last_digits 16 8 w

-- an event word as its event, another word as it is
unfoldable pub word_text : ℕ → List ℕ
word_text w = if is_event_word w then event_text (event_of w) else raw_text w

-- a line for each word
unfoldable pub word_lines : (ℕ → List ℕ) → List ℕ → List ℕ
word_lines text [] = []
word_lines text (w ∷ ws) = text w ++ newline ∷ word_lines text ws

-- the keys from key s on, eight to a line
unfoldable pub keys_text : ℕ → List ℕ → List ℕ
keys_text s [] = newline ∷ []
keys_text s (k ∷ ks) = (if eqb (s % 8) 0 then newline ∷ keys_name else []) ++ spaced (k ∷ []) ++ keys_text (s + 1) ks

-- the sides, then the keys
unfoldable pub opening_text : Table → List ℕ
opening_text t = sides_name ++ spaced (t.sides.ahead ∷ t.sides.behind ∷ []) ++ keys_text 0 t.keys

-- the tail of a script, under 4 bytes: two hexadecimal digits for each
unfoldable pub hex_bytes : List ℕ → List ℕ
hex_bytes [] = []
hex_bytes (b ∷ bs) = last_digits 16 2 b ++ hex_bytes bs

unfoldable pub tail_text : List ℕ → List ℕ
tail_text [] = []
tail_text (b ∷ bs) = tail_name ++ space ∷ hex_bytes (b ∷ bs) ++ newline ∷ []

-- the words of a script: where they open a ring, the opening and the events; else each as it is
unfoldable pub words_text : List ℕ → List ℕ
words_text ws =
    if is_accepted (script_answer ws)
    then opening_text (script_table ws) ++ word_lines word_text (drop (1 + size (script_table ws)) ws)
    else word_lines raw_text ws

-- a script, as bytes
unfoldable pub describe : List ℕ → List ℕ
describe bytes = words_text (little_endian bytes) ++ tail_text (drop (4 * length (little_endian bytes)) bytes)
