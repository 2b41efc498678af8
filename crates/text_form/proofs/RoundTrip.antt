-- Assembling what describing wrote gives the same bytes, for every script. A reader at the start of a line stands for the bytes that
-- the lines before it give (`Stands`). Each line of a word takes it to the next line's start, with the word's bytes added (Lines), the lines of
-- an opening take it there with the opening's words still to come (Openings), and a tail's line ends the text (Tails). The words' bytes and the
-- tail are the script (Scripts).
use mathlib.Core.Path.{◌≡◌, refl, sym, ap, ◌∙◌, subst}
use mathlib.Core.Bool.{true, false}
use mathlib.Core.List.{List, [], ◌∷◌, ◌++◌, append-nil, append_assoc}
use Prim.Native.Nat.{ℕ, ◌+◌, ◌*◌, ◌<◌}
use native.Mathlib.Omega.{arith}
use borrow.Author.Tests.{eqb-true}
use lib.Dec.{eqb}
use lib.ListN.{length, drop}
use Rattle.bench_lines.specs.Decimal.{newline}
use Rattle.model.specs.Leafset.{Table, size}
use Rattle.model.specs.WellFormed.{Each, nil, cons}
use Rattle.model.specs.Answers.{is_accepted}
use Rattle.model.specs.Events.{word_of, event_of, is_event_word}
use Rattle.model.specs.Words.{head_word}
use Rattle.model.specs.Bench.{little_endian, script_table, script_answer}
use Rattle.model.specs.declared.values.Sides.{Sides}
use Rattle.model.proofs.Laws.{decide, and_left, and_right}
use Rattle.model.proofs.Lists.{each_drop}
use Rattle.model.proofs.Answers.{accepted_is}
use Rattle.text_form.specs.declared.Command.{Command}
use Rattle.text_form.specs.declared.Command.TheVariants as command
use Rattle.text_form.specs.declared.Stage.{Stage}
use Rattle.text_form.specs.declared.Stage.TheVariants as stage
use Rattle.text_form.specs.Assemble.{Progress, allowed, start as begin, token_ended, complete, line_ended, byte_read}
use Rattle.text_form.specs.Assemble.{word_bytes, key_bytes, given_bytes, advanced, text_read, closed, assemble, Assembles}
use Rattle.text_form.specs.Describe.{event_text, raw_text, word_text, word_lines, opening_text, tail_text, words_text, describe}
use Rattle.text_form.proofs.Reading.{reader, state, read_append, nothing}
use Rattle.text_form.proofs.Lines.{unopened, Gives, raw_line, Later, after_keys, after_events, later_allowed, event_line}
use Rattle.text_form.proofs.Tails.{Token, tail_line_lem, token_1, token_2, token_3}
use Rattle.text_form.proofs.Openings.{Ends, opening_read}
use Rattle.text_form.proofs.Scripts.{Byte, Word, words_bytes, words_low, tail_of, joined, tail_short, Opens, opens}

-- ---- between lines

-- where lines of words may stand with no opening; where a text may end
data Free : Stage → Type 0 where
  free_start : Free stage.Start
  free_events : Free stage.Events

data Closes : Stage → Type 0 where
  closes_start : Closes stage.Start
  closes_keys : Closes stage.Keys
  closes_events : Closes stage.Events
  closes_end : Closes stage.End

-- The reader is at the start of a line, in one of these stages. The lines before it give these bytes, once the words of the opening have come.
data Stands (ok : Stage → Type 0) (bytes : List ℕ) : Progress → Type 0 where
  stands : (line : ℕ) (c : Command) (f : ℕ) (s : Stage) (sides : Sides) (keys script : List ℕ) → ok s → script ++ unopened s sides keys ≡ bytes
      → Stands ok bytes (state line 0 s c 0 f sides keys script)

-- a line that gives the word w
gives_stands : {ok : Stage → Type 0} (line : ℕ) (c : Command) (f : ℕ) (s : Stage) (sides : Sides) (keys script text : List ℕ) (w : ℕ) {bytes : List ℕ}
    → ok stage.Events
    → Gives line s c f sides keys script text w → script ++ unopened s sides keys ≡ bytes
    → Stands ok (bytes ++ word_bytes w) (text_read (state line 0 s c 0 f sides keys script) text)
unfolding unopened
gives_stands line c f s sides keys script text w e g is =
    rw g.leads.is (stands (line + 1) g.command g.first stage.Events sides keys _ e (append-nil _ ∙ ap (λ (l : List ℕ). l ++ word_bytes w) is))

-- lines that may be written for words, in these stages
WordLine : (Stage → Type 0) → (ℕ → List ℕ) → Type 0
WordLine ok text = (w : ℕ) → Word w → (bytes : List ℕ) (p : Progress) → Stands ok bytes p
    → Stands ok (bytes ++ word_bytes w) (text_read p (text w ++ newline ∷ []))

free_allowed : {s : Stage} → Free s → (n : ℕ) → (allowed s n command.Word ≡ true) × (allowed s n command.Tail ≡ true)
free_allowed free_start n = (refl, refl)
free_allowed free_events n = (refl, refl)

raw_stands : WordLine Free raw_text
unfolding WordLine
raw_stands w h bytes p (stands line c f s sides keys script e is) =
    gives_stands line c f s sides keys script (raw_text w ++ newline ∷ []) w free_events
    (raw_line line s c f sides keys script w h (free_allowed e (length keys)).0) is

word_gives :
    (line : ℕ) (c : Command) (f : ℕ) (s : Stage) (sides : Sides) (keys script : List ℕ) (w : ℕ) → Word w → Later s
    → Gives line s c f sides keys script (word_text w ++ newline ∷ []) w
unfolding word_text
word_gives line c f s sides keys script w h l =
    decide (is_event_word w)
    (λ e. rw e
    (subst (Gives line s c f sides keys script (event_text (event_of w) ++ newline ∷ [])) (sym (eqb-true w (word_of (event_of w)) (and_left _ _ e)))
    (event_line line s c f sides keys script l (event_of w) (and_right (eqb w (word_of (event_of w))) _ e))))
    (λ e. rw e (raw_line line s c f sides keys script w h (later_allowed l (length keys) command.Word refl)))

word_stands : WordLine Later word_text
unfolding WordLine
word_stands w h bytes p (stands line c f s sides keys script e is) =
    gives_stands line c f s sides keys script (word_text w ++ newline ∷ []) w after_events (word_gives line c f s sides keys script w h e) is

lines_stand : {ok : Stage → Type 0} (text : ℕ → List ℕ) → WordLine ok text → (ws : List ℕ) → Each Word ws → (bytes : List ℕ) (p : Progress) → Stands ok bytes p
    → Stands ok (bytes ++ words_bytes ws) (text_read p (word_lines text ws))
unfolding WordLine words_bytes word_lines text_read
lines_stand text line [] nil bytes p st = rw (append-nil bytes) st
lines_stand text line (w ∷ ws) (cons h hs) bytes p st =
    rw (
      ← append_assoc bytes (word_bytes w) (words_bytes ws),
      ← append_assoc (text w) (newline ∷ []) (word_lines text ws),
      read_append p (text w ++ newline ∷ []) (word_lines text ws),
    )
    (lines_stand text line ws hs (bytes ++ word_bytes w) (text_read p (text w ++ newline ∷ [])) (line w h bytes p st))

-- ---- the tail

closed_free : {s : Stage} → Free s → Closes s
closed_free free_start = closes_start
closed_free free_events = closes_events

closed_later : {s : Stage} → Later s → Closes s
closed_later after_keys = closes_keys
closed_later after_events = closes_events

-- stages in which a tail may stand, and a text may end
record Tailed (ok : Stage → Type 0) : Type 1 where
  closes : {s : Stage} → ok s → Closes s
  tail_allowed : {s : Stage} → ok s → (n : ℕ) → allowed s n command.Tail ≡ true

tail_token : (b : ℕ) (bs : List ℕ) → length (b ∷ bs) < 4 → Each Byte (b ∷ bs) → (k : ℕ) × (v : ℕ) × Token (b ∷ bs) k v
tail_token a [] h (cons ha nil) = (1, _, token_1 a ha)
tail_token a (b ∷ []) h (cons ha (cons hb nil)) = (2, _, token_2 a ha b hb)
tail_token a (b ∷ c ∷ []) h (cons ha (cons hb (cons hc nil))) = (3, _, token_3 a ha b hb c hc)
tail_token a (b ∷ c ∷ d ∷ cs) h e = absurd (omega arith)

tail_stands : {ok : Stage → Type 0} → Tailed ok → (cs : List ℕ) → length cs < 4 → Each Byte cs → (bytes : List ℕ) (p : Progress) → Stands ok bytes p
    → Stands Closes (bytes ++ cs) (text_read p (tail_text cs))
unfolding tail_text text_read unopened
tail_stands t [] h e bytes p (stands line c f s sides keys script o is) = stands line c f s sides keys script (t.closes o) (is ∙ sym (append-nil bytes))
tail_stands t (b ∷ bs) h e bytes p (stands line c f s sides keys script o is) =
    let g = tail_token b bs h e in
    rw (tail_line_lem line s c f sides keys script (t.tail_allowed o (length keys)) b bs g.0 g.1 g.2).is
    (stands (line + 1) command.Tail g.1 stage.End sides keys _ closes_end (append-nil _ ∙ ap (λ (l : List ℕ). l ++ b ∷ bs) is))

-- ---- the end

-- a line's end more
empty_line : (line : ℕ) (c : Command) (f : ℕ) (s : Stage) (sides : Sides) (keys script : List ℕ)
    → text_read (state line 0 s c 0 f sides keys script) (newline ∷ []) ≡ state (line + 1) 0 s c 0 f sides keys script
unfolding text_read byte_read token_ended line_ended complete
empty_line line c f s sides keys script = nothing (state line 0 s c 0 f sides keys script) (reader (line + 1) 0 s c 0 f sides (length keys))

record Ended (p : Progress) (bytes : List ℕ) : Type 0 where
  faultless : (advanced p (closed p.reader)).reader.fault ≡ false
  gives : (advanced p (closed p.reader)).script ≡ bytes

ended : (line : ℕ) (c : Command) (f : ℕ) {s : Stage} (sides : Sides) (keys script bytes : List ℕ) → Closes s → script ++ unopened s sides keys ≡ bytes
    → Ended (state line 0 s c 0 f sides keys script) bytes
unfolding advanced closed given_bytes unopened
ended line c f sides keys script bytes closes_start is = record { faultless = refl; gives = is }
ended line c f sides keys script bytes closes_keys is = record { faultless = refl; gives = is }
ended line c f sides keys script bytes closes_events is = record { faultless = refl; gives = is }
ended line c f sides keys script bytes closes_end is = record { faultless = refl; gives = is }

stands_ended : (bytes : List ℕ) (p : Progress) → Stands Closes bytes p → Ended (text_read p (newline ∷ [])) bytes
stands_ended bytes p (stands line c f s sides keys script e is) =
    rw (empty_line line c f s sides keys script) (ended (line + 1) c f sides keys script bytes e is)

abbrev first : Progress
first = record { reader = begin; keys = []; script = [] }

assembles : (text bytes : List ℕ) → Stands Closes bytes (text_read first text) → Assembles text bytes
unfolding assemble
assembles text bytes st =
    let e : Ended (text_read first (text ++ newline ∷ [])) bytes =
    rw (read_append first text (newline ∷ [])) (stands_ended bytes (text_read first text) st) in
    record { faultless = e.faultless; gives = e.gives }

-- ---- the theorem

first_stands : Stands Free [] first
unfolding begin unopened
first_stands = stands 1 command.Sides 0 stage.Start (record { ahead = 0; behind = 0 }) [] [] free_start refl

-- a script that opens no ring
raw_words : (ws : List ℕ) → Each Word ws → Stands Free (words_bytes ws) (text_read first (word_lines raw_text ws))
raw_words ws h = lines_stand raw_text raw_stands ws h [] first first_stands

-- one that opens a ring
module _ (ws : List ℕ) (h : Each Word ws) (t : Table) (o : Opens ws t) where
  abbrev head : List ℕ
  head = word_bytes (head_word t.sides (size t) 0) ++ key_bytes t.keys

  opening_stands : Stands Later head (text_read first (opening_text t))
  unfolding begin unopened given_bytes
  opening_stands =
      let e : Ends t.sides [] first (opening_text t) t.keys =
      opening_read 1 t.sides.ahead t.sides.behind o.ahead_low o.ahead_high o.behind_low o.behind_high t.keys
      o.some o.few o.keys_small in
      rw e.leads.is (stands e.line command.Keys e.first stage.Keys t.sides t.keys [] after_keys refl)

  opened_words : Stands Later (words_bytes ws) (text_read first (opening_text t ++ word_lines word_text (drop (1 + size t) ws)))
  opened_words =
      rw (o.bytes, read_append first (opening_text t) (word_lines word_text (drop (1 + size t) ws)))
      (lines_stand word_text word_stands (drop (1 + size t) ws) (each_drop (1 + size t) h) head (text_read first (opening_text t)) opening_stands)

free_tailed : Tailed Free
free_tailed = record { closes = closed_free; tail_allowed = λ o n. (free_allowed o n).1 }

later_tailed : Tailed Later
later_tailed = record { closes = closed_later; tail_allowed = λ o n. later_allowed o n command.Tail refl }

words_stand :
    (ws : List ℕ) → Each Word ws → (cs : List ℕ) → length cs < 4 → Each Byte cs
    → Stands Closes (words_bytes ws ++ cs) (text_read first (words_text ws ++ tail_text cs))
unfolding words_text
words_stand ws h cs l e =
    rw (read_append first (words_text ws) (tail_text cs))
    (decide (is_accepted (script_answer ws))
    (λ a. rw a (tail_stands later_tailed cs l e (words_bytes ws) _ (opened_words ws h (script_table ws) (opens ws (accepted_is (script_answer ws) a)))))
    (λ a. rw a (tail_stands free_tailed cs l e (words_bytes ws) _ (raw_words ws h))))

-- for every list of bytes, the text that describes it assembles to it
pub described_assembles : (bytes : List ℕ) → Each (λ b. b < 256) bytes → Assembles (describe bytes) bytes
unfolding describe
described_assembles bytes h =
    assembles (describe bytes) bytes
    (rw (joined bytes h) at
    (words_stand (little_endian bytes) (words_low bytes h) (tail_of bytes) (tail_short bytes) (each_drop (4 * length (little_endian bytes)) h)))
